-- What the laws of the machine speak of.
use Rattle.std.specs.Prelude.{◌≡◌, ◌⊎◌, ◌+◌, ◌<◌, ◌≤◌, List, [], ◌∷◌, ◌++◌, length, All, true, Some, None}
use Rattle.ali_base.specs.declared.duty.Mode.TheVariants.{Alone}
use Rattle.ali_base.specs.declared.names.NodeName.{NodeName}
use Rattle.batch_desk.specs.Jobs.{entries_left, IsStillKept}
use Rattle.batch_desk.specs.declared.job.Job.{Job}
use Rattle.command_machine.specs.Courses.{is_disk_of}
use Rattle.command_machine.specs.Machine.{Machine, Moment, IsLawful, office_bounds, holder_of, mirror_of, count_of, state_of}
use Rattle.command_machine.specs.Replies.{Reply, Told as Tells, Finished}
use Rattle.command_machine.specs.Steps.{Steps, Replies}
use Rattle.office_commands.specs.Commands.{Command, IsCommand, Next, Batch}
use Rattle.office_state.specs.OfficeState.{State}
use Rattle.pair_world.specs.Refusals.{Down}
use Rattle.pair_world.specs.World.{is_up, holder_journal}
use Rattle.world_rows.specs.Told.{Told, Refused, Failed, On_duty}

-- what is told of this node where it is left behind: it is down, or its disk failed
abbrev pub IsLost : NodeName → Told → Type 0
IsLost n (Refused (Down disk)) = is_disk_of n disk ≡ true
IsLost n (Failed disk) = is_disk_of n disk ≡ true
IsLost n told = ⊥

-- this node was left behind, and on which duty the other one then is alone
abbrev pub IsLeftBehind : NodeName → List Reply → Type 0
IsLeftBehind n [] = Unit {0}
IsLeftBehind n (Tells lost ∷ []) = IsLost n lost
IsLeftBehind n (Tells lost ∷ Tells (On_duty duty) ∷ []) = IsLost n lost
IsLeftBehind n told = ⊥

-- what may be told before the last reply: of NEXT and BATCH that the node that is not the holder was left behind
abbrev pub MayTell : Machine → Command → List Reply → Type 0
MayTell m Next before = IsLeftBehind (mirror_of m) before
MayTell m Batch before = IsLeftBehind (mirror_of m) before
MayTell m command before = before ≡ []

-- No disk is in doubt.
pub record IsSure (m : Machine) : Type 0 where
  pub a : m.world.failed_writes.a ≡ None
  pub b : m.world.failed_writes.b ≡ None
  pub duty : m.world.failed_duty ≡ None

-- The register and the holder are up.
pub record IsUsable (m : Machine) : Type 0 where
  pub register : m.world.register_up ≡ true
  pub up : is_up m.world.base (holder_of m)

-- No refusal of CATCHUP holds: the register, the holder and the other node are up, and the holder is alone.
pub record CanCatchUp (m : Machine) : Type 0 where
  pub usable : IsUsable m
  pub alone : m.world.base.duty.mode ≡ Alone
  pub mirror : is_up m.world.base (mirror_of m)

-- The holder can book: it is alone, or the other node is up, or an epoch is left in which it is alone.
abbrev pub CanBook : Machine → Type 0
CanBook m =
    (m.world.base.duty.mode ≡ Alone)
    ⊎ (is_up m.world.base (mirror_of m) ⊎ (m.world.base.duty.epoch < office_bounds.last_epoch))

-- The holder is up and can book, and nothing is pending; this is the job, and the journal has room for what is left of it.
pub record CanBatch (m : Machine) (job : Job) : Type 0 where
  pub usable : IsUsable m
  pub can_book : CanBook m
  pub free : length (holder_journal m.world.base) ≡ count_of m
  pub has_job : m.job ≡ Some job
  pub room : count_of m + length (entries_left (state_of m) job) ≤ office_bounds.frames

-- The job is read again: BATCH told of it at last that it is complete, in this state; then came commands, and what was booked of it is still kept.
pub record IsReadAgain (m now again : Moment) (job : Job) (s : State) : Type 0 where
  pub lawful : IsLawful m.machine
  pub before : List Reply
  pub first : Steps m Batch (before ++ Finished s job ∷ []) now
  pub commands : List Command
  pub told : List Reply
  pub are : All IsCommand commands
  pub between : Replies now commands told again
  pub has_job : again.machine.job ≡ Some job
  pub kept : IsStillKept (state_of again.machine) job
