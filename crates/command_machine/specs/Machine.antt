-- The machine: the replicated world and the job. Its moment has besides how often each disk has failed.
use Rattle.std.specs.Prelude.{ℕ, List, length, Option, Some, None}
use Rattle.ali_base.specs.declared.duty.Duty.{Duty}
use Rattle.ali_base.specs.declared.names.NodeName.{NodeName}
use Rattle.batch_desk.specs.Jobs.{IsJob}
use Rattle.batch_desk.specs.declared.job.Job.{Job}
use Rattle.node_journal.specs.declared.frame.TheConstants.{LAST_EPOCH, MOST_FRAMES}
use Rattle.office_entry.specs.declared.entry.Entry.{Entry}
use Rattle.office_state.specs.OfficeState.{State, office_limits}
use Rattle.pair_world.specs.Frames.{Frame, entries}
use Rattle.pair_world.specs.Step.{Bounds}
use Rattle.pair_world.specs.World.{World, node_at, opened_from, other, without_doubt}
use Rattle.world_rows.specs.Counts.{Counts}
use Rattle.world_rows.specs.Histories.{state_of as state_in, IsLawful as IsLawfulWorld}

-- how many frames a journal may have, and the last epoch
abbrev pub office_bounds : Bounds
office_bounds = record { frames = MOST_FRAMES; last_epoch = LAST_EPOCH }

-- the world, and the job: the file or the edit that was read last
pub record Machine : Type 0 where
  pub world : World Entry
  pub job : Option Job

-- the machine, and the disks' counts of faults
pub record Moment : Type 0 where
  pub machine : Machine
  pub counts : Counts

-- the machine at the start of a run, over the duties and the two journals that the disks stand for
abbrev pub first_machine : List Duty → List (Frame Entry) → List (Frame Entry) → Machine
first_machine duties a b = record { world = without_doubt (opened_from duties a b); job = None }

-- the holder of the duty, and the other node
abbrev pub holder_of : Machine → NodeName
holder_of m = m.world.base.duty.holder

abbrev pub mirror_of : Machine → NodeName
mirror_of m = other (holder_of m)

-- the journal of a node
abbrev pub journal_of : Machine → NodeName → List (Frame Entry)
journal_of m n = (node_at m.world.base.nodes n).journal

-- how many entries are booked, and the state after them
abbrev pub count_of : Machine → ℕ
count_of m = length m.world.base.booked

abbrev pub state_of : Machine → State
state_of m = state_in office_limits m.world

-- the booked entries
abbrev pub history_of : Machine → List Entry
history_of m = entries m.world.base.booked

-- the machine in another world
abbrev pub with_world : Machine → World Entry → Machine
with_world m w = record m { world = w }

-- there is no job, or it is one
abbrev pub HasJob : Option Job → Type 0
HasJob None = Unit {0}
HasJob (Some job) = IsJob job

-- The world is lawful, and the job is one.
pub record IsLawful (m : Machine) : Type 0 where
  pub world : IsLawfulWorld office_limits office_bounds m.world
  pub job : HasJob m.job
