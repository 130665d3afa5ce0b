-- The step of the machine: a command, its replies and the machine after it; and the replies to a list of commands.
use Rattle.std.specs.Prelude.{ℕ, suc, zero, ◌≡◌, List, [], ◌∷◌, ◌++◌, Bool, Option, Some, None}
use Rattle.office_commands.specs.Commands.{Command}
use Rattle.command_machine.specs.Courses.{Event, First, row_of, then_comes, told_of}
use Rattle.command_machine.specs.Machine.{Moment}
use Rattle.command_machine.specs.Replies.{Reply, Told}
use Rattle.world_rows.specs.Counts.{NeverFall}
use Rattle.world_rows.specs.Rows.{Gives}
use Rattle.world_rows.specs.Told.{Failed}

-- a command on its way: the moment, what was told, and the event that comes next; none where the command is over
pub record Course : Type 0 where
  pub moment : Moment
  pub told : List Reply
  pub event : Option Event

-- before its first event
abbrev pub begun : Moment → Command → Course
begun m command = record { moment = m; told = []; event = Some (First command) }

-- after its last
abbrev pub over : Moment → List Reply → Course
over m told = record { moment = m; told = told; event = None }

-- One event, by its row. The counts of faults never fall.
pub record GoesOn (c : Course) (event : Event) (d : Course) : Type 0 where
  pub lasted : Bool
  pub reply : Reply
  pub gives : Gives c.moment.counts d.moment.counts (λ disk. Told (Failed disk)) c.moment.machine
      (row_of lasted c.moment.machine event) reply d.moment.machine
  pub counts : NeverFall c.moment.counts d.moment.counts
  pub told : d.told ≡ c.told ++ told_of event d.moment.machine reply
  pub next : d.event ≡ then_comes event d.moment.machine reply

abbrev pub Moves : Course → Option Event → Course → Type 0
Moves c None d = ⊥
Moves c (Some event) d = GoesOn c event d

-- so many events
abbrev pub Runs : ℕ → Course → Course → Type 0
Runs zero c d = c ≡ d
Runs (suc n) c d = (next : Course) × Moves c c.event next × Runs n next d

-- the step of a command, with all that it tells
pub record Steps (m : Moment) (command : Command) (told : List Reply) (now : Moment) : Type 0 where
  pub events : ℕ
  pub runs : Runs events (begun m command) (over now told)

-- A prefix of the events of a command, and what they told. Where it is left for want of memory, an event that was not done may have looked at a disk.
pub record StepsInPart (m : Moment) (command : Command) (told : List Reply) (now : Moment) : Type 0 where
  pub events : ℕ
  pub last : Moment
  pub event : Option Event
  pub runs : Runs events (begun m command) (record { moment = last; told = told; event = event })
  pub machine : now.machine ≡ last.machine
  pub counts : NeverFall last.counts now.counts

-- the replies to commands, one after the other
abbrev pub Replies : Moment → List Command → List Reply → Moment → Type 0
Replies m [] told now = (told ≡ []) × (now ≡ m)
Replies m (command ∷ commands) told now =
    (first : List Reply) × (rest : List Reply) × (next : Moment)
    × Steps m command first next × Replies next commands rest now × (told ≡ first ++ rest)
