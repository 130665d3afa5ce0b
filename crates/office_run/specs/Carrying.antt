-- Commands that a desk carries out one after the other: what is told of them, the machine they lead to, and where want of memory leaves them.
use Rattle.std.specs.Prelude.{◌≡◌, ℕ, ◌+◌, List, [], ◌∷◌, ◌++◌, Result, Ok, Err}
use Rattle.ali_base.specs.declared.no_memory.NoMemory.{NoMemory}
use Rattle.command_desk.specs.MadeReply.{ShowsMachine, counts_at, switches_of}
use Rattle.command_desk.specs.OpenedDesk.{Keeps}
use Rattle.command_desk.specs.RefusedLines.{refused_lines}
use Rattle.command_desk.specs.declared.desk.Desk.{Desk}
use Rattle.command_machine.specs.Machine.{Moment, IsLawful}
use Rattle.command_machine.specs.Replies.{Reply}
use Rattle.command_machine.specs.ReplyText.{text_of}
use Rattle.command_machine.specs.Steps.{Replies}
use Rattle.command_machine.specs.Switches.{Switches, IsSwitched}
use Rattle.crash_disk.specs.DiskState.{DiskState}
use Rattle.office_commands.specs.Commands.{Command}
use Rattle.office_run.specs.Generated.{LeftOff}
use Rattle.office_run.specs.Replied.{all_of}
use Rattle.office_run.specs.declared.tally.Tally.{Tally}
use Rattle.sha2.specs.Hashers.{Holds256}
use Rattle.world_rows.specs.Counts.{Counts, NeverFall}

-- what is told is such as the nodes and the register allow, and these are the counts and the switches after the last of it
abbrev pub SwitchedTo : Counts → Switches → List Command → List (List Reply) → Counts → Switches → Type 0
SwitchedTo before s [] told now t = (told ≡ []) × (now ≡ before) × (t ≡ s)
SwitchedTo before s (command ∷ commands) told now t =
    (first : List Reply) × (rest : List (List Reply)) × (next : Counts) × (between : Switches)
    × (told ≡ first ∷ rest) × NeverFall before next × IsSwitched before next s command first between
    × SwitchedTo next between commands rest now t

-- The commands are carried out, and this is told of each.
pub record Carried {D : Type 0} (state : D → DiskState) (from desk : Desk D) (commands : List Command) (told : List (List Reply)) : Type 0 where
  pub switched : SwitchedTo (counts_at state from) (switches_of from) commands told (counts_at state desk) (switches_of desk)
  pub machine : (m : Moment) → ShowsMachine state from m → IsLawful m.machine
      → (last : Moment) × ShowsMachine state desk last × IsLawful last.machine × Replies m commands (all_of told) last
  pub kept : Keeps state from desk

-- Memory ran out: some of the commands are carried out, and of the next one a prefix of its events.
pub record IsLeft {D : Type 0} (state : D → DiskState) (from now : Desk D) (commands : List Command) : Type 0 where
  pub done : List Command
  pub rest : List Command
  pub all : commands ≡ done ++ rest
  pub told : List (List Reply)
  pub counts : Counts
  pub switches : Switches
  pub switched : SwitchedTo (counts_at state from) (switches_of from) done told counts switches
  pub falls : NeverFall counts (counts_at state now)
  pub machine : (m : Moment) → ShowsMachine state from m → IsLawful m.machine
      → (whole : Moment) × (last : Moment)
      × ShowsMachine state now last × IsLawful last.machine × Replies m done (all_of told) whole × LeftOff whole rest last
  pub kept : Keeps state from now

-- What was told is counted besides: the lines that are refused, and the text for the digest.
pub record Tallies (old new : Tally) (told : List (List Reply)) : Type 0 where
  pub refused : new.refused ≡ old.refused + refused_lines (all_of told)
  pub text : (before : List ℕ) → Holds256 old.replies before → Holds256 new.replies (before ++ text_of (all_of told))

-- the commands are carried out and counted, or memory ran out
abbrev pub Fills : {D : Type 0} → (D → DiskState) → (from now : Desk D) → List Command → (old new : Tally) → Result (Unit {0}) NoMemory → Type 0
Fills state from now commands old new (Ok done) = (told : List (List Reply)) × Carried state from now commands told × Tallies old new told
Fills state from now commands old new (Err e) = IsLeft state from now commands
