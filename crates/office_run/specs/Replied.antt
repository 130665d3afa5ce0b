-- What was told to the commands of a script, by a machine over honest disks, and over any disks.
use Rattle.std.specs.Prelude.{◌≡◌, ℕ, ◌<◌, ◌+◌, List, [], ◌∷◌, ◌++◌, length, take, true, Option}
use Rattle.std.specs.Io.KnownBytes.{Appends}
use Rattle.office_commands.specs.Commands.{Command}
use Rattle.command_machine.specs.Machine.{Moment}
use Rattle.command_machine.specs.Replies.{Reply}
use Rattle.command_machine.specs.ReplyText.{text_of}
use Rattle.command_machine.specs.Steps.{StepsInPart, Replies}
use Rattle.command_machine.specs.Switches.{Switches, IsSwitched}
use Rattle.office_run.specs.Disks.{Disks, counts_of, IsHonest, IsFirst, IsLast}
use Rattle.office_run.specs.ScriptGrammar.{Reads, IsScript, StopsAfter}
use Rattle.world_rows.specs.Counts.{Counts, NeverFall}

-- the replies to all commands, one after the other
abbrev pub all_of : List (List Reply) → List Reply
all_of [] = []
all_of (first ∷ rest) = first ++ all_of rest

-- over any disks: what is told of each command is what the nodes and the register, up or down, allow, and the counts never fall
abbrev pub AreSwitched : Counts → Counts → Switches → List Command → List (List Reply) → Type 0
AreSwitched before now s [] told = (told ≡ []) × NeverFall before now
AreSwitched before now s (command ∷ commands) told =
    (first : List Reply) × (rest : List (List Reply)) × (next : Counts) × (t : Switches)
    × (told ≡ first ∷ rest) × NeverFall before next × IsSwitched before next s command first t
    × AreSwitched next now t commands rest

-- the same from some moment since the disks were handed in, with the nodes and the register up and no message sent
pub record AreSwitchedSince (before now : Disks) (commands : List Command) (told : List (List Reply)) : Type 0 where
  pub first : Counts
  pub since : NeverFall (counts_of before) first
  pub s : Switches
  pub register : s.register ≡ true
  pub a : s.a ≡ true
  pub b : s.b ≡ true
  pub sent : s.receivers ≡ []
  pub switched : AreSwitched first (counts_of now) s commands told

-- over honest disks: these are the replies of the machine, which is then at the end of the run
abbrev pub AreMachines : Disks → Disks → List Command → List (List Reply) → Type 0
AreMachines before now commands told =
    IsHonest before
    → (first : Moment) × (last : Moment) × IsFirst before first × Replies first commands (all_of told) last × IsLast now last

-- The commands have their replies.
pub record RepliedTo (before now : Disks) (commands : List Command) (old new : Option (List ℕ)) : Type 0 where
  pub told : List (List Reply)
  pub put : Appends old new (text_of (all_of told))
  pub switched : AreSwitchedSince before now commands told
  pub machine : AreMachines before now commands told

-- The bytes are a script, and each command has its reply.
pub record RepliedToAll (before now : Disks) (script : List ℕ) (old new : Option (List ℕ)) : Type 0 where
  pub commands : List Command
  pub reads : IsScript script commands
  pub replied : RepliedTo before now commands old new

-- Command k is the first outside the grammar, and those before it have their replies.
pub record StoppedAt (before now : Disks) (k : ℕ) (script : List ℕ) (old new : Option (List ℕ)) : Type 0 where
  pub commands : List Command
  pub stops : StopsAfter script commands
  pub number : k ≡ length commands + 1
  pub replied : RepliedTo before now commands old new

-- Some commands have their replies, and the next one, which is done, has a part of its replies, but not all of it.
pub record RepliedInPart (before now : Disks) (script : List ℕ) (old new : Option (List ℕ)) : Type 0 where
  pub commands : List Command
  pub next : Command
  pub rest : List ℕ
  pub reads : Reads script (commands ++ next ∷ []) rest
  pub told : List (List Reply)
  pub last : List Reply
  pub count : ℕ
  pub part : count < length (text_of last)
  pub put : Appends old new (text_of (all_of told) ++ take count (text_of last))
  pub switched : AreSwitchedSince before now (commands ++ next ∷ []) (told ++ last ∷ [])
  pub machine : AreMachines before now (commands ++ next ∷ []) (told ++ last ∷ [])

-- Some commands have their replies, and the next one was left on its way for want of memory, with nothing of it put.
pub record RepliedToSome (before now : Disks) (script : List ℕ) (old new : Option (List ℕ)) : Type 0 where
  pub commands : List Command
  pub next : Command
  pub rest : List ℕ
  pub reads : Reads script (commands ++ next ∷ []) rest
  pub told : List (List Reply)
  pub put : Appends old new (text_of (all_of told))
  pub switched : AreSwitchedSince before now commands told
  pub machine : IsHonest before
      → (first : Moment) × (whole : Moment) × (last : Moment) × (part : List Reply)
      × IsFirst before first × Replies first commands (all_of told) whole × StepsInPart whole next part last × IsLast now last
