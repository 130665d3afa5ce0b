-- Reading a script from its front.
use Rattle.std.specs.Prelude.{ℕ, ◌==◌, nat_lt, List, [], ◌∷◌, length, take, drop, Option, Some, None, unwrap_or, if◌then◌else◌}
use Rattle.ali_base.specs.Steps.{◌>>=◌, when}
use Rattle.text_line.specs.WordReading.{split_once}
use Rattle.office_commands.specs.Commands.{Command, Ask, Report, File, Edit, Write, Next, Batch, Catch_up, Ordered}
use Rattle.office_commands.specs.LineReading.{line_of}
use Rattle.office_commands.specs.declared.command_line.CommandLine.{CommandLine}
use Rattle.office_commands.specs.declared.command_line.CommandLine.TheVariants as line

-- the first line, and what is left after its end; without an end all is the line
unfoldable pub line_at : List ℕ → List ℕ × List ℕ
line_at bytes = unwrap_or (split_once 10 bytes) (bytes, [])

-- a file's bytes and what follows: the end of a line, or nothing
abbrev pub ended : List ℕ → List ℕ → Option (Command × List ℕ)
ended content [] = Some (File content, [])
ended content (byte ∷ rest) = when (byte == 10) (File content, rest)

-- the file of so many bytes at the front, and what is left after it and its line's end
unfoldable pub content_at : ℕ → List ℕ → Option (Command × List ℕ)
content_at len bytes = if nat_lt (length bytes) len then None else ended (take len bytes) (drop len bytes)

-- the command of a first line, and what is left after it
abbrev pub command_of_line : List ℕ → CommandLine → Option (Command × List ℕ)
command_of_line rest (line.Ask ask) = Some (Ask ask.node ask.position ask.tn ask.since, rest)
command_of_line rest (line.Report node report) = Some (Report node report, rest)
command_of_line rest (line.File len) = content_at len rest
command_of_line rest (line.Edit editor serial edit) = Some (Edit editor serial edit, rest)
command_of_line rest (line.Write node) = Some (Write node, rest)
command_of_line rest line.Next = Some (Next, rest)
command_of_line rest line.Batch = Some (Batch, rest)
command_of_line rest line.CatchUp = Some (Catch_up, rest)
command_of_line rest (line.Order order) = Some (Ordered order, rest)

-- the first command, and what is left after it
unfoldable pub command_at : List ℕ → Option (Command × List ℕ)
command_at bytes = let first = line_at bytes in (line_of first.0 >>= command_of_line first.1)
