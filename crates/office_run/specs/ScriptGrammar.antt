-- The grammar of scripts: a list of commands, each by its text.
use Rattle.std.specs.Prelude.{◌≡◌, ◌≢◌, ◌⊎◌, ℕ, List, [], ◌∷◌, ◌++◌, length, codes}
use Rattle.office_entry.specs.EditText.{IsEditText}
use Rattle.office_commands.specs.Commands.{Command, Ask, Report, File, Edit, Write, Next, Batch, Catch_up, Ordered, IsCommand}
use Rattle.office_commands.specs.CommandText.{ask_text, report_command_text, file_text, edit_text, write_text, order_text}

-- the bytes are the end of a line, which may be missing at the end of the bytes; rest is what is left
abbrev pub LineEnds : List ℕ → List ℕ → Type 0
LineEnds bytes rest = (bytes ≡ 10 ∷ rest) ⊎ ((bytes ≡ []) × (rest ≡ []))

-- the bytes begin with this text and the end of its line
abbrev pub BeginsLine : List ℕ → List ℕ → List ℕ → Type 0
BeginsLine bytes text rest = (tail : List ℕ) × (bytes ≡ text ++ tail) × LineEnds tail rest

-- the bytes begin with the text of a command: one line, which for a file has its length and is followed by its bytes and the end of a line
abbrev pub Spelled : List ℕ → Command → List ℕ → Type 0
Spelled bytes (Ask node position tn since) rest = BeginsLine bytes (ask_text node position tn since) rest
Spelled bytes (Report node report) rest = BeginsLine bytes (report_command_text node report) rest
Spelled bytes (File content) rest = (left : List ℕ) × BeginsLine bytes (file_text (length content)) left × BeginsLine left content rest
Spelled bytes (Edit editor serial edit) rest = (text : List ℕ) × IsEditText text edit × BeginsLine bytes (edit_text editor serial text) rest
Spelled bytes (Write node) rest = BeginsLine bytes (write_text node) rest
Spelled bytes Next rest = BeginsLine bytes (codes "NEXT") rest
Spelled bytes Batch rest = BeginsLine bytes (codes "BATCH") rest
Spelled bytes Catch_up rest = BeginsLine bytes (codes "CATCHUP") rest
Spelled bytes (Ordered order) rest = BeginsLine bytes (order_text order) rest

-- the bytes begin with a command; rest is what is left
pub record BeginsWith (bytes : List ℕ) (command : Command) (rest : List ℕ) : Type 0 where
  pub lawful : IsCommand command
  pub spelled : Spelled bytes command rest

-- the bytes are these commands, one after the other, and then rest
abbrev pub Reads : List ℕ → List Command → List ℕ → Type 0
Reads bytes [] rest = bytes ≡ rest
Reads bytes (command ∷ commands) rest = (left : List ℕ) × BeginsWith bytes command left × Reads left commands rest

-- the bytes are a script of these commands
abbrev pub IsScript : List ℕ → List Command → Type 0
IsScript bytes commands = Reads bytes commands []

-- after these commands comes something that begins with no command
pub record StopsAfter (bytes : List ℕ) (commands : List Command) : Type 0 where
  pub rest : List ℕ
  pub front : Reads bytes commands rest
  pub more : rest ≢ []
  pub stop : (command : Command) (left : List ℕ) → BeginsWith rest command left → ⊥
