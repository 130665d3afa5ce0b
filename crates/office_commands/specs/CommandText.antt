-- The text of each command: one line, without its end. Of a file the line tells how many bytes follow.
use Rattle.std.specs.Prelude.{◌≡◌, ℕ, ◌≤◌, List, ◌∷◌, ◌++◌, codes}
use Rattle.std.specs.Fmt.{decimal}
use Rattle.ali_base.specs.Editors.{IsEditor, IsSerial}
use Rattle.ali_base.specs.NodeNames.{node_text}
use Rattle.ali_base.specs.declared.names.NodeName.{NodeName}
use Rattle.audit_reports.specs.Reports.{IsReport}
use Rattle.audit_reports.specs.ReportWords.{report_words}
use Rattle.audit_reports.specs.declared.report.Report.{Report as OfficeReport}
use Rattle.office_entry.specs.EditText.{IsEditText}
use Rattle.office_commands.specs.Commands.{IsAsk, IsOrder}
use Rattle.office_commands.specs.declared.command.TheConstants.{FILE_LIMIT}
use Rattle.office_commands.specs.declared.command_line.CommandLine.{CommandLine}
use Rattle.office_commands.specs.declared.command_line.CommandLine.TheVariants.{Ask, Report, File, Edit, Write, Next, Batch, CatchUp, Order}
use Rattle.office_commands.specs.declared.order.Order.{Order as NodeOrder}
use Rattle.office_commands.specs.declared.order.Order.TheVariants as order

-- a word, and the words behind it
abbrev pub spaced : List ℕ → List ℕ → List ℕ
spaced word words = word ++ 32 ∷ words

-- `ASK node position tn since`
abbrev pub ask_text : NodeName → ℕ → List ℕ → ℕ → List ℕ
ask_text node position tn since =
    spaced (codes "ASK") (spaced (node_text node) (spaced (decimal position) (spaced tn (decimal since))))

-- `REPORT node report`
abbrev pub report_command_text : NodeName → OfficeReport → List ℕ
report_command_text node report = spaced (codes "REPORT") (spaced (node_text node) (report_words report))

-- `FILE length`
abbrev pub file_text : ℕ → List ℕ
file_text len = spaced (codes "FILE") (decimal len)

-- `EDIT editor serial`, and the text of the edit
abbrev pub edit_text : ℕ → ℕ → List ℕ → List ℕ
edit_text editor serial text = spaced (codes "EDIT") (spaced (decimal editor) (spaced (decimal serial) text))

-- `WRITE node`
abbrev pub write_text : NodeName → List ℕ
write_text node = spaced (codes "WRITE") (node_text node)

-- `BOOK`, `SHIP node number`, `DELIVER message`, `TAKE node`, `ALONE`, `PAIR`, `STOP node`, `START node`, `START duty`, `STATUS`
abbrev pub order_text : NodeOrder → List ℕ
order_text order.Book = codes "BOOK"
order_text (order.Ship node number) = spaced (codes "SHIP") (spaced (node_text node) (decimal number))
order_text (order.Deliver message) = spaced (codes "DELIVER") (decimal message)
order_text (order.Take node) = spaced (codes "TAKE") (node_text node)
order_text order.Alone = codes "ALONE"
order_text order.Pair = codes "PAIR"
order_text (order.Stop node) = spaced (codes "STOP") (node_text node)
order_text (order.Start node) = spaced (codes "START") (node_text node)
order_text order.StartDuty = spaced (codes "START") (codes "duty")
order_text order.Status = codes "STATUS"

-- the text of an edit's command
pub record IsEditLine (text : List ℕ) (editor serial : ℕ) (words : List ℕ) : Type 0 where
  pub editor_is : IsEditor editor
  pub serial_is : IsSerial serial
  pub line_is : text ≡ edit_text editor serial words

-- the text is that of this line
abbrev pub SpellsLine : List ℕ → CommandLine → Type 0
SpellsLine text (Ask ask) = IsAsk ask.position ask.tn ask.since × (text ≡ ask_text ask.node ask.position ask.tn ask.since)
SpellsLine text (Report node report) = IsReport report × (text ≡ report_command_text node report)
SpellsLine text (File len) = (len ≤ FILE_LIMIT) × (text ≡ file_text len)
SpellsLine text (Edit editor serial edit) = (words : List ℕ) × IsEditText words edit × IsEditLine text editor serial words
SpellsLine text (Write node) = text ≡ write_text node
SpellsLine text Next = text ≡ codes "NEXT"
SpellsLine text Batch = text ≡ codes "BATCH"
SpellsLine text CatchUp = text ≡ codes "CATCHUP"
SpellsLine text (Order order) = IsOrder order × (text ≡ order_text order)
