-- Reading a command's line, by its first word.
use Rattle.std.specs.Prelude.{ℕ, ◌&&◌, nat_le, List, codes, Option, Some, None, if◌then◌else◌}
use Rattle.std.specs.Str.{bytes_eq}
use Rattle.ali_base.specs.NodeNames.{node_of}
use Rattle.ali_base.specs.Steps.{◌>>=◌, when}
use Rattle.ali_base.specs.TelephoneNumber.{tn_of}
use Rattle.ali_base.specs.declared.editor.TheConstants.{EDITORS, LAST_SERIAL}
use Rattle.text_line.specs.WordReading.{number_of, split_once}
use Rattle.audit_reports.specs.WordsReading.{report_of as report_named}
use Rattle.office_entry.specs.EditReading.{edit_of_text}
use Rattle.office_commands.specs.declared.command.TheConstants.{FILE_LIMIT, POSITIONS}
use Rattle.office_commands.specs.declared.command_line.CommandLine.{CommandLine}
use Rattle.office_commands.specs.declared.command_line.CommandLine.TheVariants.{Ask, Report, File, Edit, Write, Next, Batch, CatchUp, Order}
use Rattle.office_commands.specs.declared.order.Order.TheVariants as order

-- behind `ASK`: `node position tn since`
unfoldable pub ask_of : List ℕ → Option CommandLine
ask_of words = do
  node ← split_once 32 words
  position ← split_once 32 node.1
  number ← split_once 32 position.1
  n ← node_of node.0
  p ← number_of position.0
  tn ← tn_of number.0
  since ← number_of number.1
  when (nat_le 1 p && nat_le p POSITIONS) (Ask (record { node = n; position = p; tn = tn; since = since }))

-- behind `REPORT`: `node report`
unfoldable pub report_of : List ℕ → Option CommandLine
report_of words = do
  node ← split_once 32 words
  n ← node_of node.0
  report ← report_named node.1
  Some (Report n report)

-- behind `FILE`: `length`
unfoldable pub file_of : List ℕ → Option CommandLine
file_of words = do
  len ← number_of words
  when (nat_le len FILE_LIMIT) (File len)

-- behind `EDIT`: `editor serial edit`
unfoldable pub edit_of : List ℕ → Option CommandLine
edit_of words = do
  editor ← split_once 32 words
  serial ← split_once 32 editor.1
  e ← number_of editor.0
  s ← number_of serial.0
  edit ← edit_of_text serial.1
  when (nat_le 1 e && nat_le e EDITORS && nat_le 1 s && nat_le s LAST_SERIAL) (Edit e s edit)

-- behind `WRITE`: `node`
unfoldable pub write_of : List ℕ → Option CommandLine
write_of words = do
  n ← node_of words
  Some (Write n)

-- behind `TAKE` and `STOP`: `node`
unfoldable pub take_of : List ℕ → Option CommandLine
take_of words = do
  n ← node_of words
  Some (Order (order.Take n))

unfoldable pub stop_of : List ℕ → Option CommandLine
stop_of words = do
  n ← node_of words
  Some (Order (order.Stop n))

-- behind `START`: `node`, or `duty`
unfoldable pub start_of : List ℕ → Option CommandLine
start_of words =
    if bytes_eq words (codes "duty")
    then Some (Order order.StartDuty)
    else (do
      n ← node_of words
      Some (Order (order.Start n)))

-- behind `SHIP`: `node number`
unfoldable pub ship_of : List ℕ → Option CommandLine
ship_of words = do
  node ← split_once 32 words
  n ← node_of node.0
  k ← number_of node.1
  when (nat_le 1 k) (Order (order.Ship n k))

-- behind `DELIVER`: `message`
unfoldable pub deliver_of : List ℕ → Option CommandLine
deliver_of words = do
  i ← number_of words
  when (nat_le 1 i) (Order (order.Deliver i))

-- a word alone
abbrev pub word_alone : List ℕ → Option CommandLine
word_alone word =
    if bytes_eq word (codes "NEXT")
    then Some Next
    else (if bytes_eq word (codes "BATCH")
    then Some Batch
    else (if bytes_eq word (codes "CATCHUP")
    then Some CatchUp
    else (if bytes_eq word (codes "BOOK")
    then Some (Order order.Book)
    else (if bytes_eq word (codes "ALONE")
    then Some (Order order.Alone)
    else (if bytes_eq word (codes "PAIR")
    then Some (Order order.Pair)
    else when (bytes_eq word (codes "STATUS")) (Order order.Status))))))

-- a word, and the words behind it: an order to the nodes
abbrev pub order_by_word : List ℕ → List ℕ → Option CommandLine
order_by_word word words =
    if bytes_eq word (codes "SHIP")
    then ship_of words
    else (if bytes_eq word (codes "DELIVER")
    then deliver_of words
    else (if bytes_eq word (codes "TAKE")
    then take_of words
    else (if bytes_eq word (codes "STOP")
    then stop_of words
    else (if bytes_eq word (codes "START") then start_of words else None))))

abbrev pub by_word : List ℕ → List ℕ → Option CommandLine
by_word word words =
    if bytes_eq word (codes "ASK")
    then ask_of words
    else (if bytes_eq word (codes "REPORT")
    then report_of words
    else (if bytes_eq word (codes "FILE")
    then file_of words
    else (if bytes_eq word (codes "EDIT")
    then edit_of words
    else (if bytes_eq word (codes "WRITE") then write_of words else order_by_word word words))))

-- a line in two parts at its first space, or without one
abbrev pub line_in : List ℕ → Option (List ℕ × List ℕ) → Option CommandLine
line_in line None = word_alone line
line_in line (Some parts) = by_word parts.0 parts.1

unfoldable pub line_of : List ℕ → Option CommandLine
line_of line = line_in line (split_once 32 line)
