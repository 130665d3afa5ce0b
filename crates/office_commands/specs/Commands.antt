-- Commands.
use Rattle.std.specs.Prelude.{ℕ, ◌^◌, ◌<◌, ◌≤◌, List, length}
use Rattle.ali_base.specs.Editors.{IsEditor, IsSerial}
use Rattle.ali_base.specs.TelephoneNumber.{IsTn}
use Rattle.ali_base.specs.declared.names.NodeName.{NodeName}
use Rattle.office_entry.specs.declared.edit.Edit.{Edit as GuideEdit}
use Rattle.office_entry.specs.Edits.{IsEdit}
use Rattle.audit_reports.specs.Reports.{IsReport}
use Rattle.audit_reports.specs.declared.report.Report.{Report as OfficeReport}
use Rattle.office_commands.specs.declared.command.TheConstants.{FILE_LIMIT, POSITIONS}
use Rattle.office_commands.specs.declared.order.Order.{Order}
use Rattle.office_commands.specs.declared.order.Order.TheVariants as order

-- a command: the request of a position at a node, which asks for a number after at least so many entries; a report of a node; a carrier's file; an editor's edit of the street guide; a node writes the next entry of the job, which is the file or edit that was read last; the next entry of the job is written, passed on and booked; all that are left of it are; the other node is brought to the holder's journal; and an order to the nodes, which is one event
pub data Command : Type 0 where
  Ask : (node : NodeName) (position : ℕ) (tn : List ℕ) (since : ℕ) → Command
  Report : (node : NodeName) (report : OfficeReport) → Command
  File : (content : List ℕ) → Command
  Edit : (editor serial : ℕ) (edit : GuideEdit) → Command
  Write : (node : NodeName) → Command
  Next : Command
  Batch : Command
  Catch_up : Command
  Ordered : (order : Order) → Command

-- a position is 1 to the number of positions
pub record IsAsk (position : ℕ) (tn : List ℕ) (since : ℕ) : Type 0 where
  pub low : 1 ≤ position
  pub high : position ≤ POSITIONS
  pub number : IsTn tn
  pub small : since < 2 ^ 32

-- frames and messages are counted from 1
abbrev pub IsOrder : Order → Type 0
IsOrder (order.Ship node number) = (1 ≤ number) × (number < 2 ^ 32)
IsOrder (order.Deliver message) = (1 ≤ message) × (message < 2 ^ 32)
IsOrder order = Unit {0}

-- what a command is
abbrev pub IsCommand : Command → Type 0
IsCommand (Ask node position tn since) = IsAsk position tn since
IsCommand (Report node report) = IsReport report
IsCommand (File content) = length content ≤ FILE_LIMIT
IsCommand (Edit editor serial edit) = IsEditor editor × IsSerial serial × IsEdit edit
IsCommand (Write node) = Unit {0}
IsCommand Next = Unit {0}
IsCommand Batch = Unit {0}
IsCommand Catch_up = Unit {0}
IsCommand (Ordered order) = IsOrder order
