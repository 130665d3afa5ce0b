-- What writing a report does to what a sink holds, and to its count of faults.
use Rattle.std.specs.Prelude.{◌≡◌, ℕ, ◌≤◌, List, Result, Ok, Err}
use Rattle.std.specs.Io.KnownBytes.{Appends}
use Rattle.std.specs.declared.option.Option.{Option}
use Rattle.ali_base.specs.Faults.{Rose}
use Rattle.ali_base.specs.WholePuts.{AppendsPart}
use Rattle.audit_reports.specs.declared.report_fault.ReportFault.{ReportFault}
use Rattle.audit_reports.specs.declared.report_fault.ReportFault.TheVariants.{SinkFault, NoMemory}

-- the sink holds all of the text more, or at a fault of its own a part of it
abbrev pub PutsText : Option (List ℕ) → Option (List ℕ) → List ℕ → Result (Unit {0}) ReportFault → Type 0
PutsText old new text (Ok done) = Appends old new text
PutsText old new text (Err SinkFault) = AppendsPart old new text
PutsText old new text (Err NoMemory) = Unit {0}

-- the count never falls, and it rose where the sink failed; where memory ran out the sink is as it was
abbrev pub PutsCause : {S : Type 0} (faults : S → ℕ) (old new : S) → Result (Unit {0}) ReportFault → Type 0
PutsCause faults old new (Ok done) = faults old ≤ faults new
PutsCause faults old new (Err SinkFault) = (faults old ≤ faults new) × Rose (faults old) (faults new)
PutsCause faults old new (Err NoMemory) = new ≡ old
