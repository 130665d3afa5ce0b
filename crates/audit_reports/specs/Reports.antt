-- Which values are reports.
use Rattle.std.specs.Prelude.{◌≡◌, ℕ, ◌^◌, ◌<◌, ◌≤◌, true}
use Rattle.ali_base.specs.CivilDay.{IsDay}
use Rattle.ali_base.specs.Company.{is_company}
use Rattle.ali_base.specs.declared.esn.TheConstants.{HIGHEST_ESN}
use Rattle.audit_reports.specs.declared.report.TheConstants.{HIGHEST_CODE}
use Rattle.audit_reports.specs.declared.report.Report.{Report}
use Rattle.audit_reports.specs.declared.report.Report.TheVariants.{Stats, Company, Esn, Unlocked, InRange, Code}

abbrev pub IsReport : Report → Type 0
IsReport Stats = Unit {0}
IsReport (Company company) = is_company company ≡ true
IsReport (Esn esn) = (1 ≤ esn) × (esn ≤ HIGHEST_ESN)
IsReport (Unlocked day) = IsDay day
IsReport (InRange id) = id < 2 ^ 32
IsReport (Code code) = code ≤ HIGHEST_CODE
