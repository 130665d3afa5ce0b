-- The words that name a report.
use Rattle.std.specs.Prelude.{ℕ, List, ◌∷◌, ◌++◌, codes}
use Rattle.std.specs.Fmt.{decimal}
use Rattle.ali_base.specs.CivilDay.{day_text}
use Rattle.ali_base.specs.Columns.{trimmed}
use Rattle.audit_reports.specs.declared.report.Report.{Report}
use Rattle.audit_reports.specs.declared.report.Report.TheVariants.{Stats, Company, Esn, Unlocked, InRange, Code}

-- `STATS`, `COMPANY company`, `ESN number`, `UNLOCKED MMDDYY`, `RANGE id`, `CODE code`; a company stands without the spaces at its end, and numbers without leading zeros
abbrev pub report_words : Report → List ℕ
report_words Stats = codes "STATS"
report_words (Company company) = codes "COMPANY" ++ 32 ∷ trimmed company
report_words (Esn esn) = codes "ESN" ++ 32 ∷ decimal esn
report_words (Unlocked day) = codes "UNLOCKED" ++ 32 ∷ day_text day
report_words (InRange id) = codes "RANGE" ++ 32 ∷ decimal id
report_words (Code code) = codes "CODE" ++ 32 ∷ decimal code
