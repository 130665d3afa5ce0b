-- Reading the words of a report, by the first one.
use Rattle.std.specs.Prelude.{ℕ, ◌&&◌, nat_le, List, length, codes, Option, Some, None, if◌then◌else◌, option_map}
use Rattle.std.specs.Str.{bytes_eq}
use Rattle.ali_base.specs.Steps.{◌>>=◌, when}
use Rattle.ali_base.specs.CivilDay.{day_of}
use Rattle.ali_base.specs.Columns.{trimmed}
use Rattle.ali_base.specs.Company.{company_of}
use Rattle.ali_base.specs.StreetKey.{padded_to}
use Rattle.ali_base.specs.declared.esn.TheConstants.{HIGHEST_ESN}
use Rattle.text_line.specs.WordReading.{number_of, split_once}
use Rattle.audit_reports.specs.declared.report.TheConstants.{HIGHEST_CODE}
use Rattle.audit_reports.specs.declared.report.Report.{Report}
use Rattle.audit_reports.specs.declared.report.Report.TheVariants.{Stats, Company, Esn, Unlocked, InRange, Code}

-- the company that a word without spaces at its end names
unfoldable pub company_named : List ℕ → Option (List ℕ)
company_named word =
    if nat_le (length word) 5 && bytes_eq (trimmed word) word then company_of (padded_to 5 word) else None

-- behind `COMPANY`
abbrev pub company_report : List ℕ → Option Report
company_report word = option_map Company (company_named word)

-- behind `ESN`
unfoldable pub esn_report : List ℕ → Option Report
esn_report word = do
  esn ← number_of word
  when (nat_le 1 esn && nat_le esn HIGHEST_ESN) (Esn esn)

-- behind `UNLOCKED`
abbrev pub unlocked_report : List ℕ → Option Report
unlocked_report word = option_map Unlocked (day_of word)

-- behind `RANGE`
abbrev pub range_report : List ℕ → Option Report
range_report word = option_map InRange (number_of word)

-- behind `CODE`
unfoldable pub code_report : List ℕ → Option Report
code_report word = do
  code ← number_of word
  when (nat_le code HIGHEST_CODE) (Code code)

-- a word, and what stands behind it
abbrev pub by_word : List ℕ → List ℕ → Option Report
by_word word rest =
    if bytes_eq word (codes "COMPANY")
    then company_report rest
    else (if bytes_eq word (codes "ESN")
    then esn_report rest
    else (if bytes_eq word (codes "UNLOCKED")
    then unlocked_report rest
    else (if bytes_eq word (codes "RANGE")
    then range_report rest
    else (if bytes_eq word (codes "CODE") then code_report rest else None))))

-- words in two parts at the first space, or without one
abbrev pub report_in : List ℕ → Option (List ℕ × List ℕ) → Option Report
report_in words None = when (bytes_eq words (codes "STATS")) Stats
report_in words (Some parts) = by_word parts.0 parts.1

unfoldable pub report_of : List ℕ → Option Report
report_of words = report_in words (split_once 32 words)
