-- The report of the lines that got a code.
use Rattle.std.specs.Prelude.{ℕ, ◌-◌, ◌==◌, List, [], ◌∷◌, codes, length, map, filter, flat_map, get_or}
use Rattle.std.specs.Fmt.{decimal}
use Rattle.std.specs.List.{range_with_len}
use Rattle.ali_base.specs.Columns.{trimmed}
use Rattle.sequence_once.specs.KeptCycles.{CycleRecord}
use Rattle.office_state.specs.OfficeState as office
use Rattle.audit_reports.specs.CsvLines.{csv_text}

abbrev pub code_names : List (List ℕ)
code_names = codes "company" ∷ codes "cycle" ∷ codes "line" ∷ codes "code" ∷ []

-- the lines, counted from 1, that got this code
abbrev pub lines_with : ℕ → List ℕ → List ℕ
lines_with code noted = filter (λ line. get_or noted (line - 1) 0 == code) (range_with_len 1 (length noted))

-- the fields of a line of a kept cycle
abbrev pub line_fields : ℕ → CycleRecord → ℕ → List (List ℕ)
line_fields code k line = trimmed k.company ∷ decimal k.cycle ∷ decimal line ∷ decimal code ∷ []

-- the rows of a kept cycle
abbrev pub cycle_rows : ℕ → CycleRecord → List (List (List ℕ))
cycle_rows code k = map (line_fields code k) (lines_with code k.codes)

-- the lines of the kept cycles that got this code, in the order of company, cycle and line
abbrev pub code_listing : ℕ → office.State → List ℕ
code_listing code s = csv_text code_names (flat_map (cycle_rows code) s.cycles.kept)
