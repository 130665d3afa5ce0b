-- The report of how much was booked, and what there is now.
use Rattle.std.specs.Prelude.{ℕ, ◌^◌, nat_lt, List, [], ◌∷◌, codes, length, map, filter}
use Rattle.std.specs.Fmt.{decimal}
use Rattle.std.specs.FinMap.{len}
use Rattle.std.specs.List.{range_with_len}
use Rattle.sequence_once.specs.KeptCycles.{known_companies}
use Rattle.number_table.specs.NumberTable.{unlocked_in}
use Rattle.office_entry.specs.declared.entry.Entry.{Entry}
use Rattle.office_state.specs.declared.limits.Limits.{Limits}
use Rattle.office_state.specs.States.{state}
use Rattle.office_state.specs.Tallies.{opens_of, lines_of, edits_of, times_of}
use Rattle.text_line.specs.WordLines.{with_words}
use Rattle.audit_reports.specs.CsvLines.{csv_text}

abbrev pub statistic_names : List (List ℕ)
statistic_names = codes "name" ∷ codes "value" ∷ []

-- a name, and its number
abbrev pub statistic : List ℕ → ℕ → List (List ℕ)
statistic name number = name ∷ decimal number ∷ []

-- the codes below a limit that came at least once, in ascending order
abbrev pub codes_that_came : (ℕ → ℕ) → ℕ → List ℕ
codes_that_came times limit = filter (λ code. nat_lt 0 (times code)) (range_with_len 0 limit)

-- `code c`
abbrev pub code_name : ℕ → List ℕ
code_name code = with_words [] (codes "code" ∷ decimal code ∷ [])

-- a code's name, and how often it came
abbrev pub code_statistic : (ℕ → ℕ) → ℕ → List (List ℕ)
code_statistic times code = statistic (code_name code) (times code)

abbrev pub code_statistics : (ℕ → ℕ) → ℕ → List (List (List ℕ))
code_statistics times limit = map (code_statistic times) (codes_that_came times limit)

-- those of every code; a code is below 2 ^ 16
unfoldable pub all_code_statistics : (ℕ → ℕ) → List (List (List ℕ))
all_code_statistics times = code_statistics times (2 ^ 16)

-- the booked entries, with the openings, the lines and the edits among them, which are counted at the places of the history; the numbers, the unlocked ones among them, the ranges and the companies that the state after it has; and of each code that a booked line or edit got, how often
abbrev pub statistics : Limits → List Entry → List (List (List ℕ))
statistics limits history =
    let now = state limits history in
    statistic (codes "entries") (length history)
    ∷ statistic (codes "opens") (opens_of history)
    ∷ statistic (codes "lines") (lines_of history)
    ∷ statistic (codes "edits") (edits_of history)
    ∷ statistic (codes "numbers") (len now.table)
    ∷ statistic (codes "unlocked") (unlocked_in now.table)
    ∷ statistic (codes "ranges") (length now.guide.ranges)
    ∷ statistic (codes "companies") (known_companies now.cycles.kept)
    ∷ all_code_statistics (times_of limits history)

abbrev pub statistics_text : Limits → List Entry → List ℕ
statistics_text limits history = csv_text statistic_names (statistics limits history)
