-- The statistics as a tally has them.
use Rattle.std.specs.Prelude.{ℕ, List, [], ◌∷◌, codes}
use Rattle.office_state.specs.declared.tally.Tally.{Tally}
use Rattle.audit_reports.specs.Statistics.{statistic}

-- its numbers, but those of its codes
abbrev pub number_rows : Tally → List (List (List ℕ))
number_rows tally =
    statistic (codes "entries") tally.entries
    ∷ statistic (codes "opens") tally.opens
    ∷ statistic (codes "lines") tally.lines
    ∷ statistic (codes "edits") tally.edits
    ∷ statistic (codes "numbers") tally.numbers
    ∷ statistic (codes "unlocked") tally.unlocked
    ∷ statistic (codes "ranges") tally.ranges
    ∷ statistic (codes "companies") tally.companies
    ∷ []
