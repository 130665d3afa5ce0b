-- The lines of the codes of a tally, and the statistics of a history.
use Rattle.std.proofs.Common.{◌≡◌, ℕ, suc, ◌+◌, ◌-◌, ◌<◌, Bool, true, false, cond, nat_lt, List, [], ◌∷◌, ◌++◌, map, filter, flat_map, ap, ◌∙◌, refl, sym, arith, append_assoc}
use Rattle.std.specs.List.{range_with_len}
use Rattle.audit_reports.specs.CsvLines.{csv_line}
use Rattle.std.proofs.lemmas.List.Concat.{flat_map-append}
use Rattle.office_entry.specs.declared.entry.Entry.{Entry}
use Rattle.office_state.specs.declared.limits.Limits.{Limits}
use Rattle.office_state.specs.declared.tally.Tally.{Tally}
use Rattle.office_state.specs.Tallies.{IsTally, count_in, times_of}
use Rattle.audit_reports.specs.Statistics.{all_code_statistics, code_statistic, statistic_names, statistics, statistics_text}
use Rattle.audit_reports.specs.TallyRows.{number_rows}

-- the lines of the codes from one on that are below a limit
abbrev pub codes_from : (ℕ → ℕ) → ℕ → ℕ → List ℕ
codes_from times code limit =
    flat_map csv_line (map (code_statistic times) (filter (λ c. nat_lt 0 (times c)) (range_with_len code (limit - code))))

next_code : (code limit : ℕ) → code < limit → range_with_len code (limit - code) ≡ code ∷ range_with_len (code + 1) (limit - (code + 1))
next_code code limit h = ap (range_with_len code) (let more : limit - code ≡ suc (limit - (code + 1)) = omega (arith, h) in more)

by_times : (times : ℕ → ℕ) (code limit : ℕ) (came : Bool) → code < limit → nat_lt 0 (times code) ≡ came
    → codes_from times code limit ≡ cond came (csv_line (code_statistic times code) ++ codes_from times (code + 1) limit) (codes_from times (code + 1) limit)
by_times times code limit came inside is =
    let F : List ℕ → List ℕ = λ cs. flat_map csv_line (map (code_statistic times) cs) in
    let left = filter (λ c. nat_lt 0 (times c)) (range_with_len (code + 1) (limit - (code + 1))) in
    ap (λ cs. F (filter (λ c. nat_lt 0 (times c)) cs)) (next_code code limit inside)
    ∙ ap (λ b. F (cond b (code ∷ left) left)) is
    ∙ chosen F came left
  where
    chosen : (F : List ℕ → List ℕ) (b : Bool) (left : List ℕ) → F (cond b (code ∷ left) left) ≡ cond b (F (code ∷ left)) (F left)
    chosen F true left = refl
    chosen F false left = refl

-- a code that came has a line
pub code_came : (times : ℕ → ℕ) (code limit : ℕ) → code < limit → nat_lt 0 (times code) ≡ true → codes_from times code limit ≡ csv_line (code_statistic times code) ++ codes_from times (code + 1) limit
code_came times code limit inside is = by_times times code limit true inside is

-- another has none
pub code_missing : (times : ℕ → ℕ) (code limit : ℕ) → code < limit → nat_lt 0 (times code) ≡ false → codes_from times code limit ≡ codes_from times (code + 1) limit
code_missing times code limit inside is = by_times times code limit false inside is

-- the rows of a history's tally
rows_same : (limits : Limits) (history : List Entry) (tally : Tally) → IsTally limits history tally → number_rows tally ++ all_code_statistics (count_in tally) ≡ statistics limits history
rows_same limits history tally is =
    let times : count_in tally ≡ times_of limits history = λ i code. is.codes code i in
    ap (λ t. number_rows tally ++ all_code_statistics t) times
    ∙ rw (is.entries, is.opens, is.lines, is.edits, is.numbers, is.unlocked, is.ranges, is.companies) refl

-- a tally's lines are the statistics of its history
pub tally_text : (limits : Limits) (history : List Entry) (tally : Tally) → IsTally limits history tally
    → [] ++ csv_line statistic_names ++ flat_map csv_line (number_rows tally) ++ flat_map csv_line (all_code_statistics (count_in tally)) ≡ statistics_text limits history
tally_text limits history tally is =
    append_assoc (csv_line statistic_names) (flat_map csv_line (number_rows tally)) (flat_map csv_line (all_code_statistics (count_in tally)))
    ∙ ap (λ z. csv_line statistic_names ++ z) (sym (flat_map-append csv_line (number_rows tally) (all_code_statistics (count_in tally))) ∙ ap (flat_map csv_line) (rows_same limits history tally is))
