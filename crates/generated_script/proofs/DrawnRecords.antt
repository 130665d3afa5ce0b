-- The states of the draws, and the records that are drawn.
use Rattle.std.proofs.Common.{◌≡◌, ℕ, suc, ◌+◌, ◌-◌, ◌*◌, ◌≤◌, List, ◌++◌, refl, sym, ap, subst, ◌∙◌, arith, append_assoc, append-nil}
use Rattle.generated_script.specs.GeneratedScript.{drawn, house_of, next_state, record_line, record_lines, record_text, state_after, street_of}

-- the first state
pub state_first : (seed n : ℕ) → n ≡ 0 → seed ≡ state_after seed n
unfolding state_after
state_first seed n none = let P : ℕ → Type 0 = λ k. seed ≡ state_after seed k in subst P (sym none) refl

-- the next state
pub state_next : (seed n m s t : ℕ) → n + 1 ≡ m → s ≡ state_after seed n → t ≡ next_state s → t ≡ state_after seed m
unfolding state_after
state_next seed n m s t next old new =
    let same : suc n ≡ m = omega arith in
    new ∙ ap next_state old ∙ ap (state_after seed) same

-- no records
pub records_none : (seed before n : ℕ) (start : List ℕ) → n ≡ 0 → start ≡ start ++ record_lines seed before n
unfolding record_lines
records_none seed before n start none =
    let P : ℕ → Type 0 = λ k. start ≡ start ++ record_lines seed before k in subst P (sym none) (sym (append-nil start))

lines_next : (seed before n m i : ℕ) → suc n ≡ m → before + suc n ≡ i → record_lines seed before m ≡ record_lines seed before n ++ record_line seed i
unfolding record_lines
lines_next seed before n m i next place =
    ap (record_lines seed before) (sym next) ∙ ap (λ k. record_lines seed before n ++ record_line seed k) place

-- a record more, at the house and in the street that are drawn for it
pub record_more : (seed before i house street s t : ℕ) (start bytes more : List ℕ) → before ≤ i
    → s ≡ state_after seed (2 * (i + 1) - 1) → house ≡ drawn s 12_000
    → t ≡ state_after seed (2 * (i + 1)) → street ≡ drawn t 110
    → bytes ≡ start ++ record_lines seed before (i - before)
    → more ≡ bytes ++ record_text (i + 1) house (street + 1)
    → more ≡ start ++ record_lines seed before (i + 1 - before)
record_more seed before i house street s t start bytes more low first at second in_street old new =
    let lines = record_lines seed before (i - before) in
    let house_is : house ≡ house_of seed (i + 1) = at ∙ ap (λ x. drawn x 12_000) first in
    let street_is : street + 1 ≡ street_of seed (i + 1) = ap (λ x. x + 1) (in_street ∙ ap (λ x. drawn x 110) second) in
    let text : record_text (i + 1) house (street + 1) ≡ record_line seed (i + 1) = ap (λ x. record_text (i + 1) x (street + 1)) house_is ∙ ap (record_text (i + 1) (house_of seed (i + 1))) street_is in
    let next : suc (i - before) ≡ i + 1 - before = omega arith in
    let place : before + suc (i - before) ≡ i + 1 = omega arith in
    new ∙ ap (λ z. z ++ record_text (i + 1) house (street + 1)) old ∙ append_assoc start lines (record_text (i + 1) house (street + 1))
    ∙ ap (λ z. start ++ (lines ++ z)) text ∙ ap (λ z. start ++ z) (sym (lines_next seed before (i - before) (i + 1 - before) (i + 1) next place))
