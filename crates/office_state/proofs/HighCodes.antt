-- No entry gets a code from 1000 on.
use Rattle.std.proofs.Common.{◌≡◌, ◌==◌, ℕ, ◌<◌, ◌≤◌, not, ◌&&◌, Bool, true, false, cond, List, [], ◌∷◌, refl, ap, arith}
use Rattle.std.specs.List.{count_by}
use Rattle.std.proofs.lemmas.Bool.Decides.{nat_tests}
use Rattle.std.proofs.lemmas.List.Sums.{sum_by-append}
use Rattle.office_entry.specs.declared.entry.Entry.{Entry}
use Rattle.office_state.specs.declared.counts.TheConstants.{CODES}
use Rattle.office_state.specs.declared.limits.Limits.{Limits}
use Rattle.office_state.specs.States.{state}
use Rattle.office_state.specs.Tallies.{Place, places, is_opening, code_at, gets_code, times_of}
use Rattle.office_state.proofs.Counting.{verdict_small}

not_same : (n code : ℕ) → n < 1000 → 1000 ≤ code → (n == code) ≡ false
not_same n code small past = grind (arith, nat_tests)

not_got : (opens same : Bool) → same ≡ false → ◌≡◌ {A = ℕ} (cond (not opens && same) 1 0) 0
not_got true same differ = refl
not_got false same differ = ap (λ (b : Bool). let times : ℕ = cond b 1 0 in times) differ

none_got : (limits : Limits) (code : ℕ) → CODES ≤ code → (some : List Place) → count_by (gets_code limits code) some ≡ 0
none_got limits code past [] = refl
none_got limits code past (p ∷ some) =
    let differ = not_same (code_at limits p) code (verdict_small (state limits p.before) p.entry) past in
    omega (arith, sum_by-append (λ q. let times : ℕ = cond (gets_code limits code q) 1 0 in times) (p ∷ []) some, not_got (is_opening p.entry) (code_at limits p == code) differ, none_got limits code past some)

-- so it is got nowhere
pub never_got : (limits : Limits) (history : List Entry) (code : ℕ) → CODES ≤ code → times_of limits history code ≡ 0
never_got limits history code past = none_got limits code past (places history)
