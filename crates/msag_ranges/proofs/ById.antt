-- Ranges found by their ids, which rise.
use Rattle.std.proofs.Common.{◌≡◌, ℕ, ◌<◌, ◌≤◌, ◌==◌, Bool, true, false, cond, nat_lt, List, [], ◌∷◌, length, get_or, Some, None, Result, Ok, Err, refl, sym, ap, ◌∙◌, arith, inl, inr}
use Rattle.std.specs.Result.{result_ok}
use Rattle.std.specs.List.{AllPairs, position, position_or_len}
use Rattle.std.specs.List.Sorted.{IsBinarySearchResult, IsSearchInRange}
use Rattle.std.specs.Ordering.{nat_cmp, ordering_index}
use Rattle.std.specs.declared.cmp.Ordering.TheVariants.{Less, Greater}
use Rattle.std.proofs.lemmas.Bool.{cases_lt, cases_eq}
use Rattle.std.proofs.lemmas.Bool.Decides.{nat_tests}
use Rattle.std.proofs.lemmas.Cmp.{ranked, by_ranked}
use Rattle.std.proofs.lemmas.List.Sums.{position_or_len_is}
use Rattle.msag_ranges.specs.declared.range.Range.{Range}
use Rattle.msag_ranges.proofs.Places.{nat_tied}

less : (a b : ℕ) → nat_cmp a b ≡ Less → a < b
less a b h = by_ranked (a < b) (a ≡ b) (b < a) (nat_cmp a b) (ranked a b (nat_cmp a b) refl) (λ e l. l) (λ e l. absurd cc) (λ e l. absurd cc)

greater : (a b : ℕ) → nat_cmp a b ≡ Greater → b < a
greater a b h = by_ranked (a < b) (a ≡ b) (b < a) (nat_cmp a b) (ranked a b (nat_cmp a b) refl) (λ e l. absurd cc) (λ e l. absurd cc) (λ e l. l)

higher : (a b id : ℕ) → a ≤ b → ordering_index (nat_cmp a id) ≤ ordering_index (nat_cmp b id)
higher a b id h = grind (arith, nat_tests)

differ : (a b : ℕ) → (a ≡ b → ⊥) → (a == b) ≡ false
differ a b h = grind (arith, nat_tests)

alike : (a b : ℕ) → a ≡ b → (a == b) ≡ true
alike a b h = grind (arith, nat_tests)

here : (n i : ℕ) → i < n → cond (nat_lt i n) (Some i) None ≡ Some i
here n i l = let t : nat_lt i n ≡ true = grind (arith, nat_tests) in ap (λ b. cond b (Some i) None) t

nowhere : (n : ℕ) → cond (nat_lt n n) (Some n) None ≡ None
nowhere n = let t : nat_lt n n ≡ false = grind (arith, nat_tests) in ap (λ b. cond b (Some n) None) t

-- what a binary search by id answers is the first place of the id
pub searched_id : (xs : List Range) (id : ℕ) (r : Result ℕ ℕ) → AllPairs (λ r s. r.id < s.id) xs → IsSearchInRange r (length xs) → IsBinarySearchResult (λ y. nat_cmp y.id id) xs r
    → result_ok r ≡ position (λ s. s.id == id) xs
searched_id [] id (Ok i) rising bound found = absurd (omega arith)
searched_id [] id (Err i) rising bound found = refl
searched_id (x ∷ xs) id (Ok i) rising bound found =
    let p : Range → Bool = λ s. s.id == id in
    let is : (get_or (x ∷ xs) i x).id ≡ id = nat_tied _ _ (found x) in
    let at : position_or_len p (x ∷ xs) ≡ i = position_or_len_is p (x ∷ xs) i x (omega arith)
    (λ k l. differ _ _ (let up = rising k i x l bound in omega arith))
    (λ _. alike _ _ is) in
    sym (ap (λ k. cond (nat_lt k (length (x ∷ xs))) (Some k) None) at ∙ here (length (x ∷ xs)) i bound)
searched_id (x ∷ xs) id (Err i) rising bound found =
    let p : Range → Bool = λ s. s.id == id in
    let parted = found (λ a b d le lt. elim (cases_eq a b) [
      | inl q ↦ (let e = ap (λ k. (get_or (x ∷ xs) k d).id) q in higher _ _ id (omega arith))
      | inr ne ↦ (let up = rising a b d (omega arith) lt in higher _ _ id (omega arith))
    ]) in
    let at : position_or_len p (x ∷ xs) ≡ length (x ∷ xs) = position_or_len_is p (x ∷ xs) (length (x ∷ xs)) x (omega arith)
    (λ k l. elim (cases_lt k i) [
      | inl low ↦ differ _ _ (let e : (get_or (x ∷ xs) k x).id < id = less _ _ (parted.0 k x (omega arith) low) in omega arith)
      | inr high ↦ differ _ _ (let e : id < (get_or (x ∷ xs) k x).id = greater _ _ (parted.1 k x high l) in omega arith)
    ])
    (λ l. absurd (omega arith)) in
    sym (ap (λ k. cond (nat_lt k (length (x ∷ xs))) (Some k) None) at ∙ nowhere (length (x ∷ xs)))
