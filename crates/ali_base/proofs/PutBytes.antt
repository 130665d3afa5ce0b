-- What a sink holds after several puts.
use Rattle.std.proofs.Common.{◌≡◌, ℕ, ◌+◌, ◌-◌, ◌≤◌, List, ◌++◌, length, take, drop, sym, ap, ◌∙◌, arith, Option, subst}
use Rattle.std.proofs.lemmas.List.{take_all, drop-drop, length-drop, take-append-drop, drop-take, take-take}
use Rattle.std.specs.Io.KnownBytes.{Appends}
use Rattle.std.proofs.KnownBytes.{Appends-trans}

take-plus : (n k : ℕ) (xs : List ℕ) → take (n + k) xs ≡ take n xs ++ take k (drop n xs)
take-plus n k xs = sym (take-append-drop n (take (n + k) xs)) ∙ ap (λ z. z ++ drop n (take (n + k) xs)) (take-take n (n + k) xs (omega arith)) ∙ ap (λ z. take n xs ++ z) (drop-take n k xs)

-- k bytes more of what is left
pub put_more : (text rest : List ℕ) (n k : ℕ) (a b c : Option (List ℕ)) → n ≤ length text → rest ≡ drop n text → k ≤ length rest → Appends a b (take n text) → Appends b c (take k rest)
    → (m : ℕ) × (m ≤ length text) × (take (length rest - k) (drop k rest) ≡ drop m text) × Appends a c (take m text)
put_more text rest n k a b c within is le h more =
    let fits : n + k ≤ length text = omega (arith, ap length is, length-drop n text) in
    let left : take (length rest - k) (drop k rest) ≡ drop (n + k) text =
    take_all (length rest - k) (drop k rest) (omega (arith, length-drop k rest)) ∙ ap (drop k) is ∙ drop-drop k n text in
    let both : Appends a c (take n text ++ take k rest) = Appends-trans a b c (take n text) (take k rest) h more in
    let whole : take n text ++ take k rest ≡ take (n + k) text = ap (λ z. take n text ++ take k z) is ∙ sym (take-plus n k text) in
    (n + k, fits, left, subst (Appends a c) whole both)
