use Rattle.std.proofs.Common.{◌≡◌, ℕ, ◌+◌, List, ◌++◌, take, drop, sym, ap, ◌∙◌, arith}
use Rattle.std.proofs.lemmas.List.{take-append-drop, drop-drop}
use Rattle.std.proofs.lemmas.Grind.{common_steps}
use Rattle.ali_base.proofs.memory_source.MemSourceSource.take.Goals as goal

-- what is left is a front that was copied, and then the rest
front_and_rest : (xs front : List ℕ) (n at : ℕ) → front ≡ take n (drop at xs) → drop at xs ≡ front ++ drop (at + n) xs
front_and_rest xs front n at same =
    sym (take-append-drop n (drop at xs)) ∙ ap (λ z. z ++ drop n (drop at xs)) (sym same) ∙ ap (λ z. front ++ z) (drop-drop n at xs)

pub returns-clause-bytes : goal.returns-clause-bytes
returns-clause-bytes c =
    let bytes = c.self.inside.bytes.items in
    let at = c.self.inside.at in
    let count = c.min-count.result in
    let same : take count c.copy_to_front.new.buf ≡ take count (drop at bytes) = grind (arith, common_steps) in
    ap (λ s. s.left) (sym c.self.view_is) ∙ front_and_rest bytes (take count c.copy_to_front.new.buf) count at same
