-- Bytes in which one part was overwritten.
use Rattle.std.proofs.Common.{◌≡◌, ℕ, ◌+◌, ◌-◌, ◌<◌, ◌≤◌, Bool, true, false, ◌&&◌, List, ◌++◌, length, take, drop, get_or, refl, sym, ap, ◌∙◌, arith, length-append, length-drop, append_assoc}
use Rattle.std.proofs.lemmas.List.{take-append-le, drop-append-le, drop-take, take-take, length-take-le, take-append-drop, take_at, drop_at}
use Rattle.std.proofs.lemmas.Slice.{drop-append-drop}
use Rattle.std.proofs.lemmas.List.Folds.{list_all-append}
use Rattle.std.proofs.lemmas.Grind.{common_steps}
use Rattle.std.specs.List.{list_all}
use Rattle.std.proofs.lemmas.Bool.{and_parts}

-- the bytes with this text from p to q
abbrev pub over : List ℕ → ℕ → ℕ → List ℕ → List ℕ
over bytes p q text = take p bytes ++ text ++ drop q bytes

length-front : (bytes text : List ℕ) (p q : ℕ) → p + length text ≡ q → q ≤ length bytes → length (take p bytes ++ text) ≡ q
length-front bytes text p q len inside = omega (arith, length-append (take p bytes) text, length-take-le p bytes (omega arith))

-- a part before it
pub part_before : (bytes text : List ℕ) (p q k m : ℕ) → p + length text ≡ q → q ≤ length bytes → k + m ≤ p → take m (drop k (over bytes p q text)) ≡ take m (drop k bytes)
part_before bytes text p q k m len inside before =
    let front = take p bytes ++ text in
    let size = length-front bytes text p q len inside in
    let kept : length (take p bytes) ≡ p = length-take-le p bytes (omega arith) in
    let whole : k + (p - k) ≡ p = omega arith in
    ap (take m) (drop-append-le k front (drop q bytes) (omega arith))
    ∙ take-append-le m (drop k front) (drop q bytes) (omega (arith, length-drop k front))
    ∙ ap (take m) (drop-append-le k (take p bytes) text (omega arith))
    ∙ take-append-le m (drop k (take p bytes)) text (omega (arith, length-drop k (take p bytes)))
    ∙ ap (λ z. take m (drop k (take z bytes))) (sym whole) ∙ ap (take m) (drop-take k (p - k) bytes) ∙ take-take m (p - k) (drop k bytes) (omega arith)

-- a part after it
pub part_after : (bytes text : List ℕ) (p q k m : ℕ) → p + length text ≡ q → q ≤ length bytes → q ≤ k → take m (drop k (over bytes p q text)) ≡ take m (drop k bytes)
part_after bytes text p q k m len inside after =
    ap (take m) (drop-append-drop q bytes (take p bytes ++ text) k after (length-front bytes text p q len inside))

-- the part itself
pub part_inside : (bytes text : List ℕ) (p q : ℕ) → p + length text ≡ q → q ≤ length bytes → take (length text) (drop p (over bytes p q text)) ≡ text
part_inside bytes text p q len inside =
    let kept : length (take p bytes) ≡ p = length-take-le p bytes (omega arith) in
    ap (λ z. take (length text) (drop p z)) (append_assoc (take p bytes) text (drop q bytes))
    ∙ ap (take (length text)) (drop_at (take p bytes) (text ++ drop q bytes) p kept)
    ∙ take_at text (drop q bytes) (length text) refl

-- a byte before it, and one after it
pub byte_before : (bytes text : List ℕ) (p q k : ℕ) → p + length text ≡ q → q ≤ length bytes → k < p → get_or (over bytes p q text) k 0 ≡ get_or bytes k 0
byte_before bytes text p q k len inside before = grind (arith, common_steps, length-front bytes text p q len inside)

pub byte_after : (bytes text : List ℕ) (p q k : ℕ) → p + length text ≡ q → q ≤ length bytes → q ≤ k → k < length bytes → get_or (over bytes p q text) k 0 ≡ get_or bytes k 0
byte_after bytes text p q k len inside after within = grind (arith, common_steps, length-front bytes text p q len inside)

and_both : (a b : Bool) → a ≡ true → b ≡ true → (a && b) ≡ true
and_both true b h k = k
and_both false b h k = cc

-- a test that passed for all bytes passes for all of them again
pub all_over : (test : ℕ → Bool) (bytes text : List ℕ) (p q : ℕ) → list_all test bytes ≡ true → list_all test text ≡ true → list_all test (over bytes p q text) ≡ true
all_over test bytes text p q old new =
    let at_p = and_parts (list_all test (take p bytes)) (list_all test (drop p bytes)) (sym (list_all-append test (take p bytes) (drop p bytes)) ∙ ap (list_all test) (take-append-drop p bytes) ∙ old) in
    let at_q = and_parts (list_all test (take q bytes)) (list_all test (drop q bytes)) (sym (list_all-append test (take q bytes) (drop q bytes)) ∙ ap (list_all test) (take-append-drop q bytes) ∙ old) in
    list_all-append test (take p bytes ++ text) (drop q bytes)
    ∙ and_both (list_all test (take p bytes ++ text)) (list_all test (drop q bytes))
    (list_all-append test (take p bytes) text ∙ and_both (list_all test (take p bytes)) (list_all test text) at_p.0 new) at_q.1
