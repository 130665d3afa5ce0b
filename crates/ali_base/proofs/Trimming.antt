-- Spaces at the end of a text.
use Rattle.std.proofs.Common.{◌≡◌, ℕ, ◌+◌, ◌<◌, Bool, true, false, cond, ◌&&◌, List, [], ◌∷◌, ◌++◌, length, take, get_or, refl, ap, sym, ◌∙◌, arith}
use Rattle.std.proofs.lemmas.List.{take_more}
use Rattle.std.proofs.Math.Seq.{take-length}
use Rattle.ali_base.specs.Columns.{trimmed, is_space, is_empty}

pub trimmed-append_space : (xs : List ℕ) → trimmed (xs ++ 32 ∷ []) ≡ trimmed xs
trimmed-append_space [] = refl
trimmed-append_space (x ∷ xs) = ap (λ z. cond (is_space x && is_empty z) [] (x ∷ z)) (trimmed-append_space xs)

some-append : (xs : List ℕ) (x : ℕ) → is_empty (xs ++ x ∷ []) ≡ false
some-append [] x = refl
some-append (y ∷ ys) x = refl

and-false : (b : Bool) → (b && false) ≡ false
and-false true = refl
and-false false = refl

pub trimmed-append_other : (xs : List ℕ) (x : ℕ) → is_space x ≡ false → trimmed (xs ++ x ∷ []) ≡ xs ++ x ∷ []
trimmed-append_other [] x h = ap (λ b. cond (b && true) [] (x ∷ [])) h
trimmed-append_other (y ∷ ys) x h =
    ap (λ z. cond (is_space y && is_empty z) [] (y ∷ z)) (trimmed-append_other ys x h)
    ∙ ap (λ b. cond (is_space y && b) [] (y ∷ (ys ++ x ∷ []))) (some-append ys x)
    ∙ ap (λ b. cond b [] (y ∷ (ys ++ x ∷ []))) (and-false (is_space y))

-- a text is its front and its last byte
pub front_and_last : (xs : List ℕ) (n : ℕ) → n + 1 ≡ length xs → xs ≡ take n xs ++ get_or xs n 0 ∷ []
front_and_last xs n h =
    let inside : n < length xs = omega arith in
    sym (take-length xs) ∙ ap (λ k. take k xs) (sym h) ∙ take_more xs n 0 inside

pub trimmed-front : (xs : List ℕ) (n : ℕ) → n + 1 ≡ length xs → get_or xs n 0 ≡ 32 → trimmed (take n xs) ≡ trimmed xs
trimmed-front xs n h last =
    sym (trimmed-append_space (take n xs)) ∙ ap (λ x. trimmed (take n xs ++ x ∷ [])) (sym last) ∙ ap trimmed (sym (front_and_last xs n h))

pub trimmed-same : (xs : List ℕ) (n : ℕ) → n + 1 ≡ length xs → is_space (get_or xs n 0) ≡ false → trimmed xs ≡ xs
trimmed-same xs n h last =
    ap trimmed (front_and_last xs n h) ∙ trimmed-append_other (take n xs) (get_or xs n 0) last ∙ sym (front_and_last xs n h)
