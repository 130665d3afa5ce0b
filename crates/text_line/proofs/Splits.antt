-- Texts up to a mark.
use Rattle.std.proofs.Common.{◌≡◌, ◌==◌, ℕ, ◌+◌, ◌^◌, ◌<◌, Bool, true, false, not, cond, List, [], ◌∷◌, ◌++◌, length, take, drop, get_or, refl, ap, sym, ◌∙◌, arith, Some, None, option_and_then, nat_lt, length-append, drop-cons, suc}
use Rattle.std.specs.Char.{is_ascii_digit}
use Rattle.std.specs.Fmt.{decimal}
use Rattle.std.specs.List.{position, position_or_len, list_all, AllByRecursion}
use Rattle.std.specs.Str.{all_ascii_digits}
use Rattle.std.proofs.lemmas.Bool.{and_parts}
use Rattle.std.proofs.lemmas.Bool.Decides.{nat_tests}
use Rattle.std.proofs.lemmas.Fmt.{digits_decimal}
use Rattle.std.proofs.lemmas.List.{take-append-drop}
use Rattle.std.proofs.lemmas.List.Quantifiers.{position-Some}
use Rattle.std.proofs.lemmas.Option.{option_and_then_some, some_pair_parts}
use Rattle.std.proofs.Math.Seq.{take-append_seam, drop-append-add}
use Rattle.ali_base.proofs.Digits.{own}
use Rattle.text_line.specs.WordReading.{split_once}

-- no byte is the mark
abbrev pub Clear : ℕ → List ℕ → Type 0
Clear mark xs = AllByRecursion (λ x. (x == mark) ≡ false) xs

-- none of two texts is where none of either is
pub Clear-append : (mark : ℕ) (xs ys : List ℕ) → Clear mark xs → Clear mark ys → Clear mark (xs ++ ys)
Clear-append mark [] ys h k = k
Clear-append mark (x ∷ xs) ys h k = (h.0, Clear-append mark xs ys h.1 k)

place : (mark : ℕ) (w r : List ℕ) → Clear mark w → position_or_len (λ x. x == mark) (w ++ mark ∷ r) ≡ length w
place mark [] r clear = let at : (mark == mark) ≡ true = grind (arith, nat_tests) in ap (λ b. cond (not b) (1 + position_or_len (λ x. x == mark) r) 0) at
place mark (y ∷ ys) r clear =
    ap (λ b. cond (not b) (1 + position_or_len (λ x. x == mark) (ys ++ mark ∷ r)) 0) clear.0 ∙ ap (λ n. 1 + n) (place mark ys r clear.1) ∙ omega arith

position-mark : (mark : ℕ) (w r : List ℕ) → Clear mark w → position (λ x. x == mark) (w ++ mark ∷ r) ≡ Some (length w)
position-mark mark w r clear =
    let is = place mark w r clear in
    let inside : nat_lt (position_or_len (λ x. x == mark) (w ++ mark ∷ r)) (length (w ++ mark ∷ r)) ≡ true = grind (arith, nat_tests, length-append w (mark ∷ r)) in
    ap (λ b. cond b (Some (position_or_len (λ x. x == mark) (w ++ mark ∷ r))) None) inside ∙ ap Some is

-- a text without the mark, and what follows the mark behind it
pub split_again : (mark : ℕ) (w r : List ℕ) → Clear mark w → split_once mark (w ++ mark ∷ r) ≡ Some (w, r)
unfolding split_once
split_again mark w r clear =
    let tail : drop (length w + 1) (w ++ mark ∷ r) ≡ r = drop-append-add w (mark ∷ r) 1 in
    ap (λ o. option_and_then (λ at. Some (take at (w ++ mark ∷ r), drop (at + 1) (w ++ mark ∷ r))) o) (position-mark mark w r clear)
    ∙ ap (λ z. Some (z, drop (length w + 1) (w ++ mark ∷ r))) (take-append_seam w (mark ∷ r)) ∙ ap (λ z. Some (w, z)) tail

no_place : (mark : ℕ) (xs : List ℕ) → Clear mark xs → position_or_len (λ x. x == mark) xs ≡ length xs
no_place mark [] h = refl
no_place mark (x ∷ xs) h = ap (λ b. cond (not b) (1 + position_or_len (λ y. y == mark) xs) 0) h.0 ∙ ap (λ n. 1 + n) (no_place mark xs h.1) ∙ omega arith

-- a text without the mark is not split
pub split_none : (mark : ℕ) (xs : List ℕ) → Clear mark xs → split_once mark xs ≡ None
unfolding split_once
split_none mark xs clear =
    let len = no_place mark xs clear in
    let past : nat_lt (position_or_len (λ x. x == mark) xs) (length xs) ≡ false = grind (arith, nat_tests) in
    ap (λ b. option_and_then (λ at. Some (take at xs, drop (at + 1) xs)) (cond b (Some (position_or_len (λ x. x == mark) xs)) None)) past

-- the parts of a text, with the mark between them, are the text
pub split_is : (mark : ℕ) (bytes : List ℕ) (x : List ℕ × List ℕ) → split_once mark bytes ≡ Some x → bytes ≡ x.0 ++ mark ∷ x.1
unfolding split_once
split_is mark bytes x h =
    option_and_then_some (λ at. Some (take at bytes, drop (at + 1) bytes)) (position (λ y. y == mark) bytes) x h (λ at is out.
    let place = position-Some (λ y. y == mark) bytes at 0 is in
    let parts = some_pair_parts (take at bytes) x.0 (drop (at + 1) bytes) x.1 out in
    let test : (get_or bytes at 0 == mark) ≡ true = place.1 in
    let here : get_or bytes at 0 ≡ mark = grind (arith, nat_tests) in
    let inside : at < length bytes = place.0 in
    let next : suc at ≡ at + 1 = omega arith in
    sym (take-append-drop at bytes) ∙ ap (λ z. take at bytes ++ z) (drop-cons bytes at 0 inside)
    ∙ ap (λ z. take at bytes ++ z ∷ drop (suc at) bytes) here ∙ ap (λ k. take at bytes ++ mark ∷ drop k bytes) next
    ∙ ap (λ z. z ++ mark ∷ drop (at + 1) bytes) parts.0 ∙ ap (λ z. x.0 ++ mark ∷ z) parts.1)

-- a mark that is no digit is no digit of a text
other : (mark x : ℕ) → is_ascii_digit mark ≡ false → is_ascii_digit x ≡ true → (x == mark) ≡ false
other mark x none digit = by_test (x == mark) refl
  where
    by_test : (b : Bool) → (x == mark) ≡ b → (x == mark) ≡ false
    by_test false h = h
    by_test true h =
        let same : x ≡ mark = grind (arith, nat_tests) in
        absurd (let both : true ≡ false = sym digit ∙ ap is_ascii_digit same ∙ none in cc)

pub listed_clear : (mark : ℕ) → is_ascii_digit mark ≡ false → (xs : List ℕ) → list_all is_ascii_digit xs ≡ true → Clear mark xs
listed_clear mark none [] h = tt
listed_clear mark none (x ∷ xs) h = let d = and_parts (is_ascii_digit x) (list_all is_ascii_digit xs) h in (other mark x none d.0, listed_clear mark none xs d.1)

digits_clear : (mark : ℕ) → is_ascii_digit mark ≡ false → (xs : List ℕ) → all_ascii_digits xs ≡ true → Clear mark xs
digits_clear mark none [] h = tt
digits_clear mark none (x ∷ xs) h = let d = and_parts (is_ascii_digit x) (all_ascii_digits xs) h in (other mark x none d.0, digits_clear mark none xs d.1)

pub decimal_clear : (mark : ℕ) → is_ascii_digit mark ≡ false → (n : ℕ) → n < 2 ^ 32 → Clear mark (decimal n)
decimal_clear mark none n small = digits_clear mark none (decimal n) (digits_decimal own n (omega arith))
