-- A field that is read is the field that was written, and what was written is read again.
use Rattle.std.proofs.Common.{◌≡◌, ℕ, zero, suc, ◌^◌, ◌<◌, ◌≤◌, Bool, true, false, cond, nat_lt, List, [], ◌∷◌, ◌++◌, length, get_or, take, drop, Option, Some, None, refl, sym, ap, subst, ◌∙◌, append_assoc, arith}
use Rattle.std.specs.Int.{w32, from_be_bytes}
use Rattle.std.specs.List.{AllByRecursion}
use Rattle.std.specs.Prelude.{replicate, ◌==◌}
use Rattle.std.proofs.lemmas.Bool.{and_parts}
use Rattle.std.proofs.lemmas.Bool.Decides.{nat_tests}
use Rattle.std.proofs.lemmas.List.{take_at, drop_at, take-append-drop, length-append, length-take-le}
use Rattle.std.proofs.lemmas.List.Elements.{recursion_from_All, All-from_get_or}
use Rattle.std.proofs.lemmas.Nat.{be_bytes_4, from_be_bytes-to_be_bytes_4}
use Rattle.ali_base.specs.Columns.{is_empty}
use Rattle.ali_base.specs.Fronts.{AreBytes, are_zeros, front, number_at, number_bytes}
use Rattle.ali_base.proofs.Steps.{bind_ok, bind_some, some_is}

abbrev pub IsBytes : List ℕ → Type 0
IsBytes bytes = (i : ℕ) → get_or bytes i 0 < 256

pub all_bytes : (bytes : List ℕ) → AreBytes bytes → IsBytes bytes
all_bytes bytes all = fits bytes (recursion_from_All (λ byte. byte < 2 ^ 8) bytes all)
  where
    fits : (bytes : List ℕ) → AllByRecursion (λ byte. byte < 2 ^ 8) bytes → IsBytes bytes
    fits [] h i = omega arith
    fits (x ∷ xs) h zero = h.0
    fits (x ∷ xs) h (suc i) = fits xs h.1 i

pub bytes_all : (bytes : List ℕ) → IsBytes bytes → AreBytes bytes
bytes_all bytes fits = All-from_get_or (λ byte. byte < 2 ^ 8) bytes 0 (λ i inside. fits i)

pub rest_fits : (text rest : List ℕ) → IsBytes (text ++ rest) → IsBytes rest
rest_fits [] rest h = h
rest_fits (x ∷ xs) rest h = rest_fits xs rest (λ i. h (suc i))

pub text_fits : (text rest : List ℕ) → IsBytes (text ++ rest) → IsBytes text
text_fits [] rest h i = omega arith
text_fits (x ∷ xs) rest h zero = h zero
text_fits (x ∷ xs) rest h (suc i) = text_fits xs rest (λ j. h (suc j)) i

pub empty_is : (xs : List ℕ) → is_empty xs ≡ true → xs ≡ []
empty_is [] h = refl
empty_is (x ∷ xs) h = cc

-- what a reader took from the front
pub record Takes (bytes text rest : List ℕ) : Type 0 where
  pub parts : bytes ≡ text ++ rest
  pub fits : IsBytes rest

pub Takes-make : (bytes text rest : List ℕ) → IsBytes bytes → bytes ≡ text ++ rest → Takes bytes text rest
Takes-make bytes text rest h e = record { parts = e; fits = rest_fits text rest (subst IsBytes e h) }

pub Takes-then : (a x b y c : List ℕ) → Takes a x b → Takes b y c → Takes a (x ++ y) c
Takes-then a x b y c p q = record { parts = p.parts ∙ ap (λ (t : List ℕ). x ++ t) q.parts ∙ sym (append_assoc x y c); fits = q.fits }

-- nothing is left
pub Takes-all : (bytes text rest : List ℕ) → Takes bytes text rest → is_empty rest ≡ true → bytes ≡ text ++ []
Takes-all bytes text rest t h = t.parts ∙ ap (λ z. text ++ z) (empty_is rest h)

guard_some : {A : Type 0} (b : Bool) (x y : A) → cond {A = Option A} b None (Some x) ≡ Some y → (b ≡ false) × (x ≡ y)
guard_some true x y h = cc
guard_some false x y h = (refl, some_is x y h)

pub front_takes : (width : ℕ) (bytes : List ℕ) (x : List ℕ × List ℕ) → IsBytes bytes → front width bytes ≡ Some x → Takes bytes x.0 x.1 × (length x.0 ≡ width)
unfolding front
front_takes width bytes x fits h =
    let g = guard_some (nat_lt (length bytes) width) (take width bytes, drop width bytes) x h in
    let test : nat_lt (length bytes) width ≡ false = g.0 in
    let long : width ≤ length bytes = grind (arith, nat_tests) in
    let whole : Takes bytes (take width bytes) (drop width bytes) = Takes-make bytes (take width bytes) (drop width bytes) fits (sym (take-append-drop width bytes)) in
    subst (λ (p : List ℕ × List ℕ). Takes bytes p.0 p.1 × (length p.0 ≡ width)) g.1 (whole, length-take-le width bytes long)

pub front_again : (width : ℕ) (text rest : List ℕ) → length text ≡ width → front width (text ++ rest) ≡ Some (text, rest)
unfolding front
front_again width text rest len =
    let long : nat_lt (length (text ++ rest)) width ≡ false = grind (arith, nat_tests, length-append text rest) in
    rw (long, take_at text rest width len, drop_at text rest width len) refl

pub number_takes : (bytes : List ℕ) (x : ℕ × List ℕ) → IsBytes bytes → number_at bytes ≡ Some x → Takes bytes (number_bytes x.0) x.1 × (x.0 < 2 ^ 32)
unfolding number_at
number_takes bytes x fits h =
    let a = bind_ok (front 4 bytes) _ x h in
    let t = front_takes 4 bytes a.0 fits a.1 in
    let made : (from_be_bytes w32 a.0.0, a.0.1) ≡ x = some_is (from_be_bytes w32 a.0.0, a.0.1) x a.2 in
    let four : IsBytes a.0.0 = text_fits a.0.0 a.0.1 (subst IsBytes t.0.parts fits) in
    let back : number_bytes (from_be_bytes w32 a.0.0) ≡ a.0.0 = be_bytes_4 a.0.0 (from_be_bytes w32 a.0.0) t.1 four refl in
    let small : from_be_bytes w32 a.0.0 < 2 ^ 32 = omega (arith, four 0, four 1, four 2, four 3) in
    let whole : Takes bytes (number_bytes (from_be_bytes w32 a.0.0)) a.0.1 = subst (λ (z : List ℕ). Takes bytes z a.0.1) (sym back) t.0 in
    subst (λ (p : ℕ × List ℕ). Takes bytes (number_bytes p.0) p.1 × (p.0 < 2 ^ 32)) made (whole, small)

pub number_again : (n : ℕ) (rest : List ℕ) → n < 2 ^ 32 → number_at (number_bytes n ++ rest) ≡ Some (n, rest)
unfolding number_at
number_again n rest lt =
    bind_some (front 4 (number_bytes n ++ rest)) (number_bytes n, rest) (λ number. Some (from_be_bytes w32 number.0, number.1)) (Some (n, rest)) (front_again 4 (number_bytes n) rest refl)
    (ap (λ k. Some (k, rest)) (from_be_bytes-to_be_bytes_4 n lt))

-- ---- zeros

pub zeros_are : (bytes : List ℕ) → are_zeros bytes ≡ true → bytes ≡ replicate (length bytes) 0
zeros_are [] h = refl
zeros_are (x ∷ xs) h =
    let p = and_parts (x == 0) (are_zeros xs) h in
    let first : x ≡ 0 = grind (arith, nat_tests, p.0) in
    ap (λ z. z ∷ xs) first ∙ ap (λ z. 0 ∷ z) (zeros_are xs p.1)

pub are_zeros-zeros : (n : ℕ) → are_zeros (replicate n 0) ≡ true
are_zeros-zeros zero = refl
are_zeros-zeros (suc n) = are_zeros-zeros n
