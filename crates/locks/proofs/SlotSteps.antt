-- Each step on the word of a guarded value keeps the rule.
use Rattle.std.proofs.Common.{Some, ◌≡◌, ◌⊎◌, ℕ, zero, suc, List, [], ◌∷◌, length, set, refl, ap, sym, ◌∙◌, ⊎_elim, inl, inr, arith}
use Rattle.std.specs.Prelude.{slice_index, ⊤}
use mathlib.Core.Option.{Option, none, some, some-ne-none, some-injective}
use lib.ListN.{get_elem?}
use Rattle.atomic_table.specs.Table.{Me, step, takes, keeps, gives, rest, put_back, Final, Allows, Enters, Arrives}
use Rattle.atomic_table.specs.Seated.{TableId}
use Rattle.locks.specs.SlotRule.{Holds, took, gave}

word_at : (words : List ℕ) (n : ℕ) → get_elem? words 0 ≡ some n → slice_index words 0 ≡ n
word_at [] n at = absurd (some-ne-none n (sym at))
word_at (x ∷ words) n at = some-injective _ _ at

one_or_not : (n : ℕ) → (n ≡ 1) ⊎ (n ≡ 1 → ⊥)
one_or_not zero = inr (λ e. omega (arith, e))
one_or_not (suc zero) = inl refl
one_or_not (suc (suc n)) = inr (λ e. omega (arith, e))

not_one : (words : List ℕ) → slice_index (set words 0 0) 0 ≡ 1 → ⊥
not_one [] e = omega (arith, e)
not_one (x ∷ words) e = omega (arith, e)

module _ {T : Type 0} where
  one_home : (homes : List (Option T)) (x : T) → length homes ≡ 1 → set homes 0 (some x) ≡ some x ∷ []
  one_home [] x e = absurd (omega (arith, e))
  one_home (h ∷ []) x e = refl
  one_home (h ∷ k ∷ homes) x e = absurd (omega (arith, e))

module _ {T : Type 0} (board_of : T → TableId) (board : TableId) where
  -- a new seat comes
  pub comes : (slots : ℕ) → Enters (Holds board_of board) slots 0 (λ n w. ⊤)
  comes slots s holds homes below = (board, holds, tt)

  -- a new seat takes the value where the word is 1
  pub takes_it : (slots : ℕ) → Arrives (Holds board_of board) slots 0 (λ _. 0) (took board_of (step slots 0 0 0 none) (board, []))
  takes_it slots s holds homes below = ⊎_elim
      (λ (e : slice_index s.words 0 ≡ 1).
      let there = holds e in
      (board, takes 0 there.0, ap (λ (hs : List (Option T)). get_elem? hs 0) there.1, (λ one. absurd (not_one s.words one)), (λ _. (there.0, refl, there.2))))
      (λ (no : slice_index s.words 0 ≡ 1 → ⊥). (board, keeps, tt, (λ one. absurd (not_one s.words one)), (λ e. absurd (no e))))
      (one_or_not (slice_index s.words 0))

  -- the value is given back
  pub gives_it : (slots id : ℕ) (me : Me T TableId) (x : T) → slots ≡ 1 → me.1 ≡ (0, x) ∷ [] → board_of x ≡ board
      → Allows (Holds board_of board) slots id me 0 (λ _. 1) (λ _. gave (step slots 0 1 0 none) me 1)
  gives_it slots id me x one has of s holds homes at below = (
    me.0,
    gives,
    tt,
    (λ _. (x, ap (put_back s.homes) has ∙ one_home s.homes x (homes ∙ one), of)),
    ap rest has,
  )

module _ {T : Type 0} where
  -- where the last word is 1, the value that is left is of the board
  pub settled : (board_of : T → TableId) (board : TableId) (words : List ℕ) (values : List T) (n : ℕ) (x : T) → Final (Holds board_of board) words values → get_elem? words 0 ≡ some n → n ≡ 1 → get_elem? values 0 ≡ some x → board_of x ≡ board
  settled board_of board words values n x final at one is =
      let s = final.0 in
      let there = final.1 (word_at s.words n (ap (λ (ws : List ℕ). get_elem? ws 0) final.2 ∙ at) ∙ one) in
      let same : some there.0 ≡ some x = sym (final.4 0 there.0 (ap (λ (hs : List (Option T)). get_elem? hs 0) there.1)) ∙ is in
      ap board_of (sym (some-injective _ _ same)) ∙ there.2

  -- what is told is one value
  pub some_one : {x y : T} → Some x ≡ Some y → x ≡ y
  some_one e = cc
