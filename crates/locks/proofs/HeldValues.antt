-- What a seat that holds the one slot has and tells.
use Rattle.std.proofs.Common.{Some, ◌≡◌, ℕ, suc, Bool, List, [], ◌∷◌, length, true, ap, sym, ◌∙◌, arith}
use Rattle.std.proofs.lemmas.Bool.{and_parts, false≢true}
use Rattle.std.proofs.lemmas.Bool.Decides.{nat_tests}
use Rattle.std.proofs.Props.{props}
use Rattle.std.proofs.Math.Bool.{Bool-set}
use Rattle.std.specs.Prelude.{◌==◌}
use mathlib.Core.HLevel.{is_prop→PathP}
use Rattle.atomic_table.specs.Table.{rest}
use Rattle.atomic_table.specs.Seated.{TableId}
use Rattle.atomic_table.specs.Lent.{seat_with}
use Rattle.atomic_table.specs.declared.shared.Seat.{Seat}
use Rattle.locks.specs.SlotRule.{is_held, told}
use Rattle.locks.specs.HeldWrites.{written, written_seat}

-- two proofs that two tables are one are the same
pub table_set : IsSet TableId
table_set = hlevel props

pub same_number : (a b : ℕ) → (a == b) ≡ true → a ≡ b
same_number a b e = grind (arith, nat_tests)

-- a seat of this table that holds the one slot where `on` says so
abbrev pub Tied : Type 0 → Type 0 → TableId → Bool → Type 0
Tied T V slot on = (s : Seat T V) × (s.table_id ≡ slot) × (is_held s.me.1 ≡ on)

module _ {T : Type 0} where
  -- a seat that has the slot has its value, and nothing else
  pub held_is : (held : List (ℕ × T)) → is_held held ≡ true → (x : T) × (held ≡ (0, x) ∷ [])
  held_is [] on = absurd (false≢true on)
  held_is (y ∷ z ∷ more) on = absurd (let none_left : suc (length more) ≡ 0 = same_number (suc (length more)) 0 (and_parts _ _ on).1 in omega (arith, none_left))
  held_is (y ∷ []) on = (y.1, ap (λ (k : ℕ). (k, y.1) ∷ []) (same_number y.0 0 (and_parts _ _ on).0))

  -- a seat whose last slot is the one tells its value
  pub told_held : (held : List (ℕ × T)) (value : T) → is_held held ≡ true → held ≡ (0, value) ∷ rest held → told held ≡ Some value
  told_held held value on is = ap told is ∙ ap (λ (more : List (ℕ × T)). told ((0, value) ∷ rest more)) (held_is held on).1

  -- a write to the one slot is a write to the one that it took last
  pub written_held : {V : Type 0} (seat : Seat T V) (value : T) (slot : TableId) (on : Bool) → is_held seat.me.1 ≡ true
      → (of of' : seat.table_id ≡ slot) (is : is_held (seat_with seat 0 value).me.1 ≡ on) (is' : is_held (written seat.me.1 value) ≡ on)
      → (λ (s : Tied T V slot on). s) (seat_with seat 0 value, of, is) ≡ (written_seat seat value, of', is')
  written_held seat value slot on entered of of' is is' =
      let one = (held_is seat.me.1 entered).1 in
      let same : (0, value) ∷ rest seat.me.1 ≡ written seat.me.1 value = ap (λ (more : List (ℕ × T)). (0, value) ∷ rest more) one ∙ sym (ap (λ (more : List (ℕ × T)). written more value) one) in
      λ i. (
        record { marker = seat.marker; table_id = seat.table_id; id = seat.id; me = (seat.me.0, same i) },
        table_set _ _ of of' i,
        is_prop→PathP (λ j. is_held (same j) ≡ on) (λ j. Bool-set _ _) is is' i,
      )
