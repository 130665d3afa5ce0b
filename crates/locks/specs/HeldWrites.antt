-- A write to what a seat holds, with what the trait of locks asks of it.
use Rattle.std.specs.Prelude.{◌≡◌, ℕ, Bool, true, if◌then◌else◌, None, Some, List, [], ◌∷◌}
use Rattle.std.proofs.lemmas.Bool.{false≢true}
use Rattle.std.proofs.Common.{ap}
use Rattle.atomic_table.specs.declared.shared.Seat.{Seat}
use Rattle.locks.specs.SlotRule.{is_held, told}

module _ {T : Type 0} where
  -- what the seat has after a write to the slot that it took last, if it took one
  abbrev pub written : List (ℕ × T) → T → List (ℕ × T)
  written [] value = []
  written (x ∷ more) value = (x.0, value) ∷ more

  -- the seat after that write
  abbrev pub written_seat : {V : Type 0} → Seat T V → T → Seat T V
  written_seat seat value = record { marker = seat.marker; table_id = seat.table_id; id = seat.id; me = (seat.me.0, written seat.me.1 value) }

  -- a write neither takes a slot nor gives one back
  pub written_on : (held : List (ℕ × T)) (value : T) {on : Bool} → is_held held ≡ on → is_held (written held value) ≡ on
  written_on [] value is = is
  written_on (x ∷ more) value is = is

  -- after a write the seat tells what was written
  pub told_written : (held : List (ℕ × T)) (value : T) → is_held held ≡ true → told (written held value) ≡ Some value
  told_written [] value on = absurd (false≢true on)
  told_written (x ∷ more) value on = ap (λ (b : Bool). if b then Some value else None) on
