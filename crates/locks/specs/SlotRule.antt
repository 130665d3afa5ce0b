-- The rule of a guarded value's word and slot, and what its steps tell.
use Rattle.std.specs.Prelude.{◌≡◌, ℕ, ◌==◌, ◌&&◌, Bool, false, Option, None, Some, List, [], ◌∷◌, length, slice_index, if◌then◌else◌}
use mathlib.Core.Option.{some}
use Rattle.atomic_table.specs.Table.{State, Me, Step, rest}
use Rattle.atomic_table.specs.Seated.{TableId}

module _ {T : Type 0} where
  -- where the word is 1, the value is in the slot and is of the board
  abbrev pub Holds : (T → TableId) → TableId → State T TableId → Type 0
  Holds board_of board s = slice_index s.words 0 ≡ 1 → (x : T) × (s.homes ≡ some x ∷ []) × (board_of x ≡ board)

  -- where the word was 1, the seat has the value, which is of the board that the seat knows
  abbrev pub took : (T → TableId) → Step T → Me T TableId → ℕ → Me T TableId → Type 0
  took board_of st m found m' = found ≡ 1 → (x : T) × (m'.1 ≡ (0, x) ∷ []) × (board_of x ≡ m.0)

  -- the seat holds nothing any more
  abbrev pub gave : Step T → Me T TableId → ℕ → Me T TableId → Type 0
  gave st m found m' = m'.1 ≡ []

  -- the slot that it took last is the one
  abbrev pub took_last : List (ℕ × T) → Bool
  took_last [] = false
  took_last (x ∷ more) = x.0 == 0

  -- the seat has the one slot, and no other
  abbrev pub is_held : List (ℕ × T) → Bool
  is_held held = took_last held && (length (rest held) == 0)

  -- the value that it has, where it has the one slot
  abbrev pub told : List (ℕ × T) → Option T
  told [] = None
  told (x ∷ more) = if is_held (x ∷ more) then Some x.1 else None
