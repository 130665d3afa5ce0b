-- What a lock tells.
use Rattle.std.specs.Prelude.{◌≡◌, Option, Some}
use Rattle.atomic_table.specs.Seated.{TableId}

-- it tells a value, which is of the board
abbrev pub TellsOneOf : {T : Type 0} → (T → TableId) → Option T → TableId → Type 0
TellsOneOf {T} board_of told board = (x : T) × (told ≡ Some x) × (board_of x ≡ board)

-- Which board a guarded value is of, and which table has its slot
pub record GuardedName : Type 0 where
  pub board : TableId
  pub slot : TableId
