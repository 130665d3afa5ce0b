-- A booking under a lock, as the tests' small hall tells it.
use Rattle.std.specs.Prelude.{◌≡◌, ℕ, ◌≤◌, ◌++◌, List, length, Option, None, Some}
use mathlib.Core.List.{IsPrefix}
use Rattle.board.specs.declared.front.TheConstants.{MOST_BOOKED}

-- the list has these entries, up to this number
abbrev pub IsBooked : {E : Type 0} → List E → ℕ → List E → Type 0
IsBooked {E} entries number list = (before : List E) × IsPrefix (before ++ entries) list × (length (before ++ entries) ≡ number)

-- the list got these entries and is as long as the number says, or it was full and stays
abbrev pub Booked : {E : Type 0} → List E → List E → Option ℕ → List E → Type 0
Booked entries was (Some number) is = (is ≡ was ++ entries) × (number ≡ length is)
Booked entries was None is = (is ≡ was) × (MOST_BOOKED ≤ length was)
