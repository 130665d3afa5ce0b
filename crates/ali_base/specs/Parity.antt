-- Parities, and their letters.
use Rattle.std.specs.Prelude.{ℕ, ◌==◌, List, [], ◌∷◌, Option, Some, None, if◌then◌else◌}
use Rattle.ali_base.specs.declared.parity.Parity.{Parity}
use Rattle.ali_base.specs.declared.parity.Parity.TheVariants.{Odd, Even, Both}

-- O, E or B
abbrev pub parity_text : Parity → List ℕ
parity_text Odd = 79 ∷ []
parity_text Even = 69 ∷ []
parity_text Both = 66 ∷ []

-- the parity that a letter writes
abbrev pub parity_of_letter : ℕ → Option Parity
parity_of_letter byte =
    if byte == 79 then Some Odd else (if byte == 69 then Some Even else (if byte == 66 then Some Both else None))

-- the parity that these bytes are
abbrev pub parity_of : List ℕ → Option Parity
parity_of [] = None
parity_of (byte ∷ []) = parity_of_letter byte
parity_of (byte ∷ more ∷ rest) = None
