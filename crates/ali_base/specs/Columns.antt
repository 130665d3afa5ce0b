-- Columns of a text, and the spaces around what stands in them.
use Rattle.std.specs.Prelude.{ℕ, ◌+◌, ◌-◌, ◌==◌, ◌&&◌, Bool, true, false, nat_le, List, [], ◌∷◌, take, drop, if◌then◌else◌}

-- the bytes in columns i to j, counted from 1
abbrev pub columns : List ℕ → ℕ → ℕ → List ℕ
columns bytes i j = take (j + 1 - i) (drop (i - 1) bytes)

abbrev pub is_space : ℕ → Bool
is_space byte = byte == 32

-- from the space to the tilde
abbrev pub is_printable : ℕ → Bool
is_printable byte = nat_le 32 byte && nat_le byte 126

abbrev pub is_empty : List ℕ → Bool
is_empty [] = true
is_empty (x ∷ xs) = false

-- without the spaces at the end
abbrev pub trimmed : List ℕ → List ℕ
trimmed [] = []
trimmed (x ∷ xs) = if is_space x && is_empty (trimmed xs) then [] else x ∷ trimmed xs

-- without the spaces at the front
abbrev pub front_trimmed : List ℕ → List ℕ
front_trimmed [] = []
front_trimmed (x ∷ xs) = if is_space x then front_trimmed xs else x ∷ xs

-- nothing but spaces
abbrev pub is_blank : List ℕ → Bool
is_blank bytes = is_empty (trimmed bytes)
