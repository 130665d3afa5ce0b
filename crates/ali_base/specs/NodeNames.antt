-- The two nodes, and their letters.
use Rattle.std.specs.Prelude.{ℕ, ◌==◌, List, [], ◌∷◌, Option, Some, None, if◌then◌else◌}
use Rattle.ali_base.specs.declared.names.NodeName.{NodeName}
use Rattle.ali_base.specs.declared.names.NodeName.TheVariants.{A, B}

-- a or b
abbrev pub node_text : NodeName → List ℕ
node_text A = 97 ∷ []
node_text B = 98 ∷ []

-- the node that a letter writes
abbrev pub node_of_letter : ℕ → Option NodeName
node_of_letter byte = if byte == 97 then Some A else (if byte == 98 then Some B else None)

-- the node that these bytes are
abbrev pub node_of : List ℕ → Option NodeName
node_of [] = None
node_of (byte ∷ []) = node_of_letter byte
node_of (byte ∷ more ∷ rest) = None
