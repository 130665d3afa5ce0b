-- The nodes by their letters.
use Rattle.std.proofs.Common.{◌≡◌, ℕ, ◌==◌, Bool, true, false, cond, List, [], ◌∷◌, Some, None, refl, ap, ◌∙◌, arith}
use Rattle.std.proofs.lemmas.Bool.Decides.{nat_tests}
use Rattle.ali_base.specs.NodeNames.{node_of, node_text}
use Rattle.ali_base.specs.declared.names.NodeName.{NodeName}
use Rattle.ali_base.specs.declared.names.NodeName.TheVariants.{A, B}
use Rattle.ali_base.proofs.Steps.{some_is}

-- the letter of a node is read as it
pub node_of-text : (node : NodeName) → node_of (node_text node) ≡ Some node
node_of-text A = refl
node_of-text B = refl

by_tests : (byte : ℕ) (node : NodeName) (a b : Bool) → (byte == 97) ≡ a → (byte == 98) ≡ b → cond a (Some A) (cond b (Some B) None) ≡ Some node → byte ∷ [] ≡ node_text node
by_tests byte node true b is other h =
    let same : byte ≡ 97 = grind (arith, nat_tests, is) in
    ap (λ n. n ∷ []) same ∙ ap node_text (some_is A node h)
by_tests byte node false true is other h =
    let same : byte ≡ 98 = grind (arith, nat_tests, other) in
    ap (λ n. n ∷ []) same ∙ ap node_text (some_is B node h)
by_tests byte node false false is other h = cc

-- and what is read as a node is its letter
pub text-node_of : (bytes : List ℕ) (node : NodeName) → node_of bytes ≡ Some node → bytes ≡ node_text node
text-node_of [] node h = cc
text-node_of (byte ∷ []) node h = by_tests byte node (byte == 97) (byte == 98) refl refl h
text-node_of (byte ∷ next ∷ rest) node h = cc
