-- The rows of a tree, in the order of their numbers.
use Rattle.std.proofs.Common.{◌≡◌, ℕ, List, [], ◌∷◌, map, refl, ap, sym, ◌∙◌}
use Rattle.std.specs.FinMap.{values}
use Rattle.std.specs.List.Sorted.{IsStrictlySortedBy}
use Rattle.std.specs.Map.{keys_of, values_of}
use Rattle.number_life.specs.declared.row.Row.{Row}
use Rattle.number_table.specs.NumberTable.{tn_cmp}
use Rattle.number_table.proofs.HeldLists.{map_of, entries-in_order}

second_parts : (es : List (List ℕ × Row)) → values_of es ≡ map (λ e. e.1) es
second_parts [] = refl
second_parts (e ∷ es) = ap (λ rows. e.1 ∷ rows) (second_parts es)

-- they are those of the map that the tree makes
pub values-in_order : (es : List (List ℕ × Row)) → IsStrictlySortedBy tn_cmp (keys_of es) → values_of es ≡ values (map_of es)
values-in_order es sorted = second_parts es ∙ ap (λ (xs : List (List ℕ × Row)). map (λ e. e.1) xs) (sym (entries-in_order es sorted))
