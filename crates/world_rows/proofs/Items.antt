-- The items of a row: one holds, and nothing changes, or none holds and the rest of the row is read.
use Rattle.std.proofs.Common.{◌≡◌, ◌⊎◌, inl, inr, List, [], ◌∷◌, refl, sym, Option, Some, None, Result, Ok, Err}
use Rattle.std.specs.Option.{option_map}
use Rattle.office_entry.specs.declared.entry.Entry.{Entry}
use Rattle.office_entry.specs.declared.entry.Entry.TheVariants.{Open, Line, Edit}
use Rattle.office_state.specs.Due.{IsDue, due_of}
use Rattle.office_state.specs.OfficeState.{State}
use Rattle.office_state.specs.declared.due_fault.DueFault.{DueFault}
use Rattle.office_state.proofs.Dues.{opens_new, is_next_line, edits_new, is_next_serial}
use Rattle.pair_world.specs.Refusals.{Refusal, Item, Test, Next}
use Rattle.pair_world.proofs.Items.{some_is, none_some}
use Rattle.world_rows.specs.Counts.{Counts}
use Rattle.world_rows.specs.Rows.{Row, Gives}
use Rattle.world_rows.specs.Told.{Told, Refused, Not_due, Failed}
use Rattle.world_rows.specs.WorldRows.{not_due, unless}

-- no item holds
abbrev pub ArePassed : State → List (Item Entry) → Type 0
ArePassed s [] = Unit {0}
ArePassed s (Test refusal ∷ items) = (refusal ≡ None) × ArePassed s items
ArePassed s (Next entry ∷ items) = (not_due (due_of s entry) ≡ None) × ArePassed s items

-- a refusal is told, and nothing changes
abbrev pub IsRefusal : {W : Type 0} → W → Told → W → Type 0
IsRefusal w told v = (((refusal : Refusal) × (told ≡ Refused refusal)) ⊎ ((fault : DueFault) × (told ≡ Not_due fault))) × (v ≡ w)

test_told : (refusal : Option Refusal) (told : Told) → option_map Refused refusal ≡ Some told → (one : Refusal) × (told ≡ Refused one)
test_told None told is = absurd (none_some told is)
test_told (Some one) told is = (one, sym (some_is (Refused one) told is))

test_passed : (refusal : Option Refusal) → option_map Refused refusal ≡ None → refusal ≡ None
test_passed None is = refl
test_passed (Some one) is = absurd (none_some (Refused one) (sym is))

due_told : (r : Result (Unit {0}) DueFault) (told : Told) → not_due r ≡ Some told → (fault : DueFault) × (told ≡ Not_due fault)
due_told (Ok u) told is = absurd (none_some told is)
due_told (Err fault) told is = (fault, sym (some_is (Not_due fault) told is))

module _ {W : Type 0} (before now : Counts) (s : State) (w : W) (row : Row Told W) where
  pub items_give : (items : List (Item Entry)) (told : Told) (v : W) → Gives before now Failed w (unless s items row) told v
      → IsRefusal w told v ⊎ (ArePassed s items × Gives before now Failed w row told v)
  items_give [] told v g = inr (tt, g)
  items_give (Test refusal ∷ items) told v (inl g) = inl (inl (test_told refusal told g.0), g.1)
  items_give (Test refusal ∷ items) told v (inr g) = elim (items_give items told v g.1) [
    | inl one ↦ inl one
    | inr rest ↦ inr ((test_passed refusal g.0, rest.0), rest.1)
  ]
  items_give (Next entry ∷ items) told v (inl g) = inl (inr (due_told (due_of s entry) told g.0), g.1)
  items_give (Next entry ∷ items) told v (inr g) = elim (items_give items told v g.1) [
    | inl one ↦ inl one
    | inr rest ↦ inr ((g.0, rest.0), rest.1)
  ]

is_ok : (r : Result (Unit {0}) DueFault) → not_due r ≡ None → (u : Unit {0}) × (r ≡ Ok u)
is_ok (Ok u) is = (u, refl)
is_ok (Err fault) is = absurd (none_some (Not_due fault) (sym is))

ok_is_due : (s : State) (entry : Entry) (u : Unit {0}) → due_of s entry ≡ Ok u → IsDue s entry
ok_is_due s (Open company cycle count day digest) u is = opens_new _ _ u is
ok_is_due s (Line company cycle line bytes) u is = is_next_line _ cycle line u is
ok_is_due s (Edit editor serial edit) u is = is_next_serial _ serial _ (edits_new _ u is)

-- an entry that no fault is told of is due
pub passed_is_due : (s : State) (entry : Entry) → not_due (due_of s entry) ≡ None → IsDue s entry
passed_is_due s entry is = let ok = is_ok (due_of s entry) is in ok_is_due s entry ok.0 ok.1
