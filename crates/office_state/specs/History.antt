-- The booked history: the entries that the office accepted into its order, with the refused ones among them.
use Rattle.std.specs.Prelude.{◌≡◌, List, [], ◌∷◌, ◌++◌, length}
use Rattle.office_entry.specs.declared.entry.Entry.{Entry}
use Rattle.office_entry.specs.declared.entry.Entry.TheVariants.{Open, Line, Edit}
use Rattle.office_entry.specs.Entries.{IsEntry}
use Rattle.office_state.specs.declared.limits.Limits.{Limits}
use Rattle.office_state.specs.OfficeState.{State, OfficeState, empty_state}
use Rattle.office_state.specs.Due.{IsDue}
use Rattle.office_state.specs.Verdict.{after}
use Rattle.office_state.specs.Tallies.{AreCounts}
pub use Rattle.office_state.specs.States.{state}

-- each of these entries, one after the other, may be booked next
abbrev pub AreDue : State → List Entry → Type 0
AreDue s [] = Unit {0}
AreDue s (e ∷ entries) = IsEntry e × IsDue s e × AreDue (after s e) entries

-- a history in which each entry could be booked in the state of those before it
abbrev pub IsLegal : Limits → List Entry → Type 0
IsLegal limits history = AreDue (empty_state limits) history

-- two openings of one cycle, one line twice, or two edits with one serial of an editor
abbrev pub Repeats : Entry → Entry → Type 0
Repeats (Open c n count day digest) (Open d m count' day' digest') = (c ≡ d) × (n ≡ m)
Repeats (Line c n line bytes) (Line d m line' bytes') = (c ≡ d) × (n ≡ m) × (line ≡ line')
Repeats (Edit c n edit) (Edit d m edit') = (c ≡ d) × (n ≡ m)
Repeats (Open c n count day digest) (Line d m line bytes) = ⊥
Repeats (Open c n count day digest) (Edit d m edit) = ⊥
Repeats (Line c n line bytes) (Open d m count day digest) = ⊥
Repeats (Line c n line bytes) (Edit d m edit) = ⊥
Repeats (Edit c n edit) (Open d m count day digest) = ⊥
Repeats (Edit c n edit) (Line d m line bytes) = ⊥

-- the office is the one after this history, which is legal, and its counts are those of the history
pub record Represents (limits : Limits) (office : OfficeState) (history : List Entry) : Type 0 where
  pub legal : IsLegal limits history
  pub same : office.state ≡ state limits history
  pub entries : office.entries ≡ length history
  pub counts : AreCounts limits history office.counts

-- each history that the old office represents, the new one represents with these entries behind it
abbrev pub KeepsHistory : OfficeState → OfficeState → List Entry → Type 0
KeepsHistory old new entries =
    (limits : Limits) (history : List Entry) → Represents limits old history → Represents limits new (history ++ entries)

-- the new office represents the empty history, under the limits of any that the old one represents
abbrev pub ForgetsHistory : OfficeState → OfficeState → Type 0
ForgetsHistory old new =
    (limits : Limits) (history : List Entry) → Represents limits old history → Represents limits new []
