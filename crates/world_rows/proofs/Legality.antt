-- A history of frames is legal exactly where that of its entries is.
use Rattle.std.proofs.Common.{◌≡◌, ℕ, zero, suc, List, [], ◌∷◌, take, refl, subst, Some}
use Rattle.std.specs.Prelude.{slice_get}
use Rattle.std.specs.List.{fold}
use Rattle.office_entry.specs.Entries.{IsEntry}
use Rattle.office_entry.specs.declared.entry.Entry.{Entry}
use Rattle.office_state.specs.Due.{IsDue}
use Rattle.office_state.specs.History.{AreDue, IsLegal}
use Rattle.office_state.specs.OfficeState.{State, empty_state}
use Rattle.office_state.specs.Verdict.{after}
use Rattle.office_state.specs.declared.limits.Limits.{Limits}
use Rattle.pair_world.specs.Frames.{Frame, Legal, entries}
use Rattle.pair_world.proofs.Items.{some_is, not_there}
use Rattle.world_rows.specs.Histories.{due_after}

-- each frame is an entry that is due after those before it, from this state on
abbrev AreDueFrames : State → List (Frame Entry) → Type 0
AreDueFrames s frames =
    (index : ℕ) (frame : Frame Entry) → slice_get frames index ≡ Some frame
    → IsEntry frame.entry × IsDue (fold after s (entries (take index frames))) frame.entry

due_entries : (s : State) (frames : List (Frame Entry)) → AreDueFrames s frames → AreDue s (entries frames)
due_entries s [] due = tt
due_entries s (frame ∷ frames) due =
    let first = due 0 frame refl in
    (first.0, first.1, due_entries (after s frame.entry) frames (λ index later is. due (suc index) later is))

due_frames : (s : State) (frames : List (Frame Entry)) → AreDue s (entries frames) → AreDueFrames s frames
due_frames s [] due index frame is = absurd (not_there frame index is)
due_frames s (first ∷ frames) due zero frame is =
    subst (λ (f : Frame Entry). IsEntry f.entry × IsDue s f.entry) (some_is first frame is) (due.0, due.1)
due_frames s (first ∷ frames) due (suc index) frame is = due_frames (after s first.entry) frames due.2 index frame is

pub legal_entries : (limits : Limits) (frames : List (Frame Entry)) → Legal (due_after limits) frames → IsLegal limits (entries frames)
legal_entries limits frames legal = due_entries (empty_state limits) frames legal

pub legal_frames : (limits : Limits) (frames : List (Frame Entry)) → IsLegal limits (entries frames) → Legal (due_after limits) frames
legal_frames limits frames legal = due_frames (empty_state limits) frames legal
