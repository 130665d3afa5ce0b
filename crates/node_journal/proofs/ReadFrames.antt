-- What was read in the place of a frame.
use Rattle.std.proofs.Common.{◌≡◌, ℕ, ◌+◌, ◌-◌, ◌*◌, ◌^◌, ◌<◌, ◌≤◌, true, List, length, take, drop, Option, Some, sym, ap, subst, ◌∙◌, arith, length-take, length-drop}
use Rattle.std.specs.Prelude.{slice_get, slice_index}
use Rattle.commit_log.specs.LogImage.{frame_place}
use Rattle.commit_log.specs.OpenLog as log
use Rattle.crash_disk.specs.DiskState.{DiskState}
use Rattle.office_entry.specs.declared.entry.Entry.{Entry}
use Rattle.pair_world.specs.Frames.{Frame}
use Rattle.node_journal.specs.FrameBytes.{IsFrame, IsBodyOf, body, bodies_from, frame_from, is_body}
use Rattle.node_journal.specs.JournalImage.{first_block}
use Rattle.node_journal.specs.OpenJournal.{Represents, IsThere, NoneThere, disk_of, name_of, epochs_of, is_usable}
use Rattle.node_journal.specs.declared.journal.Journal.{Journal}
use Rattle.node_journal.proofs.FramesOfBytes.{frame_again, length-body}
use Rattle.node_journal.proofs.Represented.{Listed, frame_there, logged}

module _ {D : Type 0} (state : D → DiskState) (journal : Journal D) (usable : is_usable journal ≡ true) (k : ℕ) (low : 1 ≤ k) where
  -- the disk ends before the frame's body
  pub cut_off : ((image : List ℕ) → (state (disk_of journal)).content ≡ Some image → length image < frame_place (log.body_len_of journal.log) k + log.body_len_of journal.log)
      → ((head : List ℕ) (bodies : List (List ℕ)) → log.Represents is_body state head bodies journal.log → ⊥)
      → NoneThere (state (disk_of journal)) k (slice_index (epochs_of journal) (k - 1)) × ((frames : List (Frame Entry)) → Represents state journal frames → ⊥)
  cut_off short dishonest = (
    λ image told frame lawful epoch same.
        let few : length image < 640 * k + 639 = subst (λ (n : ℕ). length image < frame_place n k + n) journal.body_len (short image told) in
        omega (arith, few, length-take 639 (drop (640 * k) image), length-drop (640 * k) image, ap length same, length-body k frame lawful.1),
    λ frames shown. dishonest (first_block (name_of journal)) (bodies_from 1 frames) (logged state journal frames usable shown),
  )

  module _ (bytes : List ℕ) (read : Option (Frame Entry)) (is : frame_from k bytes ≡ read) (small : k < 2 ^ 32)
      (placed : (image : List ℕ) → (state (disk_of journal)).content ≡ Some image → bytes ≡ take (log.body_len_of journal.log) (drop (frame_place (log.body_len_of journal.log) k) image))
      (listed : (head : List ℕ) (bodies : List (List ℕ)) → log.Represents is_body state head bodies journal.log → slice_get bodies (k - 1) ≡ Some bytes) where
    there : (image : List ℕ) → (state (disk_of journal)).content ≡ Some image → take 639 (drop (640 * k) image) ≡ bytes
    there image told = sym (placed image told ∙ ap (λ (n : ℕ). take n (drop (frame_place n k) image)) journal.body_len)

    reads : (frame : Frame Entry) → IsFrame frame → bytes ≡ body k frame → read ≡ Some frame
    reads frame lawful same = sym is ∙ ap (frame_from k) same ∙ frame_again k frame small lawful

    in_list : (frames : List (Frame Entry)) (shown : Represents state journal frames) → Listed journal frames k bytes
    in_list frames shown = frame_there state journal frames usable shown k bytes low (listed (first_block (name_of journal)) (bodies_from 1 frames) (logged state journal frames usable shown))

    -- no frame with the epoch that the journal knows was read
    pub another : ((frame : Frame Entry) → frame.epoch ≡ slice_index (epochs_of journal) (k - 1) → read ≡ Some frame → ⊥)
        → NoneThere (state (disk_of journal)) k (slice_index (epochs_of journal) (k - 1)) × ((frames : List (Frame Entry)) → Represents state journal frames → ⊥)
    another wrong = (
      λ image told frame lawful epoch same. wrong frame epoch (reads frame lawful (sym (there image told) ∙ same)),
      λ frames shown. let l = in_list frames shown in wrong l.frame l.epoch (reads l.frame l.lawful l.bytes),
    )

    -- this frame was read
    pub this : (frame : Frame Entry) → IsBodyOf k frame bytes → read ≡ Some frame → IsThere (state (disk_of journal)) k frame × ((frames : List (Frame Entry)) → Represents state journal frames → slice_get frames (k - 1) ≡ Some frame)
    this frame found h = (
      λ image told. there image told ∙ found.spelled,
      λ frames shown. let l = in_list frames shown in l.listed ∙ sym (reads l.frame l.lawful l.bytes) ∙ h,
    )
