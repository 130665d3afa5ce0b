-- What an open journal represents, and what its log does.
use Rattle.std.proofs.Common.{◌≡◌, ℕ, ◌+◌, ◌-◌, ◌≤◌, true, List, length, Option, Some, refl, sym, ap, subst, ◌∙◌, arith}
use Rattle.std.specs.Prelude.{All, slice_get, slice_index, option_map}
use Rattle.std.proofs.lemmas.List.{length-map}
use Rattle.std.proofs.lemmas.List.Elements.{All-get_or}
use Rattle.std.proofs.lemmas.Option.{slice_get_within, get_or_from_slice_get, same_Some, slice_get-map}
use Rattle.ali_base.specs.declared.names.NodeName.{NodeName}
use Rattle.ali_base.specs.declared.names.NodeName.TheVariants.{A, B}
use Rattle.commit_log.specs.LogImage.{AreBodies}
use Rattle.commit_log.specs.LogImage as log_image
use Rattle.commit_log.specs.LogState as kept
use Rattle.commit_log.specs.Opening as opens
use Rattle.commit_log.specs.declared.opening.OpenFault.{OpenFault}
use Rattle.commit_log.specs.declared.opening.OpenFault.TheVariants as failing
use Rattle.commit_log.specs.OpenLog as log
use Rattle.commit_log.specs.declared.log.Log.{Log}
use Rattle.crash_disk.specs.DiskState.{DiskState}
use Rattle.office_entry.specs.declared.entry.Entry.{Entry}
use Rattle.pair_world.specs.Frames.{Frame, epochs}
use Rattle.node_journal.specs.FrameBytes.{IsFrame, body, bodies_from, is_body}
use Rattle.node_journal.specs.JournalImage.{StandsFor, first_block}
use Rattle.node_journal.specs.JournalState.{KeepsFrames}
use Rattle.node_journal.specs.OpenJournal.{Represents, Refused, refusal, disk_of, name_of, epochs_of, is_usable}
use Rattle.node_journal.specs.EpochsRead.{AreEpochsOf, epoch_in}
use Rattle.node_journal.specs.declared.epochs.Epochs.{Epochs}
use Rattle.node_journal.specs.declared.journal.Journal.{Journal}
use Rattle.node_journal.proofs.Journals.{Framed, framed, length-bodies, bodies_at, as_log, from_log}

pub length-first_block : (name : NodeName) → length (first_block name) ≡ 639
unfolding first_block
length-first_block A = refl
length-first_block B = refl

pub length-epochs : (frames : List (Frame Entry)) → length (epochs frames) ≡ length frames
length-epochs frames = length-map frames (λ (f : Frame Entry). f.epoch)

-- a frame in its place in the list
pub record Listed {D : Type 0} (journal : Journal D) (frames : List (Frame Entry)) (k : ℕ) (body_bytes : List ℕ) : Type 0 where
  pub frame : Frame Entry
  pub listed : slice_get frames (k - 1) ≡ Some frame
  pub lawful : IsFrame frame
  pub bytes : body_bytes ≡ body k frame
  pub epoch : frame.epoch ≡ slice_index (epochs_of journal) (k - 1)

-- the frames that a disk was found to stand for
pub record Shown {D : Type 0} (state : D → DiskState) (name : NodeName) (image known : List ℕ) (disk : D) : Type 0 where
  pub frames : List (Frame Entry)
  pub stands : StandsFor name frames image
  pub kept : KeepsFrames name frames (state disk)
  pub known_are : known ≡ epochs frames

module _ {D : Type 0} (state : D → DiskState) (journal : Journal D) (frames : List (Frame Entry)) (usable : is_usable journal ≡ true) (shown : Represents state journal frames) where
  pub counted : log.count_of journal.log ≡ length frames
  counted = sym (journal.known usable) ∙ ap length shown.known ∙ length-epochs frames

  -- as a log
  pub logged : log.Represents is_body state (first_block (name_of journal)) (bodies_from 1 frames) journal.log
  logged = record {
    kept = as_log (name_of journal) frames (state (disk_of journal)) shown.kept;
    counts = counted ∙ sym (length-bodies 1 frames);
    long = journal.body_len ∙ sym (length-first_block (name_of journal));
  }

  pub lawful : All IsFrame frames
  lawful = shown.kept.stands.lawful

  -- the body in the place of frame k is that of frame k
  pub frame_there : (k : ℕ) (bytes : List ℕ) → 1 ≤ k → slice_get (bodies_from 1 frames) (k - 1) ≡ Some bytes → Listed journal frames k bytes
  frame_there k bytes low there =
      let found = bodies_at 1 (k - 1) frames bytes there in
      let here : 1 + (k - 1) ≡ k = omega (arith, low) in
      let at : slice_get (epochs frames) (k - 1) ≡ Some found.0.epoch = slice_get-map (λ (f : Frame Entry). f.epoch) frames (k - 1) ∙ ap (λ (o : Option (Frame Entry)). option_map (λ (f : Frame Entry). f.epoch) o) found.1 in
      record {
        frame = found.0;
        listed = found.1;
        lawful = subst IsFrame (get_or_from_slice_get frames (k - 1) found.0 found.0 found.1) (All-get_or IsFrame frames (k - 1) found.0 (slice_get_within frames (k - 1) found.0 found.1) lawful);
        bytes = found.2 ∙ ap (λ (i : ℕ). body i found.0) here;
        epoch = sym (get_or_from_slice_get (epochs frames) (k - 1) found.0.epoch 0 at) ∙ ap (λ (l : List ℕ). slice_index l (k - 1)) (sym shown.known);
      }

-- ---- what an opening found

module _ {D : Type 0} (state : D → DiskState) (disk : D) (name : NodeName) (limit : ℕ) (head known : List ℕ) (is : head ≡ first_block name) (opened : Log D Epochs)
    (found : log.IsOpened is_body state (λ bodies. AreEpochsOf bodies known) head limit disk opened) where
  read : Framed 1 found.found.bodies
  read =
      let long : length head ≡ 639 = ap length is ∙ length-first_block name in
      framed 1 found.found.bodies found.found.held.bytes (subst (λ (n : ℕ). AreBodies is_body n 1 found.found.bodies) long found.found.lawful)

  pub counts : length known ≡ log.count_of opened
  counts = ap length found.found.held.read ∙ length-map found.found.bodies epoch_in ∙ sym found.found.counts

  pub shown_frames : (image : List ℕ) → (state disk).content ≡ Some image → Shown state name image known (log.disk_of opened)
  shown_frames image told =
      let kept = from_log name read.frames found.found.bodies (state (log.disk_of opened)) read.lawful read.bodies_are (subst (λ (h : List ℕ). kept.KeepsBodies is_body h found.found.bodies (state (log.disk_of opened))) is (found.found.kept image told)) in
      record {
        frames = read.frames;
        stands = subst (StandsFor name read.frames) (same_Some kept.image image (sym kept.synced.told ∙ found.stays.content ∙ told)) kept.stands;
        kept = kept;
        known_are = found.found.held.read ∙ read.known;
      }

pub refused : (name : NodeName) (limit : ℕ) (head : List ℕ) (old new : DiskState) (fault : OpenFault) → head ≡ first_block name → opens.Refused is_body head limit old new fault → Refused name limit old new (refusal fault)
refused name limit head old new failing.DiskFault is cause = cause
refused name limit head old new failing.Foreign is cause = λ image told. subst (λ (h : List ℕ). log_image.IsForeign h image) is (cause image told)
refused name limit head old new (failing.Damaged k) is cause = λ image told. subst (λ (h : List ℕ). log_image.IsDamaged is_body h limit k image) is (cause image told)
