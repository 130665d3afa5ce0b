use Rattle.std.proofs.Common.{◌≡◌, ◌⊎◌, inl, inr, ℕ, List, Some, refl, sym, subst}
use Rattle.ali_base.specs.declared.names.NodeName.{NodeName}
use Rattle.crash_disk.specs.DiskState.{DiskState}
use Rattle.office_entry.specs.declared.entry.Entry.{Entry}
use Rattle.pair_world.specs.Frames.{Frame}
use Rattle.node_journal.specs.JournalImage.{StandsFor, IsForeign, IsDamaged}
use Rattle.node_journal.specs.JournalState.{KeepsFrames}
use Rattle.node_journal.specs.OpenJournal.{Represents, Refused, disk_of, name_of}
use Rattle.node_journal.specs.declared.faults.JournalFault.{JournalFault}
use Rattle.node_journal.specs.declared.faults.JournalFault.TheVariants.{DiskFault, Foreign, Damaged, NoMemory}
use Rattle.node_journal.proofs.laws.frames_are_found_after_a_crash.Goals as goal

-- what a crash leaves of synced frames stands for them
left_standing : (name : NodeName) (frames : List (Frame Entry)) (s : DiskState) (image : List ℕ) → KeepsFrames name frames s → s.may_leave image → StandsFor name frames image
left_standing name frames s image kept left = subst (StandsFor name frames) (sym (kept.synced.durable image left)) kept.stands

by_case : (name : NodeName) (limit : ℕ) (old new : DiskState) (fault : JournalFault) (image : List ℕ) → old.content ≡ Some image → (IsForeign name image → ⊥) → ((k : ℕ) → IsDamaged name limit k image → ⊥)
    → Refused name limit old new fault → (fault ≡ DiskFault) ⊎ (fault ≡ NoMemory)
by_case name limit old new DiskFault image told own whole cause = inl refl
by_case name limit old new Foreign image told own whole cause = absurd (own (cause image told))
by_case name limit old new (Damaged k) image told own whole cause = absurd (whole k (cause image told))
by_case name limit old new NoMemory image told own whole cause = inr refl

pub returns-clause-opened : goal.returns-clause-opened
returns-clause-opened g c journal again left limit frames image shown may told opened =
    let state = g.D.Disk.state in
    let name = name_of journal in
    let found = opened.shown image told in
    let stands = left_standing name frames (state (disk_of journal)) image shown.kept may in
    subst (Represents state again) (c.frames_are_known_from_the_image.ensures name image found.0 frames found.1 stands) found.2

pub returns-clause-refused : goal.returns-clause-refused
returns-clause-refused g c journal left after limit fault frames image shown within may told refused =
    let state = g.D.Disk.state in
    let name = name_of journal in
    let stands = left_standing name frames (state (disk_of journal)) image shown.kept may in
    by_case name limit (state left) (state after) fault image told (c.an_image_is_read_one_way.ensures.not_foreign name image frames stands)
    (λ k damaged. c.an_image_is_read_one_way.ensures.not_damaged name image limit (frames, within, stands) (k, damaged)) refused.cause
