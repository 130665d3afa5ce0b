-- Learning entry by entry.
use Rattle.std.proofs.Common.{◌≡◌, ℕ, suc, ◌+◌, ◌-◌, ◌≤◌, List, [], ◌∷◌, ◌++◌, length-append, append_assoc, take, Some, sym, ap, subst, ◌∙◌, arith}
use Rattle.std.specs.Prelude.{slice_get, slice_index}
use Rattle.std.proofs.lemmas.List.{map-append}
use Rattle.ali_base.specs.Faults.{Rose}
use Rattle.crash_disk.specs.DiskState.{DiskState, IsSound}
use Rattle.crash_disk.proofs.Runs.{stays_here, stays_on}
use Rattle.node_journal.specs.JournalImage.{StandsFor}
use Rattle.node_journal.specs.FrameBytes.{body}
use Rattle.node_journal.specs.OpenJournal as journal
use Rattle.node_journal.specs.OpenJournal.{IsUntouched, frame_at}
use Rattle.node_journal.specs.declared.journal.Journal.{Journal}
use Rattle.office_entry.specs.declared.entry.Entry.{Entry}
use Rattle.office_state.specs.History as history
use Rattle.pair_world.specs.Frames.{Frame, entries}
use Rattle.pair_world.proofs.Items.{nth_more}
use Rattle.pair_node.specs.NodeState.{disk_of, journal_of, office_of}
use Rattle.pair_node.specs.LearnedEntries.{IsEntryAt, IsGone, Learns, Fails}
use Rattle.pair_node.specs.declared.faults.LearnFault.{LearnFault}
use Rattle.pair_node.specs.declared.faults.LearnFault.TheVariants as learning
use Rattle.pair_node.specs.declared.node.Node.{Node}

Rose-later : (before mid now : ℕ) → before ≤ mid → Rose mid now → Rose before now
Rose-later before mid now h rose = omega arith

-- the entries of one frame more
pub entries_more : (frames : List (Frame Entry)) (k : ℕ) (f : Frame Entry) → slice_get frames (k + 1 - 1) ≡ Some f → entries (take (k + 1) frames) ≡ entries (take k frames) ++ f.entry ∷ []
entries_more frames k f at =
    let back : k + 1 - 1 ≡ k = omega arith in
    let one : suc k ≡ k + 1 = omega arith in
    let here : slice_get frames k ≡ Some f = subst (λ n. slice_get frames n ≡ Some f) back at in
    let longer : take (k + 1) frames ≡ take k frames ++ f ∷ [] = subst (λ n. take n frames ≡ take k frames ++ f ∷ []) one (nth_more frames k f here).1 in
    ap (λ xs. entries xs) longer ∙ map-append (λ (x : Frame Entry). x.entry) (take k frames) (f ∷ [])

module _ {D : Type 0} (state : D → DiskState) where
  -- a journal that is not touched represents what it did
  pub still : (old new : Journal D) (frames : List (Frame Entry)) → IsUntouched state old new → journal.Represents state old frames → journal.Represents state new frames
  still old new frames same shown = record {
    kept = record {
      image = shown.kept.image;
      synced = record {
        told = same.stays.content ∙ shown.kept.synced.told;
        durable = λ image left. shown.kept.synced.durable image (same.stays.crash image left);
      };
      stands = subst (λ name. StandsFor name frames shown.kept.image) (sym same.fixed.name) shown.kept.stands;
    };
    known = same.known ∙ shown.known;
  }

  -- a journal that is not touched twice
  untouched_on : (a b c : Journal D) → IsSound (state (journal.disk_of a)) → IsUntouched state a b → IsUntouched state b c → IsUntouched state a c
  untouched_on a b c sound first second = record {
    stays = stays_on (state (journal.disk_of a)) (state (journal.disk_of b)) (state (journal.disk_of c)) sound first.stays second.stays;
    fixed = record {
      name = second.fixed.name ∙ first.fixed.name;
      limit = second.fixed.limit ∙ first.fixed.limit;
      faults = omega (arith, first.fixed.faults, second.fixed.faults);
    };
    known = second.known ∙ first.known;
    usable = second.usable ∙ first.usable;
  }

  untouched_here : (a : Journal D) → IsUntouched state a a
  untouched_here a = record {
    stays = stays_here (state (journal.disk_of a));
    fixed = record { name = λ i. journal.name_of a; limit = λ i. journal.limit_of a; faults = omega arith };
    known = λ i. journal.epochs_of a;
    usable = λ i. journal.is_usable a;
  }

  -- nothing is learned
  pub learns_nothing : (a : Node D) → Learns state a a
  learns_nothing a = record {
    journal = untouched_here (journal_of a);
    known = λ i. a.known;
    history = ([], omega arith, λ limits h before. subst (history.Represents limits (office_of a)) (append-nil h) before);
    represents = λ limits frames before. before;
  }
    where
      append-nil : (h : List Entry) → h ≡ h ++ []
      append-nil [] = λ i. []
      append-nil (e ∷ h) = ap (λ l. e ∷ l) (append-nil h)

  -- and more after more
  pub learns_on : (a b c : Node D) → IsSound (state (disk_of a)) → Learns state a b → Learns state b c → Learns state a c
  learns_on a b c sound first second = record {
    journal = untouched_on (journal_of a) (journal_of b) (journal_of c) sound first.journal second.journal;
    known = second.known ∙ first.known;
    history = (
      first.history.0 ++ second.history.0,
      omega (arith, first.history.1, second.history.1, length-append first.history.0 second.history.0),
      λ limits h before. subst (history.Represents limits (office_of c)) (append_assoc h first.history.0 second.history.0) (second.history.2 limits (h ++ first.history.0) (first.history.2 limits h before)),
    );
    represents = λ limits frames before. second.represents limits frames (first.represents limits frames before);
  }

  -- what stands in a journal that was not touched stood there before
  entry_before : (old new : Journal D) (k : ℕ) (e : Entry) → IsUntouched state old new → IsEntryAt state new k e → IsEntryAt state old k e
  entry_before old new k e same at =
      let frame : frame_at new k e ≡ frame_at old k e = ap (λ (l : List ℕ). record { entry = e; epoch = slice_index l (k - 1) }) same.known in
      record {
        there = λ image told. at.there image (same.stays.content ∙ told) ∙ ap (λ (f : Frame Entry). body k f) frame;
        listed = λ frames shown. at.listed frames (still old new frames same shown) ∙ ap Some frame;
      }

  gone_before : (old new : Journal D) (k : ℕ) → IsUntouched state old new → IsGone state new k → IsGone state old k
  gone_before old new k same gone = record {
    there = λ image told frame lawful epoch. gone.there image (same.stays.content ∙ told) frame lawful (epoch ∙ ap (λ (l : List ℕ). slice_index l (k - 1)) (sym same.known));
    none = λ frames shown. gone.none frames (still old new frames same shown);
  }

  -- learning that went on fails as its last step does
  pub fails_on : (a b c : Node D) (fault : LearnFault) → Learns state a b → Fails state b c fault → Fails state a c fault
  fails_on a b c learning.DiskFault first fails = (Rose-later (state (disk_of a)).faults (state (disk_of b)).faults (state (disk_of c)).faults first.journal.fixed.faults fails.0, fails.1)
  fails_on a b c (learning.Changed k) first fails = (fails.0, gone_before (journal_of a) (journal_of b) k first.journal fails.1, fails.2)
  fails_on a b c (learning.NotDue k) first fails = (fails.0, (fails.1.0, entry_before (journal_of a) (journal_of b) k fails.1.0 first.journal fails.1.1, fails.1.2), fails.2)
  fails_on a b c learning.NoMemory first fails = fails
