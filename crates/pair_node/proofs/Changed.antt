-- Changes of a node's journal.
use Rattle.std.proofs.Common.{◌≡◌, ℕ, ◌≤◌, List, [], ◌∷◌, ◌++◌, take, inl, refl, sym, ap, subst, ◌∙◌, arith, true, Result, Ok, Err}
use Rattle.std.proofs.lemmas.List.{take-map, take-take, map-append}
use Rattle.crash_disk.specs.DiskState.{DiskState, IsSound}
use Rattle.crash_disk.specs.Moments.{EachMoment}
use Rattle.node_journal.specs.JournalImage.{StandsFor}
use Rattle.node_journal.specs.JournalState.{StandsForEither}
use Rattle.node_journal.specs.OpenJournal as journal
use Rattle.node_journal.specs.declared.faults.DiskFault.{DiskFault}
use Rattle.office_entry.specs.declared.entry.Entry.{Entry}
use Rattle.office_state.specs.History as history
use Rattle.office_state.specs.OfficeState.{OfficeState}
use Rattle.office_state.specs.declared.limits.Limits.{Limits}
use Rattle.pair_world.specs.Frames.{Frame, entries, epochs}
use Rattle.pair_node.specs.NodeState.{Represents, disk_of, journal_of, is_usable}
use Rattle.pair_node.specs.StoredMessage.{Changes, HasEpochs}
use Rattle.pair_node.specs.declared.node.Node.{Node}

-- the epochs of the first frames
pub epochs_cut : (n : ℕ) (frames : List (Frame Entry)) (old new : List ℕ) → epochs frames ≡ old → new ≡ take n old → epochs (take n frames) ≡ new
epochs_cut n frames old new same cut = sym (take-map (λ (f : Frame Entry). f.epoch) n frames) ∙ ap (take n) same ∙ sym cut

-- a table of the first frames of all is one of the first frames of those that stay
pub table_cut : (limits : Limits) (office : OfficeState) (learned n : ℕ) (frames : List (Frame Entry)) → learned ≤ n → history.Represents limits office (entries (take learned frames)) → history.Represents limits office (entries (take learned (take n frames)))
table_cut limits office learned n frames within table = subst (λ (fs : List (Frame Entry)). history.Represents limits office (entries fs)) (sym (take-take learned n frames within)) table

-- the epochs with one frame more
pub epochs_more : (frames : List (Frame Entry)) (f : Frame Entry) (old new : List ℕ) → epochs frames ≡ old → new ≡ old ++ f.epoch ∷ [] → epochs (frames ++ f ∷ []) ≡ new
epochs_more frames f old new same more = map-append (λ (x : Frame Entry). x.epoch) frames (f ∷ []) ∙ ap (λ l. l ++ f.epoch ∷ []) same ∙ sym more

module _ {D T : Type 0} (state : D → DiskState) where
  -- nothing is changed
  pub stays_same : (node : Node D) (value : T) → IsSound (state (disk_of node)) → is_usable node ≡ true → Changes {T = T} state (λ frames. frames) node node (Ok value)
  stays_same node value sound usable = record {
    becomes = λ limits frames before. before;
    moments = λ frames shown. record {
      later = omega arith;
      each = λ image left. inl (subst (λ x. StandsFor (journal.name_of (journal_of node)) frames x) (sym (shown.kept.synced.durable image (sound.only_now image left))) shown.kept.stands);
      before = λ t image le left. inl left;
    };
    answer = (λ frames same. same, usable);
    fixed = record { name = refl; limit = refl; faults = omega arith };
  }

  -- a change is another that does the same to the frames that the journal may have
  pub changes_as : (f h : List (Frame Entry) → List (Frame Entry)) (old new : Node D) (result : Result T DiskFault) → ((frames : List (Frame Entry)) → HasEpochs old frames → f frames ≡ h frames) → Changes {T = T} state f old new result → Changes {T = T} state h old new result
  changes_as f h old new (Ok value) same done = record {
    becomes = λ limits frames before. subst (Represents state limits new) (same frames (sym before.journal.known)) (done.becomes limits frames before);
    moments = λ frames shown. subst (λ fs. EachMoment (state (disk_of old)) (state (disk_of new)) (StandsForEither (journal.name_of (journal_of old)) frames fs)) (same frames (sym shown.known)) (done.moments frames shown);
    answer = (λ frames has. subst (HasEpochs new) (same frames has) (done.answer.0 frames has), done.answer.1);
    fixed = done.fixed;
  }
  changes_as f h old new (Err fault) same done = record {
    becomes = λ limits frames before. tt;
    moments = λ frames shown. subst (λ fs. EachMoment (state (disk_of old)) (state (disk_of new)) (StandsForEither (journal.name_of (journal_of old)) frames fs)) (same frames (sym shown.known)) (done.moments frames shown);
    answer = done.answer;
    fixed = done.fixed;
  }
