-- A write by the holder of a pair is its row of the world, and what its disks leave meanwhile.
use Rattle.std.proofs.Common.{◌≡◌, ℕ, suc, ◌+◌, ◌<◌, ◌≤◌, ◌⊎◌, inl, inr, List, [], ◌∷◌, ◌++◌, length, length-append, take, refl, sym, ap, subst, ◌∙◌, arith, Option, Some, None, Result, Ok, Err, Bool, true, false, nat_lt}
use Rattle.std.specs.Prelude.{All, slice_get, not, nat_le, option_map}
use Rattle.std.proofs.lemmas.Bool.Decides.{nat_tests}
use Rattle.std.proofs.lemmas.List.Elements.{All-get_or}
use Rattle.std.proofs.lemmas.Option.{get_or_from_slice_get, slice_get_within}
use Rattle.ali_base.specs.Steps.{when}
use Rattle.ali_base.specs.declared.duty.Duty.{Duty}
use Rattle.ali_base.specs.declared.names.DiskName.{DiskName}
use Rattle.ali_base.specs.declared.names.NodeName.{NodeName}
use Rattle.ali_base.specs.declared.names.NodeName.TheVariants.{A, B}
use Rattle.crash_disk.specs.DiskState.{DiskState, IsSound}
use Rattle.crash_disk.specs.Moments.{EachMoment}
use Rattle.crash_disk.proofs.Runs.{run_on, weaker, now_too, stays_here}
use Rattle.duty_register.specs.OpenRegister as register
use Rattle.duty_register.specs.declared.register.Register.{Register}
use Rattle.node_journal.specs.FrameBytes.{IsFrame}
use Rattle.node_journal.specs.JournalImage.{StandsFor}
use Rattle.node_journal.specs.JournalState.{StandsForEither, with_frame}
use Rattle.node_journal.specs.OpenJournal as journals
use Rattle.node_journal.specs.declared.faults.AppendFault.TheVariants as appending
use Rattle.office_entry.specs.Entries.{IsEntry}
use Rattle.office_entry.specs.EntryBytes.{IsInRange}
use Rattle.office_entry.specs.declared.entry.Entry.{Entry}
use Rattle.office_entry.specs.declared.entry.Entry.TheVariants as entry
use Rattle.office_state.specs.Due.{IsDue, due_of}
use Rattle.office_state.specs.History as history
use Rattle.office_state.specs.OfficeState.{State}
use Rattle.office_state.specs.declared.due_fault.DueFault.{DueFault}
use Rattle.office_state.specs.declared.limits.Limits.{Limits}
use Rattle.pair_world.specs.Changes.{read_failed, write_failed, journal_written, written}
use Rattle.pair_world.specs.Frames.{Frame, entries}
use Rattle.pair_world.specs.Refusals as refusals
use Rattle.pair_world.specs.Refusals.{Refusal, Test, Next, disk_of, is_alone}
use Rattle.pair_world.specs.Step.{Bounds, Write}
use Rattle.pair_world.specs.World.{World, NodeState, FailedWrites, node_at, put_node, failed_write_at, put_failed_write, holder_journal, is_node}
use Rattle.pair_world.proofs.RowTests as tested
use Rattle.pair_world.proofs.Terms.{same_node}
use Rattle.pair_world.proofs.Lists.{Begins-length}
use Rattle.world_rows.specs.Counts.{Counts, RoseAt}
use Rattle.world_rows.specs.Histories.{IsLawful, state_of}
use Rattle.world_rows.specs.Rows.{Row, MayFail, Success, Gives}
use Rattle.world_rows.specs.Told.{Told, Refused, Not_due, Failed, Written}
use Rattle.world_rows.specs.WorldRows.{unless, write_row, not_due}
use Rattle.world_rows.specs.WorldSteps.{OfficeEvent}
use Rattle.pair_node.specs.NodeState as node
use Rattle.pair_node.specs.WrittenFrame.{CrashesBetween}
use Rattle.pair_node.specs.declared.node.Node.{Node}
use Rattle.pair_node.proofs.Quiet.{quiet}
use Rattle.pair_core.specs.Pair.{Shows, ShowsNode, AreMoments, LeavesJournal, LeavesDuties, IsCall, node_of, is_node_up, is_up, len_of, count_of, table_of, duty_of, bounds_of, counts_of}
use Rattle.pair_core.specs.PairAnswers.{LearningCauses, ReadyRest, WriteRest, KeepsCourse, told, written_told, fault_told}
use Rattle.pair_core.specs.PairChanges.{IsBesideNode, IsLearned}
use Rattle.pair_core.specs.PairNodes.{node_in, put}
use Rattle.pair_core.specs.PairRefusals as rows
use Rattle.pair_core.specs.PairWrites.{IsWritten, AppendAnswers}
use Rattle.pair_core.specs.declared.faults.PairFault.{PairFault}
use Rattle.pair_core.specs.declared.faults.PairFault.TheVariants as fault
use Rattle.pair_core.specs.declared.nodes.Nodes.{Nodes as OwnNodes}
use Rattle.pair_core.specs.declared.pair.Pair.{Pair}
use Rattle.pair_core.proofs.PairLearned.{Gave, IsInStep, in_step, learned_shown, learns_still, long_at, not_learned, beside_on, bounds_kept, course_kept, follows, rose_at, is_call}
use Rattle.pair_core.proofs.PairRows as own
use Rattle.pair_core.proofs.PairRows.{AreRow, Matches, matched, all_none, not_when, when_not}
use Rattle.pair_core.proofs.PairShown.{at_each, at_node, all_quiet, all_stay}

-- ---- refusals of the pair that are those of the world

module _ {D : Type 0} (state : D → DiskState) (limits : Limits) (p : Pair D) (w : World Entry) (shown : Shows state limits p w) where
  not_holder : (n : NodeName) → Matches (rows.not_holder p n) (refusals.not_holder w n)
  not_holder n = subst (λ (d : Duty). Matches (rows.not_holder p n) (when (not (is_node n d.holder)) (refusals.Out_of_duty n d.epoch d.holder))) shown.duty
      (matched (not (is_node n (duty_of p).holder)) (not (is_node n (duty_of p).holder)) _ (refusals.Out_of_duty n (duty_of p).epoch (duty_of p).holder) refl refl)

  -- those of the holder's journal, where it is up
  module _ (up : is_node_up p (rows.holder p) ≡ true) where
    abbrev own_len : ℕ
    own_len = length (node_at w.base.nodes (rows.holder p)).journal

    own_long : len_of p (rows.holder p) ≡ own_len
    own_long = long_at state limits p w (rows.holder p) shown up

    in_flight : Matches (rows.in_flight p) (refusals.in_flight w)
    in_flight = subst (λ (d : Duty). Matches (rows.in_flight p) (when (nat_lt (length w.base.booked) (length (node_at w.base.nodes d.holder).journal)) (refusals.In_flight (suc (length w.base.booked))))) shown.duty
        (matched (nat_lt (count_of p) (len_of p (rows.holder p))) (nat_lt (length w.base.booked) own_len) (fault.InFlight (suc (count_of p))) (refusals.In_flight (suc (length w.base.booked)))
        (λ i. nat_lt (shown.count i) (own_long i)) (ap (λ (m : ℕ). Some (Refused (refusals.In_flight (suc m)))) shown.count))

    pub no_flight : Matches (rows.no_flight p) (refusals.no_flight w)
    no_flight = subst (λ (d : Duty). Matches (rows.no_flight p) (when (nat_le (length (node_at w.base.nodes d.holder).journal) (length w.base.booked)) refusals.No_flight)) shown.duty
        (matched (nat_le (len_of p (rows.holder p)) (count_of p)) (nat_le own_len (length w.base.booked)) fault.NoFlight refusals.No_flight (λ i. nat_le (own_long i) (shown.count i)) refl)

  -- the holder is up, where no refusal says that it is down
  pub up_there : (n : NodeName) → refusals.node_is_down w n ≡ None → is_node_up p n ≡ true
  up_there n none = sym (shown.nodes n).up ∙ tested.up_passed (node_at w.base.nodes n).up (refusals.Down (disk_of n)) none

  holder_up : (n : NodeName) → refusals.node_is_down w n ≡ None → refusals.not_holder w n ≡ None → is_node_up p (rows.holder p) ≡ true
  holder_up n up mine =
      let is : n ≡ w.base.duty.holder = same_node n w.base.duty.holder (tested.not_false (is_node n w.base.duty.holder) (tested.passed (not (is_node n w.base.duty.holder)) (refusals.Out_of_duty n w.base.duty.epoch w.base.duty.holder) mine)) in
      subst (λ m. is_node_up p m ≡ true) (is ∙ ap (λ (d : Duty). d.holder) (sym shown.duty)) (up_there n up)

  -- the row of a write
  write_tests : (n : NodeName) → AreRow (rows.duty_is_down p ∷ rows.node_is_down p n ∷ rows.not_holder p n ∷ rows.in_flight p ∷ [])
      (refusals.duty_is_down w ∷ refusals.node_is_down w n ∷ refusals.not_holder w n ∷ refusals.in_flight w ∷ [])
  write_tests n = (own.duty_is_down state limits p w shown, λ _. (own.node_is_down state limits p w shown n, λ up. (not_holder n, λ mine. (in_flight (holder_up n up mine), λ _. tt))))

-- ---- a crash at each moment of a change of one node

module _ {D : Type 0} (state : D → DiskState) (limits : Limits) (old new : Pair D) (w : World Entry) (event : OfficeEvent) (n : NodeName) (shown : Shows state limits old w) (nodes : new.nodes ≡ put old.nodes n (node_of new n)) (same : new.register ≡ old.register)
    (sound : (disk : D) → IsSound (state disk)) (each : EachMoment (state (node.disk_of (node_of old n))) (state (node.disk_of (node_of new n))) (LeavesJournal limits (bounds_of old) w event n)) where
  abbrev Leaves : NodeName → Node D → Type 0
  Leaves k x = EachMoment (state (node.disk_of (node_of old k))) (state (node.disk_of x)) (LeavesJournal limits (bounds_of old) w event k)

  pub node_left : (k : NodeName) (image : List ℕ) → (state (node.disk_of (node_of old k))).may_leave image → LeavesJournal limits (bounds_of old) w event k image
  node_left k image left = let it = (shown.nodes k).images image left in (it.0, it.1, (w, inl refl, it.2))

  at_nodes : (k : NodeName) → Leaves k (node_in (put old.nodes n (node_of new n)) k)
  at_nodes = at_each old n (node_of new n) Leaves (λ k. quiet (state (node.disk_of (node_of old k))) (state (node.disk_of (node_of old k))) _ (sound (node.disk_of (node_of old k))) (stays_here _) (node_left k)) each

  pub node_moments : AreMoments state limits old new w event
  node_moments = record {
    a = subst (λ (x : OwnNodes D). Leaves A (node_in x A)) (sym nodes) (at_nodes A);
    b = subst (λ (x : OwnNodes D). Leaves B (node_in x B)) (sym nodes) (at_nodes B);
    duty =
        subst (λ (r : Register D). EachMoment (state (register.disk_of old.register)) (state (register.disk_of r)) (LeavesDuties limits (bounds_of old) w event)) (sym same)
        (quiet (state (register.disk_of old.register)) (state (register.disk_of old.register)) _ (sound (register.disk_of old.register)) (stays_here _) (λ image left. let it = shown.images image left in (it.0, it.1, (w, inl refl, it.2))));
  }

-- ---- entries of frames

is_entry : (e : Entry) → IsInRange e → IsEntry e
is_entry (entry.Open company cycle count day digest) h = tt
is_entry (entry.Line company cycle line bytes) h = h.3
is_entry (entry.Edit editor serial edit) h = h

push_at : (frames : List (Frame Entry)) (f : Frame Entry) → slice_get (frames ++ f ∷ []) (length frames) ≡ Some f
push_at [] f = refl
push_at (x ∷ frames) f = push_at frames f

last_lawful : (frames : List (Frame Entry)) (f : Frame Entry) → All IsFrame (frames ++ f ∷ []) → IsFrame f
last_lawful frames f all =
    let at = push_at frames f in
    subst IsFrame (get_or_from_slice_get (frames ++ f ∷ []) (length frames) f f at) (All-get_or IsFrame (frames ++ f ∷ []) (length frames) f (slice_get_within (frames ++ f ∷ []) (length frames) f at) all)

-- ---- failed writes

failed_put : (fs : FailedWrites Entry) (n : NodeName) (x : Option (List (Frame Entry))) → failed_write_at (put_failed_write fs n x) n ≡ x
failed_put fs A x = refl
failed_put fs B x = refl

failed_kept : (fs : FailedWrites Entry) (n : NodeName) (x : Option (List (Frame Entry))) (k : NodeName) → (k ≡ n → ⊥) → failed_write_at (put_failed_write fs n x) k ≡ failed_write_at fs k
failed_kept fs A x A far = absurd (far refl)
failed_kept fs A x B far = refl
failed_kept fs B x A far = refl
failed_kept fs B x B far = absurd (far refl)

-- the limit of each journal
pub limit_at : {D : Type 0} (p : Pair D) (n : NodeName) → journals.limit_of (node.journal_of (node_of p n)) ≡ (bounds_of p).frames
limit_at p A = refl
limit_at p B = sym p.limits

-- ---- a node that is up and represents frames

pub node_represented : {D : Type 0} (state : D → DiskState) (limits : Limits) (p : Pair D) (n : NodeName) (s : NodeState Entry) (failed : Option (List (Frame Entry))) → is_node_up p n ≡ true → s.up ≡ true → s.known ≡ node.known_of (node_of p n)
    → node.Represents state limits (node_of p n) s.journal → ShowsNode state limits n (node_of p n) s failed
node_represented state limits p n s failed up is_up known now =
    let kept = now.journal.kept in
    record {
      up = is_up ∙ sym up;
      known = known;
      images = λ image left. (
        s.journal,
        subst (λ x. StandsFor n s.journal x) (sym (kept.synced.durable image left)) (subst (λ name. StandsFor name s.journal kept.image) (p.named n) kept.stands),
        inl refl,
      );
      table = (_, now.table);
      frames = λ _. now;
    }

-- ---- what the pair shows after a write

module _ {D : Type 0} (state : D → DiskState) (limits : Limits) (mid new : Pair D) (w : World Entry) (n : NodeName) (e : Entry) (shown : Shows state limits mid w) (up : is_node_up mid n ≡ true) where
  abbrev frames : List (Frame Entry)
  frames = (node_at w.base.nodes n).journal

  abbrev longer : List (Frame Entry)
  longer = with_frame e w.base.duty.epoch frames

  s_up : (node_at w.base.nodes n).up ≡ true
  s_up = (shown.nodes n).up ∙ up

  -- the frame is written
  pub written_shown : (number : ℕ) → IsWritten state mid new n e w.base.duty.epoch (Ok number) → Shows state limits new (record w { base = record w.base { nodes = put_node w.base.nodes n (record (node_at w.base.nodes n) { journal = longer }) } })
  written_shown number wrote =
      at_node state limits mid new w n shown wrote.beside (record (node_at w.base.nodes n) { journal = longer }) w.failed_writes (λ k far. refl)
      (node_represented state limits new n (record (node_at w.base.nodes n) { journal = longer }) (failed_write_at w.failed_writes n) wrote.answer.usable s_up ((shown.nodes n).known ∙ sym wrote.fixed.known)
      (wrote.stored limits frames ((shown.nodes n).frames up)))

  -- a crash in the write leaves the frames from before, or with the new one
  pub in_write : CrashesBetween state (with_frame e w.base.duty.epoch) (node_of mid n) (node_of new n) → EachMoment (state (node.disk_of (node_of mid n))) (state (node.disk_of (node_of new n))) (StandsForEither n frames longer)
  in_write between =
      subst (λ name. EachMoment (state (node.disk_of (node_of mid n))) (state (node.disk_of (node_of new n))) (StandsForEither name frames longer)) (mid.named n) (between frames ((shown.nodes n).frames up).journal)

  -- its disk failed in the write
  pub failed_shown : IsSound (state (node.disk_of (node_of new n))) → IsWritten state mid new n e w.base.duty.epoch (Err appending.DiskFault)
      → Shows state limits new (write_failed w n longer)
  failed_shown sound wrote =
      at_node state limits mid new w n shown wrote.beside (record (node_at w.base.nodes n) { up = false }) (put_failed_write w.failed_writes n (Some longer)) (failed_kept w.failed_writes n (Some longer)) (record {
        up = sym wrote.answer.usable;
        known = (shown.nodes n).known ∙ sym wrote.fixed.known;
        images = λ image left. which image (now_too (state (node.disk_of (node_of mid n))) (state (node.disk_of (node_of new n))) (StandsForEither n frames longer) sound (in_write wrote.moments) image left);
        table = (
          entries (take (node.learned_of (node_of mid n)) frames),
          subst (λ o. history.Represents limits o (entries (take (node.learned_of (node_of mid n)) frames))) (sym wrote.fixed.office) ((shown.nodes n).frames up).table,
        );
        frames = λ is. absurd (no_up wrote.answer.usable is);
      })
    where
      no_up : node.is_usable (node_of new n) ≡ false → node.is_usable (node_of new n) ≡ true → ⊥
      no_up down is = absurd (let both = sym down ∙ is in cc)

      which : (image : List ℕ) → StandsForEither n frames longer image → (held : List (Frame Entry)) × StandsFor n held image × ((frames ≡ held) ⊎ (failed_write_at (put_failed_write w.failed_writes n (Some longer)) n ≡ Some held))
      which image (inl before) = (frames, before, inl refl)
      which image (inr after) = (longer, after, inr (failed_put w.failed_writes n (Some longer)))

-- ---- a write whose refusals are passed

-- the rest of its row
abbrev write_rest : Limits → World Entry → Bounds → Entry → Row Told (World Entry)
write_rest limits w bounds e =
    let h = w.base.duty.holder in
    MayFail (disk_of h) (read_failed w h)
    (unless (state_of limits w) (Next e ∷ Test (refusals.full w bounds) ∷ [])
    (MayFail (disk_of h) (write_failed w h (journal_written w.base e))
    (Success (Written (suc (length (holder_journal w.base))) w.base.duty.epoch) (record w { base = written w.base e }))))

-- what holds then
pub record IsPassed {D : Type 0} (p : Pair D) (n : NodeName) : Type 0 where
  pub register_up : is_up p ≡ true
  pub up : is_node_up p n ≡ true
  pub holder : n ≡ (duty_of p).holder
  pub few : len_of p n ≤ count_of p

pub write_passed : {D : Type 0} (p : Pair D) (n : NodeName) → rows.write_refusal p n ≡ None → IsPassed p n
write_passed p n none =
    let all = all_none (rows.duty_is_down p ∷ rows.node_is_down p n ∷ rows.not_holder p n ∷ rows.in_flight p ∷ []) none in
    let holder : n ≡ (duty_of p).holder = same_node n (duty_of p).holder (when_not (is_node n (duty_of p).holder) (rows.out_of_duty p n) all.1.1.0) in
    let free : nat_lt (count_of p) (len_of p (rows.holder p)) ≡ false = not_when (nat_lt (count_of p) (len_of p (rows.holder p))) (fault.InFlight (suc (count_of p))) all.1.1.1.0 in
    record {
      register_up = own.up_for p (rows.node_is_down p n ∷ rows.not_holder p n ∷ rows.in_flight p ∷ []) none;
      up = when_not (is_node_up p n) (fault.Down (disk_of n)) all.1.0;
      holder = holder;
      few = lt_false (count_of p) (len_of p n) (subst (λ m. nat_lt (count_of p) (len_of p m) ≡ false) (sym holder) free);
    }
  where
    lt_false : (m k : ℕ) → nat_lt m k ≡ false → k ≤ m
    lt_false m k is = grind (arith, nat_tests)

module _ {D : Type 0} (state : D → DiskState) (limits : Limits) (old : Pair D) (w : World Entry) (n : NodeName) (e : Entry) (shown : Shows state limits old w) (lawful : IsLawful limits (bounds_of old) w) (none : rows.write_refusal old n ≡ None) where
  lift : (now : Counts) (t : Told) (v : World Entry) → Gives (counts_of state old) now Failed w (write_rest limits w (bounds_of old) e) t v → Gives (counts_of state old) now Failed w (write_row limits w (bounds_of old) n e) t v
  lift now t v gives = own.passed (counts_of state old) now (state_of limits w) w (write_rest limits w (bounds_of old) e)
      (rows.duty_is_down old ∷ rows.node_is_down old n ∷ rows.not_holder old n ∷ rows.in_flight old ∷ [])
      (refusals.duty_is_down w ∷ refusals.node_is_down w n ∷ refusals.not_holder w n ∷ refusals.in_flight w ∷ []) t v (write_tests state limits old w shown n) none gives

  pub up : is_node_up old n ≡ true
  up = (write_passed old n none).up

  mine : n ≡ w.base.duty.holder
  mine = (write_passed old n none).holder ∙ ap (λ (d : Duty). d.holder) shown.duty

  free : length (node_at w.base.nodes n).journal ≡ length w.base.booked
  free =
      let long = long_at state limits old w n shown up in
      let begins = Begins-length (follows limits (bounds_of old) w lawful n (inl mine)).begins in
      omega (arith, (write_passed old n none).few, long, begins, shown.count)

  -- the table does not learn
  pub write_unread : (new : Pair D) → IsLearned state old new n → (f : PairFault) → LearningCauses state old new n f → Gave state limits old new w (λ lasted u. write_row limits u (bounds_of old) n e) (fault_told f)
  write_unread new learned f causes =
      not_learned state limits old new w n shown learned lawful (inl mine) (λ lasted u. write_row limits u (bounds_of old) n e)
      (λ rose. lift (counts_of state new) (Failed (disk_of n)) (read_failed w n)
      (inl (ap (λ m. Failed (disk_of m)) mine, ap (λ m. read_failed w m) mine, subst (λ m. RoseAt (counts_of state old) (counts_of state new) (disk_of m)) mine rose)))
      f causes

  -- ---- the table is ready

  module _ (mid new : Pair D) (learned : IsLearned state old mid n) (ready : ReadyRest state old mid n (Ok tt)) where
    still : is_node_up mid n ≡ true
    still = ready.0.1

    mid_shown : Shows state limits mid w
    mid_shown = learned_shown state limits old mid w n shown learned up still

    mid_bounds : bounds_of mid ≡ bounds_of old
    mid_bounds = bounds_kept state old mid n learned.1.nodes learned.1.register learned.0.journal.fixed

    step : IsInStep state limits mid w n mid_shown still
    step = in_step state limits mid w n mid_shown still (subst (λ b. IsLawful limits b w) (sym mid_bounds) lawful) (inl mine) ready.3

    long : len_of mid n ≡ length (node_at w.base.nodes n).journal
    long = long_at state limits mid w n mid_shown still

    due_there : (r : Result (Unit {0}) DueFault) → due_of (table_of mid n).state e ≡ r → due_of (state_of limits w) e ≡ r
    due_there r is = ap (λ (s : State). due_of s e) (sym step.table) ∙ is

    epoch_is : (duty_of mid).epoch ≡ w.base.duty.epoch
    epoch_is = ap (λ (d : Duty). d.epoch) mid_shown.duty

    frame_limit : journals.limit_of (node.journal_of (node_of mid n)) ≡ (bounds_of old).frames
    frame_limit = limit_at mid n ∙ ap (λ (b : Bounds). b.frames) mid_bounds

    abbrev longer_frames : List (Frame Entry)
    longer_frames = with_frame e w.base.duty.epoch (node_at w.base.nodes n).journal

    room : len_of mid n < journals.limit_of (node.journal_of (node_of mid n)) → length (holder_journal w.base) < (bounds_of old).frames
    room less = subst (λ m. length (node_at w.base.nodes m).journal < (bounds_of old).frames) mine (omega (arith, less, long, frame_limit))

    not_full : length (holder_journal w.base) < (bounds_of old).frames → option_map Refused (refusals.full w (bounds_of old)) ≡ None
    not_full less = ap (λ (b : Bool). option_map Refused (when b (refusals.Full (bounds_of old).frames))) (le_false (bounds_of old).frames (length (holder_journal w.base)) less)
      where
        le_false : (m k : ℕ) → k < m → nat_le m k ≡ false
        le_false m k h = grind (arith, nat_tests)

    is_full : (limit : ℕ) → len_of mid n ≡ journals.limit_of (node.journal_of (node_of mid n)) → limit ≡ journals.limit_of (node.journal_of (node_of mid n)) → option_map Refused (refusals.full w (bounds_of old)) ≡ Some (Refused (refusals.Full limit))
    is_full limit all_there is =
        let most : (bounds_of old).frames ≤ length (holder_journal w.base) = subst (λ m. (bounds_of old).frames ≤ length (node_at w.base.nodes m).journal) mine (omega (arith, all_there, long, frame_limit)) in
        ap (λ (b : Bool). option_map Refused (when b (refusals.Full (bounds_of old).frames))) (le_true (bounds_of old).frames (length (holder_journal w.base)) most)
        ∙ ap (λ (m : ℕ). Some (Refused (refusals.Full m))) (sym (is ∙ frame_limit))
      where
        le_true : (m k : ℕ) → m ≤ k → nat_le m k ≡ true
        le_true m k h = grind (arith, nat_tests)

    -- the journal was full: nothing is changed
    full_learned : (limit : ℕ) → IsWritten state mid new n e (duty_of mid).epoch (Err (appending.Full limit)) → IsLearned state old new n
    full_learned limit wrote =
        (learns_still state (node_of old n) (node_of mid n) (node_of new n) learned.0 wrote.answer.journal.2 wrote.fixed.office wrote.fixed.learned wrote.fixed.known, beside_on old mid new n learned.1 wrote.beside)

    abbrev GaveWrite : Option Told → Type 0
    GaveWrite t = Gave state limits old new w (λ lasted u. write_row limits u (bounds_of old) n e) t

    done_does : (number : ℕ) → IsWritten state mid new n e w.base.duty.epoch (Ok number) → GaveWrite (Some (Written number (duty_of old).epoch))
    done_does number wrote =
        let at : (m : NodeName) → World Entry = λ m. record w { base = record w.base { nodes = put_node w.base.nodes m (record (node_at w.base.nodes m) { journal = with_frame e w.base.duty.epoch (node_at w.base.nodes m).journal }) } } in
        let number_is : number ≡ suc (length (holder_journal w.base)) = subst (λ m. number ≡ suc (length (node_at w.base.nodes m).journal)) mine (omega (arith, wrote.answer.journal.1, long)) in
        let epoch : (duty_of old).epoch ≡ w.base.duty.epoch = ap (λ (d : Duty). d.epoch) shown.duty in (
          at n,
          written_shown state limits mid new w n e mid_shown still number wrote,
          (
            false,
            lift (counts_of state new) (Written number (duty_of old).epoch) (at n)
                (inr (inr (ap not_due (due_there (Ok tt) wrote.told), inr (not_full (room wrote.answer.journal.0), inr ((λ i. Written (number_is i) (epoch i)), ap at mine))))),
          ),
        )

    full_does : (limit : ℕ) → IsWritten state mid new n e (duty_of mid).epoch (Err (appending.Full limit)) → GaveWrite (Some (Refused (refusals.Full limit)))
    full_does limit wrote = (
      w,
      learned_shown state limits old new w n shown (full_learned limit wrote) up wrote.answer.usable,
      (
        false,
        lift (counts_of state new) (Refused (refusals.Full limit)) w
            (inr (inr (ap not_due (due_there (Ok tt) wrote.told), inl (is_full limit wrote.answer.journal.0 wrote.answer.journal.1, refl)))),
      ),
    )

    failed_does : IsSound (state (node.disk_of (node_of new n))) → IsWritten state mid new n e w.base.duty.epoch (Err appending.DiskFault) → GaveWrite (Some (Failed (disk_of n)))
    failed_does sound wrote =
        let at : (m : NodeName) → World Entry = λ m. write_failed w m (with_frame e w.base.duty.epoch (node_at w.base.nodes m).journal) in
        let rose : RoseAt (counts_of state old) (counts_of state new) (disk_of n) = rose_at state old new n (omega (arith, learned.0.journal.fixed.faults, wrote.answer.journal.1)) in (
          at n,
          failed_shown state limits mid new w n e mid_shown still sound wrote,
          (
            false,
            lift (counts_of state new) (Failed (disk_of n)) (at n)
                (inr (inr (
                  ap not_due (due_there (Ok tt) wrote.told),
                  inr (
                    not_full (room wrote.answer.journal.0),
                    inl (ap (λ m. Failed (disk_of m)) mine, ap at mine, subst (λ m. RoseAt (counts_of state old) (counts_of state new) (disk_of m)) mine rose),
                  ),
                ))),
          ),
        )

    -- what the row gives
    pub append_does : ((disk : D) → IsSound (state disk)) → (result : Result ℕ PairFault) → AppendAnswers state mid new n e result → GaveWrite (told (written_told (duty_of old).epoch) result)
    append_does sound (Ok number) wrote = done_does number (subst (λ k. IsWritten state mid new n e k (Ok number)) epoch_is wrote)
    append_does sound (Err (fault.NotDue f)) is =
        subst (λ (p : Pair D). Gave state limits old p w (λ lasted u. write_row limits u (bounds_of old) n e) (Some (Not_due f))) (sym is.1)
        (w, mid_shown, (false, lift (counts_of state mid) (Not_due f) w (inr (inl (ap not_due (due_there (Err f) is.0), refl)))))
    append_does sound (Err (fault.Full limit)) wrote = full_does limit wrote
    append_does sound (Err (fault.Fault disk)) is =
        subst (λ (d : DiskName). GaveWrite (Some (Failed d))) (sym is.0) (failed_does (sound _) (subst (λ k. IsWritten state mid new n e k (Err appending.DiskFault)) epoch_is is.1))
    append_does sound (Err f) is = absurd is

    -- a crash in the write leaves what the world before gives, or the failed write
    in_the_write : len_of mid n < journals.limit_of (node.journal_of (node_of mid n)) → IsDue (table_of mid n).state e → (image : List ℕ) → StandsForEither n (node_at w.base.nodes n).journal longer_frames image → LeavesJournal limits (bounds_of old) w (Write e) n image
    in_the_write less due image (inl before) = ((node_at w.base.nodes n).journal, before, (w, inl refl, inl refl))
    in_the_write less due image (inr after) =
        let is : IsEntry e = is_entry e (last_lawful (node_at w.base.nodes n).journal (record { entry = e; epoch = w.base.duty.epoch }) after.lawful).1 in
        let due_now : IsDue (state_of limits w) e = subst (λ (s : State). IsDue s e) step.table due in
        let register_up : w.register_up ≡ true = shown.register_up ∙ (write_passed old n none).register_up in
        let at : (m : NodeName) → World Entry = λ m. write_failed w m (with_frame e w.base.duty.epoch (node_at w.base.nodes m).journal) in (
          longer_frames,
          after,
          (
            at n,
            inr (
              register_up,
              inr (
                record {
                  up = subst (λ m. (node_at w.base.nodes m).up ≡ true) mine ((shown.nodes n).up ∙ up);
                  free = subst (λ m. length (node_at w.base.nodes m).journal ≡ length w.base.booked) mine free;
                  next = (is, due_now);
                  room = room less;
                },
                ap at mine,
              ),
            ),
            inr (failed_put w.failed_writes n (Some longer_frames)),
          ),
        )

    write_between : ((disk : D) → IsSound (state disk)) → len_of mid n < journals.limit_of (node.journal_of (node_of mid n)) → IsDue (table_of mid n).state e → CrashesBetween state (with_frame e w.base.duty.epoch) (node_of mid n) (node_of new n)
        → IsBesideNode mid new n → AreMoments state limits old new w (Write e)
    write_between sound less due between beside =
        let all_beside = beside_on old mid new n learned.1 beside in
        node_moments state limits old new w (Write e) n shown all_beside.nodes all_beside.register sound
        (run_on (state (node.disk_of (node_of old n))) (state (node.disk_of (node_of mid n))) (state (node.disk_of (node_of new n))) (LeavesJournal limits (bounds_of old) w (Write e) n)
        (quiet (state (node.disk_of (node_of old n))) (state (node.disk_of (node_of mid n))) _ (sound (node.disk_of (node_of old n))) learned.0.journal.stays
        (λ image left. let it = (shown.nodes n).images image left in (it.0, it.1, (w, inl refl, it.2))))
        (weaker (state (node.disk_of (node_of mid n))) (state (node.disk_of (node_of new n))) (StandsForEither n (node_at w.base.nodes n).journal longer_frames) _ (in_the_write less due)
        (in_write state limits mid new w n e mid_shown still between)))

    pub append_moments : ((disk : D) → IsSound (state disk)) → (result : Result ℕ PairFault) → AppendAnswers state mid new n e result → AreMoments state limits old new w (Write e)
    append_moments sound (Ok number) wrote =
        write_between sound wrote.answer.journal.0 wrote.due (subst (λ k. CrashesBetween state (with_frame e k) (node_of mid n) (node_of new n)) epoch_is wrote.moments) wrote.beside
    append_moments sound (Err (fault.NotDue f)) is =
        subst (λ (p : Pair D). AreMoments state limits old p w (Write e)) (sym is.1) (all_quiet state limits old mid w (Write e) shown sound (all_stay state old mid n learned.1 learned.0.journal.stays))
    append_moments sound (Err (fault.Full limit)) wrote =
        let now = full_learned limit wrote in
        all_quiet state limits old new w (Write e) shown sound (all_stay state old new n now.1 now.0.journal.stays)
    append_moments sound (Err (fault.Fault disk)) is =
        write_between sound is.1.answer.journal.0 is.1.due (subst (λ k. CrashesBetween state (with_frame e k) (node_of mid n) (node_of new n)) epoch_is is.1.moments) is.1.beside
    append_moments sound (Err f) is = absurd is

-- ---- why each answer of a write comes

pub unread_causes : {D : Type 0} (state : D → DiskState) (old new : Pair D) (n : NodeName) (e : Entry) (f : PairFault) → LearningCauses state old new n f → KeepsCourse state old new → WriteRest state old new n e (Err f)
unread_causes state old new n e (fault.NotDue f) causes course = absurd causes
unread_causes state old new n e (fault.Full limit) causes course = absurd causes
unread_causes state old new n e f causes course = (causes, course)

module _ {D : Type 0} (state : D → DiskState) (old mid new : Pair D) (n : NodeName) (e : Entry) (passed : IsPassed old n) (learned : IsLearned state old mid n) (ready : ReadyRest state old mid n (Ok tt)) where
  exact : len_of old n ≡ count_of old
  exact =
      let behind = (node_of mid n).behind in
      omega (arith, passed.few, behind, ready.2, ready.3, learned.1.count)

  course : IsBesideNode mid new n → KeepsCourse state old new
  course beside = course_kept state old new n (beside_on old mid new n learned.1 beside)

  pub append_causes : (result : Result ℕ PairFault) → AppendAnswers state mid new n e result → WriteRest state old new n e result
  append_causes (Ok number) wrote =
      let is : number ≡ len_of mid n + 1 = wrote.answer.journal.1 in
      let one : len_of new n ≡ len_of mid n + 1 = ap length wrote.answer.journal.2 ∙ length-append (journals.epochs_of (node.journal_of (node_of mid n))) ((duty_of mid).epoch ∷ []) in
      ((ready.0.0, wrote.answer.usable), course wrote.beside, exact, omega (arith, is, ready.2, exact), omega (arith, is, one))
  append_causes (Err (fault.NotDue f)) is =
      subst (λ (p : Pair D). WriteRest state old p n e (Err (fault.NotDue f))) (sym is.1) (ready.0, ready.1, is.0)
  append_causes (Err (fault.Full limit)) wrote =
      let limit_is : limit ≡ journals.limit_of (node.journal_of (node_of mid n)) = wrote.answer.journal.1 in
      let all_there : len_of mid n ≡ journals.limit_of (node.journal_of (node_of mid n)) = wrote.answer.journal.0 in
      let frames : journals.limit_of (node.journal_of (node_of mid n)) ≡ (bounds_of old).frames = learned.0.journal.fixed.limit ∙ limit_at old n in
      ((ready.0.0, wrote.answer.usable), course wrote.beside, limit_is ∙ frames, omega (arith, ready.2, all_there, limit_is))
  append_causes (Err (fault.Fault disk)) is =
      let wrote = is.1 in
      let rose : RoseAt (counts_of state old) (counts_of state new) (disk_of n) = rose_at state old new n (omega (arith, learned.0.journal.fixed.faults, wrote.answer.journal.1)) in
      ((is.0, (ready.0.0, wrote.answer.usable), subst (λ (d : DiskName). RoseAt (counts_of state old) (counts_of state new) d) (sym is.0) rose), course wrote.beside)
  append_causes (Err f) is = absurd is

  wrote_call : journals.IsFixed state (node.journal_of (node_of mid n)) (node.journal_of (node_of new n)) → IsBesideNode mid new n → IsCall state old new
  wrote_call fixed beside =
      let all = beside_on old mid new n learned.1 beside in
      let first = learned.0.journal.fixed in
      is_call state old new n all.nodes all.register (record { name = fixed.name ∙ first.name; limit = fixed.limit ∙ first.limit; faults = omega (arith, first.faults, fixed.faults) }) (omega (arith, all.count))

  -- what no call changes
  pub append_call : IsCall state old mid → (result : Result ℕ PairFault) → AppendAnswers state mid new n e result → IsCall state old new
  append_call call (Ok number) wrote = wrote_call wrote.fixed.journal wrote.beside
  append_call call (Err (fault.NotDue f)) is = subst (λ (p : Pair D). IsCall state old p) (sym is.1) call
  append_call call (Err (fault.Full limit)) wrote = wrote_call wrote.fixed.journal wrote.beside
  append_call call (Err (fault.Fault disk)) is = wrote_call is.1.fixed.journal is.1.beside
  append_call call (Err f) is = absurd is

-- a refusal of the row of a write: the world stays
pub write_refused : {D : Type 0} (state : D → DiskState) (limits : Limits) (p : Pair D) (w : World Entry) (n : NodeName) (e : Entry) → Shows state limits p w → (f : PairFault) → rows.write_refusal p n ≡ Some f
    → Gave state limits p p w (λ lasted u. write_row limits u (bounds_of p) n e) (fault_told f)
write_refused state limits p w n e shown f is =
    own.refused_does state limits p w shown (λ lasted u. write_row limits u (bounds_of p) n e) f (rows.duty_is_down p ∷ rows.node_is_down p n ∷ rows.not_holder p n ∷ rows.in_flight p ∷ []) is
    (λ t same. own.refused (counts_of state p) (counts_of state p) (state_of limits w) w (write_rest limits w (bounds_of p) e)
    (rows.duty_is_down p ∷ rows.node_is_down p n ∷ rows.not_holder p n ∷ rows.in_flight p ∷ [])
    (refusals.duty_is_down w ∷ refusals.node_is_down w n ∷ refusals.not_holder w n ∷ refusals.in_flight w ∷ [])
    f t (write_tests state limits p w shown n) is same)
