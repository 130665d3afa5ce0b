-- Courses of messages in the world: one message more carries them on, and each leaves a lawful world.
use Rattle.std.proofs.Common.{◌≡◌, inl, inr, ℕ, suc, ◌<◌, ◌≤◌, List, [], ◌∷◌, ◌++◌, ◌+◌, length, refl, sym, ap, subst, ◌∙◌, arith, Option, Some, None, Bool, true, false, cond, nat_lt, ◌==◌, ◌-◌}
use Rattle.std.specs.Prelude.{not, max, option_map, slice_get}
use Rattle.std.proofs.lemmas.List.{length_push}
use Rattle.std.proofs.lemmas.Bool.Decides.{nat_tests}
use Rattle.ali_base.specs.Faults.{Rose}
use Rattle.ali_base.specs.Steps.{when}
use Rattle.ali_base.specs.declared.names.DiskName.{DiskName}
use Rattle.ali_base.specs.declared.names.DiskName.TheVariants as disks
use Rattle.ali_base.specs.declared.names.NodeName.{NodeName}
use Rattle.ali_base.specs.declared.names.NodeName.TheVariants.{A, B}
use Rattle.office_entry.specs.declared.entry.Entry.{Entry}
use Rattle.office_state.specs.OfficeState.{State}
use Rattle.office_state.specs.declared.limits.Limits.{Limits}
use Rattle.pair_core.specs.PairPassing.{pass_row, passed_row}
use Rattle.pair_world.specs.Changes.{shipment, read_failed, write_failed, journal_stored}
use Rattle.pair_world.specs.Deliveries as answers
use Rattle.pair_world.specs.Deliveries.{Answer, NodeMessage, answer, answer_in, differs_before, ack_end}
use Rattle.pair_world.specs.Frames.{Frame, Begins, epoch_at, OnItem, without}
use Rattle.pair_world.specs.Moments.{IsUnderWay}
use Rattle.pair_world.specs.Passing.{done, passes, passes_acked, passes_refused, passed, passed_acked}
use Rattle.pair_world.specs.Refusals as refusals
use Rattle.pair_world.specs.Refusals.{Refusal, Test, disk_of, receiving_row}
use Rattle.pair_world.specs.Replies.{receiver, state_left}
use Rattle.pair_world.specs.Step.{Bounds, Ship, Deliver, Drop, Faulted, Turn, CanShip, CanStore, OnShipment, FailsToStore, Runs}
use Rattle.pair_world.specs.World.{World, Shipment, Ships, other, told_by, NodeState, Nodes, node_at, put_node, holder_journal, is_up, known}
use Rattle.pair_world.proofs.Items.{slice_none}
use Rattle.pair_world.proofs.Lists.{Begins-refl, Begins-trans}
use Rattle.pair_world.proofs.Limiting.{within_from, within_of, runs_within}
use Rattle.pair_world.proofs.Passing.{acked_runs, cut_runs, behind_runs}
use Rattle.pair_world.proofs.Received.{behind_or_not}
use Rattle.pair_world.proofs.SoundSteps.{schedule_is_sound, base_has_parts, caught_up_is_equal}
use Rattle.world_rows.specs.Counts.{Counts, NeverFall, count_at}
use Rattle.world_rows.specs.Histories.{due_after, state_of, IsLawful}
use Rattle.world_rows.specs.Rows.{Row, Unless, MayFail, Always, Success, Gives}
use Rattle.world_rows.specs.Told.{Told, Refused, Failed, Sent, Have_end}
use Rattle.world_rows.specs.WorldRows.{unless, journal_at}
use Rattle.world_rows.proofs.Steps.{step_is_lawful, step_only_grows}
use Rattle.pair_core.proofs.PairRows.{tests}
use Rattle.catch_up.specs.CatchingUp.{number_after, first_number, first_row, Course, CatchesUp, CourseTo, HasComeTo, with_shipment, IsOnTheWay, IsInStep}

pub rose_later : (a b c d : ℕ) → a ≤ b → c ≤ d → Rose b c → Rose a d
rose_later a b c d low high rose = omega arith

-- what a row gives, it gives over longer times too
pub gives_later : {R W : Type 0} (first before now later : Counts) → NeverFall first before → NeverFall now later
    → (failure : DiskName → R) (w : W) (row : Row R W) (reply : R) (v : W) → Gives before now failure w row reply v → Gives first later failure w row reply v
gives_later first before now later low high failure w (Unless refusal row) reply v (inl is) = inl is
gives_later first before now later low high failure w (Unless refusal row) reply v (inr rest) = inr (rest.0, gives_later first before now later low high failure w row reply v rest.1)
gives_later first before now later low high failure w (MayFail disk left row) reply v (inl failed) =
    inl (failed.0, failed.1, rose_later (count_at first disk) (count_at before disk) (count_at now disk) (count_at later disk) (low disk) (high disk) failed.2)
gives_later first before now later low high failure w (MayFail disk left row) reply v (inr rest) = inr (gives_later first before now later low high failure w row reply v rest)
gives_later first before now later low high failure w (Always refusal) reply v gives = gives
gives_later first before now later low high failure w (Success done left) reply v gives = gives

pub never_falls : (a b c : Counts) → NeverFall a b → NeverFall b c → NeverFall a c
never_falls a b c one two disk = let x : count_at a disk ≤ count_at b disk = one disk in let y : count_at b disk ≤ count_at c disk = two disk in omega arith

-- Whatever comes of message k in the world u, catching up from w comes to.
abbrev pub LeadsTo : Limits → Counts → Counts → World Entry → ℕ → World Entry → Type 0
LeadsTo limits before now w k u =
    (later : Counts) → NeverFall now later → (turns : List (Told × World Entry)) (told : Told) (v : World Entry)
    → Course limits before later (pass_row limits u k) u turns told v → CatchesUp limits before later w told v

module _ (limits : Limits) (before now later : Counts) (w u : World Entry) (k : ℕ) (leads : LeadsTo limits before now w k u)
    (low : NeverFall before now) (high : NeverFall now later) (told : Told) (v : World Entry) (gives : Gives now later Failed u (pass_row limits u k) told v) where
  -- one message more
  pub leads_on : (j : ℕ) → number_after told ≡ Some j → LeadsTo limits before later w j v
  leads_on j is last never turns end x course =
      leads last (never_falls now later last high never) ((told, v) ∷ turns) end x
      (gives_later before now later last low never Failed u (pass_row limits u k) told v gives, j, is, course)

  -- the last one
  pub leads_out : number_after told ≡ None → CatchesUp limits before later w told v
  leads_out is =
      leads later high [] told v
      (gives_later before now later later low (λ disk. omega arith) Failed u (pass_row limits u k) told v gives, is)

-- what comes of the first message comes of the first row
abbrev pub Enters : Limits → World Entry → Type 0
Enters limits w =
    (before now : Counts) (told : Told) (v : World Entry) → Gives before now Failed w (pass_row limits w (first_number w)) told v → Gives before now Failed w (first_row limits w) told v

module _ (limits : Limits) (before now : Counts) where
  course_to_later : (later : Counts) → NeverFall now later → (row : Row Told (World Entry)) (first : ℕ) (w : World Entry) (turns : List (Told × World Entry)) (k : ℕ) (u : World Entry) → CourseTo limits before now row first w turns k u → CourseTo limits before later row first w turns k u
  course_to_later later high row first w [] k u so_far = so_far
  course_to_later later high row first w (turn ∷ turns) k u so_far = (
    gives_later before before now later (λ disk. omega arith) high Failed w row turn.0 turn.1 so_far.0,
    so_far.1,
    so_far.2,
    course_to_later later high (pass_row limits turn.1 so_far.1) so_far.1 turn.1 turns k u so_far.3,
  )

  -- so far over longer times
  pub come_later : (later : Counts) → NeverFall now later → (w : World Entry) (k : ℕ) (u : World Entry) → HasComeTo limits before now w k u → HasComeTo limits before later w k u
  come_later later high w k u come = (come.0, course_to_later later high (first_row limits w) (first_number w) w come.0 k u come.1)

  pub on_the_way_later : (bounds : Bounds) (later : Counts) → NeverFall now later → (w v : World Entry) → IsOnTheWay limits bounds before now w v → IsOnTheWay limits bounds before later w v
  on_the_way_later bounds later high w v (inl is) = inl is
  on_the_way_later bounds later high w v (inr on) = inr (on.0, on.1, come_later later high w on.0 on.1 on.2, on.3, on.4)

  course_to_on : (row : Row Told (World Entry)) (first : ℕ) (w : World Entry) (turns : List (Told × World Entry)) (k : ℕ) (u : World Entry) → CourseTo limits before now row first w turns k u
      → ((t : Told) (x : World Entry) → Gives before now Failed w (pass_row limits w first) t x → Gives before now Failed w row t x)
      → (told : Told) (v : World Entry) (j : ℕ) → Gives before now Failed u (pass_row limits u k) told v → number_after told ≡ Some j → CourseTo limits before now row first w (turns ++ (told, v) ∷ []) j v
  course_to_on row first w [] k u so_far enters told v j gives is = (
    enters told v
        (subst (λ (z : World Entry). Gives before now Failed z (pass_row limits z first) told v) (sym so_far.1)
        (subst (λ (n : ℕ). Gives before now Failed u (pass_row limits u n) told v) (sym so_far.0) gives)),
    j,
    is,
    (refl, refl),
  )
  course_to_on row first w (turn ∷ turns) k u so_far enters told v j gives is = (
    so_far.0,
    so_far.1,
    so_far.2,
    course_to_on (pass_row limits turn.1 so_far.1) so_far.1 turn.1 turns k u so_far.3 (λ t x g. g) told v j gives is,
  )

  -- so far, with one message more
  pub come_on : (w : World Entry) (k : ℕ) (u : World Entry) → Enters limits w → HasComeTo limits before now w k u → (told : Told) (v : World Entry) (j : ℕ) → Gives before now Failed u (pass_row limits u k) told v → number_after told ≡ Some j → HasComeTo limits before now w j v
  come_on w k u enters come told v j gives is = (come.0 ++ (told, v) ∷ [], course_to_on (first_row limits w) (first_number w) w come.0 k u come.1 (enters before now) told v j gives is)

-- ---- lawful worlds

not_when : (b : Bool) (r : Refusal) → option_map Refused (when b r) ≡ None → b ≡ false
not_when true r is = absurd (cc)
not_when false r is = refl

when_not : (b : Bool) (r : Refusal) → option_map Refused (when (not b) r) ≡ None → b ≡ true
when_not true r is = refl
when_not false r is = absurd (cc)

behind_is : (journal : List (Frame Entry)) (m : NodeMessage Entry) → length journal < m.preceding → answer journal m ≡ answers.Behind
unfolding answer
behind_is journal m short = ap (λ (b : Bool). cond b answers.Behind (answer_in journal m m.frame)) is
  where
    is : nat_lt (length journal) m.preceding ≡ true
    is = grind (arith, nat_tests)

no_ack : (a : Answer Entry) (end : Bool) → a ≡ answers.Behind → ack_end a ≡ Some end → ⊥
no_ack a end is acks = none (sym (ap ack_end is) ∙ acks)
  where
    none : None ≡ Some end → ⊥
    none e = absurd (cc)

-- no request is answered in these courses
abbrev no_form : List Entry → List ℕ → Unit {0}
no_form history tn = tt

module _ (limits : Limits) (bounds : Bounds) (w v : World Entry) (lawful : IsLawful limits bounds w) where
  runs_lawful : (turns : List (Turn Entry (List ℕ) (Unit {0}))) → Runs (due_after limits) no_form bounds w turns v → IsLawful limits bounds v
  runs_lawful turns runs = record {
    sound = schedule_is_sound (due_after limits) no_form bounds w v turns lawful.sound runs;
    within = within_of bounds v (runs_within (due_after limits) no_form bounds w (within_from bounds w lawful.within) turns v runs);
  }

-- the last of a list, and the list without it
last_is : {A : Type 0} (items : List A) (y : A) → slice_get (items ++ y ∷ []) (length items) ≡ Some y
last_is [] y = refl
last_is (z ∷ items) y = last_is items y

last_dropped : {A : Type 0} (items : List A) (y : A) → without (items ++ y ∷ []) (suc (length items)) ≡ items
last_dropped [] y = refl
last_dropped (z ∷ items) y = ap (λ (l : List _). z ∷ l) (last_dropped items y)

-- the end is told
pub is_end : Told → Bool
is_end (Have_end number made) = true
is_end told = false

not_end : {P : Type 0} (told t : Told) → told ≡ t → is_end t ≡ false → is_end told ≡ true → P
not_end told t is other end = absurd (apart (is_end told) end (ap is_end is ∙ other))
  where
    apart : (b : Bool) → b ≡ true → b ≡ false → ⊥
    apart b e f = absurd (cc)

-- the holder's whole journal is acknowledged
abbrev pub IsAcked : World Entry → Type 0
IsAcked v = length (holder_journal v.base) < v.base.ended

-- What one message keeps: the world is lawful, nothing is booked, and a number after it is at least 1. Where the end was told, it is acknowledged.
pub record Keeps (limits : Limits) (bounds : Bounds) (w : World Entry) (told : Told) (v : World Entry) : Type 0 where
  pub lawful : IsLawful limits bounds v
  pub booked : v.base.booked ≡ w.base.booked
  pub counted : (j : ℕ) → number_after told ≡ Some j → 1 ≤ j
  pub acked : is_end told ≡ true → IsAcked v

refused_not_end : {P : Type 0} (o : Option Refusal) (told : Told) → option_map Refused o ≡ Some told → is_end told ≡ true → P
unfolding is_end
refused_not_end None told is end = absurd (cc)
refused_not_end (Some r) told is end = not_end told (Refused r) (sym same) refl end
  where
    same : Refused r ≡ told
    same = cc

refused_counted : (o : Option Refusal) (told : Told) → option_map Refused o ≡ Some told → (j : ℕ) → number_after told ≡ Some j → 1 ≤ j
refused_counted None told is j e = absurd (cc)
refused_counted (Some r) told is j e = absurd (none (ap number_after same ∙ e))
  where
    same : Refused r ≡ told
    same = cc

    none : None ≡ Some j → ⊥
    none e = absurd (cc)

failed_counted : (disk : DiskName) (told : Told) → told ≡ Failed disk → (j : ℕ) → number_after told ≡ Some j → 1 ≤ j
failed_counted disk told is j e = absurd (none (ap number_after (sym is) ∙ e))
  where
    none : None ≡ Some j → ⊥
    none e = absurd (cc)

number_counted : (n j : ℕ) (told t : Told) → told ≡ t → number_after t ≡ Some n → 1 ≤ n → number_after told ≡ Some j → 1 ≤ j
number_counted n j told t is number low e = subst (λ (m : ℕ). 1 ≤ m) (same (sym number ∙ ap number_after (sym is) ∙ e)) low
  where
    same : Some n ≡ Some j → n ≡ j
    same e = cc

end_counted : (j : ℕ) (told t : Told) → told ≡ t → number_after t ≡ None → number_after told ≡ Some j → 1 ≤ j
end_counted j told t is none e = absurd (apart (sym none ∙ ap number_after (sym is) ∙ e))
  where
    apart : None ≡ Some j → ⊥
    apart e = absurd (cc)

-- an entry is never answered as the end
entry_rows : (b c d e : Bool) (n m : ℕ) (f : Frame Entry) → ◌≡◌ {A = Answer Entry} (cond b answers.Behind (cond c (cond d answers.Have (answers.Cut n)) (cond e (answers.Cut m) (answers.Stored f)))) answers.Have_end → ⊥
entry_rows true c d e n m f is = absurd (cc)
entry_rows false true true e n m f is = absurd (cc)
entry_rows false true false e n m f is = absurd (cc)
entry_rows false false d true n m f is = absurd (cc)
entry_rows false false d false n m f is = absurd (cc)

end_told : (journal : List (Frame Entry)) (m : NodeMessage Entry) → answer journal m ≡ answers.Have_end → m.frame ≡ None
unfolding answer
end_told journal m is = by_frame m.frame refl
  where
    by_frame : (o : Option (Frame Entry)) → m.frame ≡ o → o ≡ None
    by_frame None e = refl
    by_frame (Some f) e =
        absurd (entry_rows (nat_lt (length journal) m.preceding) (nat_lt m.preceding (length journal)) (epoch_at journal (suc m.preceding) == f.epoch) (differs_before journal m) m.preceding (m.preceding - 1) f
        (ap (λ (o : Option (Frame Entry)). cond (nat_lt (length journal) m.preceding) answers.Behind (answer_in journal m o)) (sym e) ∙ is))

holder_stays : (ns : Nodes Entry) (n : NodeName) (st : NodeState Entry) → node_at (put_node ns (other n) st) n ≡ node_at ns n
holder_stays ns A st = refl
holder_stays ns B st = refl

-- where the end was passed on, it is acknowledged
end_acked : (w : World Entry) (k : ℕ) → (shipment w.base k).frame ≡ None → IsAcked (passed_acked w k true)
end_acked w k none =
    let past : length (holder_journal w.base) ≤ k - 1 = slice_none (holder_journal w.base) (k - 1) none in
    subst (λ (st : NodeState Entry). length st.journal < max w.base.ended (suc (k - 1))) (sym (holder_stays w.base.nodes w.base.duty.holder (state_left (receiver w.base (shipment w.base k)) (told_by (shipment w.base k))))) (grind arith)

module _ (limits : Limits) (bounds : Bounds) (before now : Counts) (w v : World Entry) (k : ℕ) (told : Told)
    (lawful : IsLawful limits bounds w) (low : 1 ≤ k) where
  abbrev x : Shipment Entry
  x = shipment w.base k

  abbrev said : Answer Entry
  said = answer (journal_at w (other x.sender)) (told_by x)

  -- the world that is left, what is booked there, and the number after it
  left : (u : World Entry) → IsLawful limits bounds u → u.base.booked ≡ w.base.booked → v ≡ u → ((j : ℕ) → number_after told ≡ Some j → 1 ≤ j) → (is_end told ≡ true → IsAcked v) → Keeps limits bounds w told v
  left u its books is counted acked = record {
    lawful = subst (IsLawful limits bounds) (sym is) its;
    booked = ap (λ (z : World Entry). z.base.booked) is ∙ books;
    counted = counted;
    acked = acked;
  }

  -- what is left where this was told, which is not the end
  other_end : (t : Told) → told ≡ t → is_end t ≡ false → is_end told ≡ true → IsAcked v
  other_end t is other end = not_end told t is other end

  -- a refusal
  same : (o : Option Refusal) → (option_map Refused o ≡ Some told) × (v ≡ w) → Keeps limits bounds w told v
  same o r = left w lawful refl r.1 (refused_counted o told r.0) (refused_not_end o told r.0)

  module _ (reg : w.register_up ≡ true) (can : CanShip w.base k) where
    module _ (up : is_up w.base (other x.sender)) (fresh : known w.base (other x.sender) ≤ x.epoch) where
      plain : ack_end said ≡ None → IsLawful limits bounds (passed w k)
      plain none =
          elim (behind_or_not w.base x up fresh) [
            | inl behind ↦ runs_lawful limits bounds w (passed w k) lawful (passes_refused k (length w.base.messages)) (behind_runs (due_after limits) no_form bounds w k reg can behind)
            | inr store ↦ runs_lawful limits bounds w (passed w k) lawful (passes k (length w.base.messages)) (cut_runs (due_after limits) no_form bounds w k reg can store none)
          ]

      heard : (end : Bool) → ack_end said ≡ Some end → IsLawful limits bounds (passed_acked w k end)
      heard end acks =
          elim (behind_or_not w.base x up fresh) [
            | inl behind ↦ absurd (no_ack said end (behind_is (journal_at w (other x.sender)) (told_by x) behind.behind) acks)
            | inr store ↦ runs_lawful limits bounds w (passed_acked w k end) lawful (passes_acked k (length w.base.messages)) (acked_runs (due_after limits) no_form bounds w k reg can store end acks)
          ]

      -- the other node's disk fails while it stores: the message was on its way, and is dropped
      abbrev on_its_way : World Entry
      on_its_way = record w { base = record w.base { messages = w.base.messages ++ Ships x ∷ [] } }

      abbrev fallen : World Entry
      fallen = write_failed w (other x.sender) (journal_stored w.base x)

      abbrev fallen_on_its_way : World Entry
      fallen_on_its_way = write_failed on_its_way (other x.sender) (journal_stored on_its_way.base x)

      abbrev fall : List (Turn Entry (List ℕ) (Unit {0}))
      fall = done (Ship k) ∷ record { event = Deliver (suc (length w.base.messages)); outcome = Faulted } ∷ done (Drop (suc (length w.base.messages))) ∷ []

      falls : CanStore w.base x → Runs (due_after limits) no_form bounds w fall fallen
      falls store = (
        on_its_way,
        (reg, (can, refl), refl),
        (
          fallen_on_its_way,
          (
            reg,
            subst (λ o. OnItem o (λ m. OnShipment m (λ y. FailsToStore on_its_way y fallen_on_its_way))) (sym (last_is w.base.messages (Ships x)))
                (inr (record { up = store.up; not_stale = store.not_stale; not_behind = store.not_behind }, refl)),
          ),
          (
            fallen,
            (reg, (omega arith, omega (arith, length_push w.base.messages (Ships x)), ap (λ z. record fallen_on_its_way.base { messages = z }) (sym (last_dropped w.base.messages (Ships x)))), refl),
            refl,
          ),
        ),
      )

      failed : (said ≡ answers.Behind → ⊥) → IsLawful limits bounds fallen
      failed not_behind =
          elim (behind_or_not w.base x up fresh) [
            | inl behind ↦ absurd (not_behind (behind_is (journal_at w (other x.sender)) (told_by x) behind.behind))
            | inr store ↦ runs_lawful limits bounds w fallen lawful fall (falls store)
          ]

      by_answer : (a : Answer Entry) → said ≡ a → Gives before now Failed w (passed_row limits w k x a) told v → Keeps limits bounds w told v
      unfolding is_end
      by_answer answers.Behind is gives = left (passed w k) (plain (ap ack_end is)) refl gives.1 (λ j e. number_counted (length (journal_at w (other x.sender)) + 1) j told _ gives.0 refl (omega arith) e) (other_end _ gives.0 refl)
      by_answer (answers.Cut m) is (inl fault) = left fallen (failed (λ e. cut_apart m (sym is ∙ e))) refl fault.1 (failed_counted _ told fault.0) (other_end _ fault.0 refl)
        where
          cut_apart : (m : ℕ) → ◌≡◌ {A = Answer Entry} (answers.Cut m) answers.Behind → ⊥
          cut_apart m e = absurd (cc)
      by_answer (answers.Cut m) is (inr gives) = left (passed w k) (plain (ap ack_end is)) refl gives.1 (λ j e. number_counted (suc m) j told _ gives.0 refl (omega arith) e) (other_end _ gives.0 refl)
      by_answer (answers.Stored frame) is (inl fault) = left fallen (failed (λ e. stored_apart (sym is ∙ e))) refl fault.1 (failed_counted _ told fault.0) (other_end _ fault.0 refl)
        where
          stored_apart : ◌≡◌ {A = Answer Entry} (answers.Stored frame) answers.Behind → ⊥
          stored_apart e = absurd (cc)
      by_answer (answers.Stored frame) is (inr gives) = left (passed_acked w k false) (heard false (ap ack_end is)) refl gives.1 (λ j e. number_counted (suc x.preceding + 1) j told _ gives.0 refl (omega arith) e) (other_end _ gives.0 refl)
      by_answer answers.Have is gives = left (passed_acked w k false) (heard false (ap ack_end is)) refl gives.1 (λ j e. number_counted (suc x.preceding + 1) j told _ gives.0 refl (omega arith) e) (other_end _ gives.0 refl)
      by_answer answers.Have_end is gives = left (passed_acked w k true) (heard true (ap ack_end is)) refl gives.1 (λ j e. end_counted j told _ gives.0 refl e) (λ end. subst IsAcked (sym gives.1) (end_acked w k (end_told (journal_at w (other x.sender)) (told_by x) is)))

    at_receiver : Gives before now Failed w (unless (state_of limits w) (receiving_row w x) (passed_row limits w k x said)) told v → Keeps limits bounds w told v
    at_receiver (inl refused) = same _ refused
    at_receiver (inr rest) = at_epoch rest.1
      where
        at_epoch : Gives before now Failed w (unless (state_of limits w) (Test (refusals.stale w x) ∷ []) (passed_row limits w k x said)) told v → Keeps limits bounds w told v
        at_epoch (inl refused) = same _ refused
        at_epoch (inr last) =
            let up : is_up w.base (other x.sender) = when_not _ _ rest.0 in
            let not_stale : nat_lt x.epoch (known w.base (other x.sender)) ≡ false = not_when _ _ last.0 in
            let fresh : known w.base (other x.sender) ≤ x.epoch = grind (arith, nat_tests) in
            by_answer up fresh said refl last.1

  abbrev received : Row Told (World Entry)
  received = unless (state_of limits w) (receiving_row w x) (passed_row limits w k x said)

  abbrev shipped_row : Row Told (World Entry)
  shipped_row = MayFail (disk_of w.base.duty.holder) (read_failed w w.base.duty.holder) received

  read : w.register_up ≡ true → CanShip w.base k → Gives before now Failed w shipped_row told v → Keeps limits bounds w told v
  unfolding is_end
  read reg can (inl fault) =
      left (read_failed w w.base.duty.holder)
      (step_is_lawful limits bounds w (read_failed w w.base.duty.holder) (Ship k) (Failed (disk_of w.base.duty.holder)) lawful (reg, can.up, refl)) refl fault.1 (failed_counted _ told fault.0) (other_end _ fault.0 refl)
  read reg can (inr rest) = at_receiver reg can rest

  at_number : w.register_up ≡ true → is_up w.base w.base.duty.holder → Gives before now Failed w (unless (state_of limits w) (Test (refusals.no_entry w k) ∷ []) shipped_row) told v → Keeps limits bounds w told v
  at_number reg up (inl refused) = same _ refused
  at_number reg up (inr rest) =
      let not_more : nat_lt (suc (length (holder_journal w.base))) k ≡ false = not_when _ _ rest.0 in
      let within : k ≤ suc (length (holder_journal w.base)) = grind (arith, nat_tests) in
      read reg (record { up = up; from = omega (arith, low); within = within }) rest.1

  at_holder : w.register_up ≡ true → Gives before now Failed w (unless (state_of limits w) (Test (refusals.node_is_down w w.base.duty.holder) ∷ Test (refusals.no_entry w k) ∷ []) shipped_row) told v → Keeps limits bounds w told v
  at_holder reg (inl refused) = same _ refused
  at_holder reg (inr rest) = at_number reg (when_not _ _ rest.0) rest.1

  -- what passing a message on keeps
  pub pass_keeps : Gives before now Failed w (pass_row limits w k) told v → Keeps limits bounds w told v
  pass_keeps (inl refused) = same _ refused
  pass_keeps (inr rest) = at_holder (when_not _ _ rest.0) rest.1

  -- passing a message on leaves a lawful world
  pub pass_lawful : Gives before now Failed w (pass_row limits w k) told v → IsLawful limits bounds v
  pass_lawful gives = (pass_keeps gives).lawful

-- ---- whole courses

-- after these tests, none of which books anything, the row keeps what the rest of it keeps
tests_keep : (limits : Limits) (bounds : Bounds) (before now : Counts) (w v : World Entry) (told : Told) (s : State) (items : List (Option Refusal)) (row : Row Told (World Entry)) → IsLawful limits bounds w
    → (Gives before now Failed w row told v → Keeps limits bounds w told v) → Gives before now Failed w (unless s (tests items) row) told v → Keeps limits bounds w told v
tests_keep limits bounds before now w v told s [] row lawful rest gives = rest gives
tests_keep limits bounds before now w v told s (o ∷ items) row lawful rest (inl refused) =
    record {
      lawful = subst (IsLawful limits bounds) (sym refused.1) lawful;
      booked = ap (λ (z : World Entry). z.base.booked) refused.1;
      counted = refused_counted o told refused.0;
      acked = refused_not_end o told refused.0;
    }
tests_keep limits bounds before now w v told s (o ∷ items) row lawful rest (inr more) = tests_keep limits bounds before now w v told s items row lawful rest more.1

abbrev first_tests : World Entry → List (Option Refusal)
first_tests w = refusals.duty_is_down w ∷ refusals.node_is_down w w.base.duty.holder ∷ refusals.paired w ∷ refusals.node_is_down w (other w.base.duty.holder) ∷ []

-- what the first message keeps
pub first_keeps : (limits : Limits) (bounds : Bounds) (before now : Counts) (w v : World Entry) (told : Told) → IsLawful limits bounds w → Gives before now Failed w (first_row limits w) told v → Keeps limits bounds w told v
first_keeps limits bounds before now w v told lawful gives =
    tests_keep limits bounds before now w v told (state_of limits w) (first_tests w) (pass_row limits w (first_number w)) lawful (λ gives. pass_keeps limits bounds before now w v (first_number w) told lawful (omega arith) gives) gives

module _ (limits : Limits) (bounds : Bounds) (before now : Counts) (told : Told) (v : World Entry) where
  -- what a whole course keeps
  abbrev pub Kept : World Entry → Type 0
  Kept w = IsLawful limits bounds v × (v.base.booked ≡ w.base.booked) × (is_end told ≡ true → IsAcked v)

  course_keeps : (turns : List (Told × World Entry)) (row : Row Told (World Entry)) (w : World Entry) → ((t : Told) (u : World Entry) → Gives before now Failed w row t u → Keeps limits bounds w t u)
      → Course limits before now row w turns told v → Kept w
  course_keeps [] row w keeps course = let kept = keeps told v course.0 in (kept.lawful, kept.booked, kept.acked)
  course_keeps (turn ∷ turns) row w keeps course =
      let kept = keeps turn.0 turn.1 course.0 in
      let rest = course_keeps turns (pass_row limits turn.1 course.1) turn.1 (λ t u gives. pass_keeps limits bounds before now turn.1 u course.1 t kept.lawful (kept.counted course.1 course.2) gives) course.3 in
      (rest.0, rest.1 ∙ kept.booked, rest.2)

  -- catching up leads from a lawful world to a lawful one, and books nothing
  pub catching_up_keeps : (w : World Entry) → IsLawful limits bounds w → CatchesUp limits before now w told v → Kept w
  catching_up_keeps w lawful catches =
      course_keeps catches.0 (first_row limits w) w
      (λ t u. first_keeps limits bounds before now w u t lawful)
      catches.1

module _ (limits : Limits) (bounds : Bounds) (before now : Counts) where
  so_far_keeps : (row : Row Told (World Entry)) (first : ℕ) (w : World Entry) (turns : List (Told × World Entry)) (k : ℕ) (u : World Entry) → IsLawful limits bounds w → ((t : Told) (x : World Entry) → Gives before now Failed w row t x → Keeps limits bounds w t x)
      → CourseTo limits before now row first w turns k u → IsLawful limits bounds u × (u.base.booked ≡ w.base.booked)
  so_far_keeps row first w [] k u lawful keeps course = (subst (IsLawful limits bounds) course.1 lawful, ap (λ (z : World Entry). z.base.booked) (sym course.1))
  so_far_keeps row first w (turn ∷ turns) k u lawful keeps course =
      let kept = keeps turn.0 turn.1 course.0 in
      let rest = so_far_keeps (pass_row limits turn.1 course.1) course.1 turn.1 turns k u kept.lawful (λ t x gives. pass_keeps limits bounds before now turn.1 x course.1 t kept.lawful (kept.counted course.1 course.2) gives) course.3 in
      (rest.0, rest.1 ∙ kept.booked)

  -- each world on the way is lawful, and loses nothing that was booked
  pub on_the_way_lawful : (w v : World Entry) → IsLawful limits bounds w → IsOnTheWay limits bounds before now w v → IsLawful limits bounds v × Begins v.base.booked w.base.booked
  on_the_way_lawful w v lawful (inl is) = (subst (IsLawful limits bounds) (sym is) lawful, subst (λ (z : World Entry). Begins z.base.booked w.base.booked) (sym is) (Begins-refl w.base.booked))
  on_the_way_lawful w v lawful (inr on) =
      let k = on.0 in
      let u = on.1 in
      let so_far = so_far_keeps (first_row limits w) (first_number w) w on.2.0 k u lawful
      (λ t x. first_keeps limits bounds before now w x t lawful) on.2.1 in
      let sent = step_is_lawful limits bounds u (with_shipment u k) (Ship k) (Sent 0) so_far.0 on.3 in
      let books : Begins u.base.booked w.base.booked = subst (λ (l : List (Frame Entry)). Begins l w.base.booked) (sym so_far.1) (Begins-refl w.base.booked) in
      by_moment k u sent books on.4
    where
      by_moment : (k : ℕ) (u : World Entry) → IsLawful limits bounds (with_shipment u k) → Begins u.base.booked w.base.booked → IsUnderWay {Q = List ℕ} (due_after limits) bounds (with_shipment u k) (Deliver (suc (length u.base.messages))) v → IsLawful limits bounds v × Begins v.base.booked w.base.booked
      by_moment k u sent books (inl is) = (subst (IsLawful limits bounds) (sym is) sent, subst (λ (z : World Entry). Begins z.base.booked w.base.booked) (sym is) books)
      by_moment k u sent books (inr fails) = (
        step_is_lawful limits bounds (with_shipment u k) v (Deliver (suc (length u.base.messages))) (Failed disks.A) sent fails,
        Begins-trans (step_only_grows limits bounds (with_shipment u k) v (Deliver (suc (length u.base.messages))) (Failed disks.A) sent fails) books,
      )

-- where the end is told, the other node has caught up
pub caught_up_in_step : (limits : Limits) (bounds : Bounds) (before now : Counts) (w v : World Entry) (number made : ℕ) → IsLawful limits bounds w → CatchesUp limits before now w (Have_end number made) v → IsInStep v (length (holder_journal v.base))
unfolding is_end
caught_up_in_step limits bounds before now w v number made lawful catches =
    let kept = catching_up_keeps limits bounds before now (Have_end number made) v w lawful catches in
    let acked : IsAcked v = kept.2 refl in
    record {
      journals = caught_up_is_equal (due_after limits) v.base (base_has_parts (due_after limits) v kept.0.sound) acked;
      long = refl;
      ended = acked;
    }
