-- Each event keeps what is known of a world in doubt.
use Rattle.std.proofs.Common.{◌≡◌, ℕ, ◌≤◌, Bool, true, false, cond, nat_lt, List, [], ◌∷◌, ◌++◌, length, take, refl, ap, sym, ◌∙◌, subst, arith, Option, Some, None}
use Rattle.std.proofs.lemmas.Bool.Decides.{nat_tests}
use Rattle.ali_base.specs.declared.names.NodeName.{NodeName}
use Rattle.ali_base.specs.declared.names.NodeName.TheVariants.{A, B}
use Rattle.ali_base.specs.declared.duty.Mode.{Mode}
use Rattle.ali_base.specs.declared.duty.Mode.TheVariants.{Both, Alone}
use Rattle.ali_base.specs.declared.duty.Duty.{Duty}
use Rattle.pair_world.specs.Frames.{Frame, item_at, In, without}
use Rattle.pair_world.specs.World.{told_by, other, is_node, Shipment, Message, Ships, Acks, NodeState, node_at, put_node, Resolved, own, holder_journal, is_up, with_nodes, with_node, with_duty, recovered, failed_write_at, World, Choice, choice_at, picked_node, picked_nodes, with_failed_duty, unrecovered}
use Rattle.pair_world.specs.Deliveries.{answer, journal_after}
use Rattle.pair_world.specs.Changes.{node_down, journal_written, written, shipped, delivered, booked_next, new_duty, duty_changed, stopped, started, register_started, epoch_heard, read_failed, write_failed, register_failed}
use Rattle.pair_world.specs.Step.{Event, Write, Ship, Deliver, Drop, Book, Take, Go_alone, Pair_up, Stop, Start, Start_duty, Ask, Bounds, CanWrite, CanStore, CanDeliver, CanLeavePair, CanPair, ResolvedStep}
use Rattle.pair_world.proofs.Parts.{IsParts, IsKept}
use Rattle.pair_world.proofs.Items.{on_item}
use Rattle.pair_world.proofs.Worlds.{write_as, moved_as, down_sound, learn_sound, take_sound, alone_sound, pair_sound, stop_sound, start_sound, recover_sound, both_begin, after_step}
use Rattle.pair_world.proofs.Doubts.{at_choice, own_is, to_own, up_is, sure_put, sure_failed, not_up, recover_down, recover_new, longest, no_longer, picked_change, picked_failed, at_picked, learned_is, down_is, same_step}
use Rattle.pair_world.proofs.Items.{some_is, none_some}

module _ {E : Type 0} (due : List E → E → Type 0) (w : World E) (s : IsKept due w) where
  -- there is no failed duty while the register is up
  pub none_failed : w.register_up ≡ true → (d : Duty) → w.failed_duty ≡ Some d → ⊥
  none_failed reg d e = none_some d (sym (s.one_duty reg) ∙ e)

  certain : w.register_up ≡ true → (u : Resolved E) → ((n : NodeName) → is_up u n → failed_write_at w.failed_writes n ≡ None) → ((c : Choice) → IsParts due (at_choice due w s c u)) → IsKept due (record w { base = u })
  certain reg u sure plain =
      record {
        one_journal = sure;
        one_duty = s.one_duty;
        unrecovered_parts = plain;
        recovered_parts = λ c d e. absurd (none_failed reg d e);
        sure_taker = λ d e. absurd (none_failed reg d e);
      }

  -- a node that is up after an event was up before it, or is the one whose state is put, of which there is no doubt
  put_sure : (n : NodeName) (state : NodeState E) → is_up w.base n → (m : NodeName) → (node_at (put_node w.base.nodes n state) m).up ≡ true → failed_write_at w.failed_writes m ≡ None
  put_sure n state up = sure_put w.failed_writes w.base.nodes n state s.one_journal (λ e. s.one_journal n up)

  sure_of : (x u : Resolved E) → u ≡ x → ((n : NodeName) → is_up x n → failed_write_at w.failed_writes n ≡ None) → (n : NodeName) → is_up u n → failed_write_at w.failed_writes n ≡ None
  sure_of x u e sure n up = sure n (subst (λ z. is_up z n) e up)

  sure_after : {Q : Type 0} (bounds : Bounds) (e : Event E Q) (u : Resolved E) → ResolvedStep due bounds w.base e u → (n : NodeName) → is_up u n → failed_write_at w.failed_writes n ≡ None
  sure_after bounds (Write e) u g = sure_of (written w.base e) u g.1 (put_sure w.base.duty.holder _ g.0.up)
  sure_after bounds (Ship k) u g = sure_of (shipped w.base k) u g.1 s.one_journal
  sure_after bounds (Deliver i) u g = let m = on_item (item_at w.base.messages i) _ g in sure_of (delivered w.base m.0) u m.2.1 (by_message m.0 m.2.0)
    where
      by_message : (m : Message E) → CanDeliver w.base m → (n : NodeName) → is_up (delivered w.base m) n → failed_write_at w.failed_writes n ≡ None
      by_message (Ships x) can = put_sure (other x.sender) _ can.up
      by_message (Acks a) can = s.one_journal
  sure_after bounds (Drop i) u g = sure_of (record w.base { messages = without w.base.messages i }) u g.2 s.one_journal
  sure_after bounds Book u g = sure_of (booked_next w.base) u g.1 s.one_journal
  sure_after bounds (Take n) u g = sure_of (duty_changed w.base n Alone (node_at w.base.nodes n).journal) u g.1 (put_sure n _ g.0.up)
  sure_after bounds Go_alone u g = sure_of (duty_changed w.base w.base.duty.holder Alone w.base.booked) u g.1 (put_sure w.base.duty.holder _ g.0.up)
  sure_after bounds Pair_up u g = sure_of (duty_changed w.base w.base.duty.holder Both w.base.booked) u g.1 (put_sure w.base.duty.holder _ g.0.up)
  sure_after bounds (Stop n) u g = sure_of (stopped w.base n) u g.1 (put_sure n _ g.0)
  sure_after bounds (Start n) u g = absurd g
  sure_after bounds Start_duty u g = absurd g
  sure_after bounds (Ask n r since) u g = absurd g

  pub done_kept : {Q : Type 0} (bounds : Bounds) (e : Event E Q) (u : Resolved E) → w.register_up ≡ true → ResolvedStep due bounds w.base e u → IsKept due (record w { base = u })
  done_kept bounds e u reg g =
      certain reg u (sure_after bounds e u g)
      (λ c. after_step due bounds (unrecovered c w) (s.unrecovered_parts c) e (at_choice due w s c u) (same_step due w s bounds e u g c))

  -- a node goes down, and of the acknowledged numbers nothing more is left than the parts allow
  lowered_kept : (n : NodeName) (reached ended : ℕ) → ((c : Choice) → IsParts due (record (node_down (unrecovered c w) n) { acked = reached; ended = ended })) → IsKept due (record w { base = record (node_down w.base n) { acked = reached; ended = ended } })
  lowered_kept n reached ended parts =
      record {
        one_journal = sure_put w.failed_writes w.base.nodes n (record (node_at w.base.nodes n) { up = false }) s.one_journal (λ e. absurd (not_up e));
        one_duty = s.one_duty;
        unrecovered_parts = λ c. subst (λ (y : Resolved E). IsParts due (record y { acked = reached; ended = ended })) (sym (down_is due w s c n)) (parts c);
        recovered_parts = λ c d e. subst (IsParts due) (sym (ap (λ y. recovered (with_duty y d)) (down_is due w s c n) ∙ recover_down (unrecovered c w) d n)) (down_sound due (recovered (with_duty (unrecovered c w) d)) (s.recovered_parts c d e) n);
        sure_taker = s.sure_taker;
      }

  pub down_kept : (n : NodeName) → IsKept due (read_failed w n)
  down_kept n = lowered_kept n w.base.acked w.base.ended (λ c. down_sound due (unrecovered c w) (s.unrecovered_parts c) n)

  pub stop_kept : (n : NodeName) → IsKept due (record w { base = stopped w.base n })
  stop_kept n = lowered_kept n (cond (is_node n w.base.duty.holder) 0 w.base.acked) (cond (is_node n w.base.duty.holder) 0 w.base.ended) (λ c. stop_sound due (unrecovered c w) (s.unrecovered_parts c) n)

  pub learned_kept : (x : Shipment E) → w.register_up ≡ true → In w.base.messages (Ships x) → is_up w.base (other x.sender) → IsKept due (record w { base = epoch_heard w.base x })
  learned_kept x reg i up =
      certain reg (epoch_heard w.base x) (put_sure (other x.sender) _ up)
      (λ c. subst (IsParts due) (sym (learned_is due w s x c up)) (learn_sound due (unrecovered c w) (s.unrecovered_parts c) x i))

  -- a write fails at a node: it is down, and the list before or after is there
  write_failed_kept : (n : NodeName) (j : List (Frame E)) → w.register_up ≡ true → is_up w.base n → ((c : Choice) → IsParts due (with_node (unrecovered c w) n (record { up = false; known = (node_at w.base.nodes n).known; journal = j }))) → IsKept due (write_failed w n j)
  write_failed_kept n j reg up after =
      record {
        one_journal = sure_failed w.failed_writes w.base.nodes n (Some j) (record (node_at w.base.nodes n) { up = false }) s.one_journal (λ e. absurd (not_up e));
        one_duty = s.one_duty;
        unrecovered_parts = λ c. subst (IsParts due) (sym (ap (λ ns. with_nodes w.base ns) (picked_failed c w.failed_writes w.base.nodes n j (record (node_at w.base.nodes n) { up = false })))) (by_choice c (choice_at c n));
        recovered_parts = λ c d e. absurd (none_failed reg d e);
        sure_taker = λ d e. absurd (none_failed reg d e);
      }
    where
      by_choice : (c : Choice) (b : Bool) → IsParts due (with_nodes w.base (put_node (picked_nodes c w.failed_writes w.base.nodes) n (picked_node (Some j) b (record (node_at w.base.nodes n) { up = false }))))
      by_choice c true = after c
      by_choice c false = subst (λ (st : NodeState E). IsParts due (with_nodes w.base (put_node (picked_nodes c w.failed_writes w.base.nodes) n (record st { up = false })))) (own_is due w s c n up) (down_sound due (unrecovered c w) (s.unrecovered_parts c) n)

  pub write_fails : (bounds : Bounds) (e : E) → w.register_up ≡ true → CanWrite due bounds w.base e → IsKept due (write_failed w w.base.duty.holder (journal_written w.base e))
  write_fails bounds e reg g =
      let x = w.base in
      let h = w.base.duty.holder in
      write_failed_kept h (journal_written x e) reg g.up
      (λ c. subst (λ (st : NodeState E). IsParts due (with_node (unrecovered c w) h (record { up = false; known = st.known; journal = st.journal ++ record { entry = e; epoch = x.duty.epoch } ∷ [] }))) (own_is due w s c h g.up)
      (write_as due (unrecovered c w) (s.unrecovered_parts c) false e (to_own due w s (λ st. length st.journal ≡ length x.booked) c h g.up g.free) g.next))

  pub store_fails : (m : Shipment E) → In w.base.messages (Ships m) → w.register_up ≡ true → CanStore w.base m → IsKept due (write_failed w (other m.sender) (journal_after (node_at w.base.nodes (other m.sender)).journal (answer (node_at w.base.nodes (other m.sender)).journal (told_by m))))
  store_fails m i reg g =
      let r = other m.sender in
      write_failed_kept r (journal_after (node_at w.base.nodes (other m.sender)).journal (answer (node_at w.base.nodes (other m.sender)).journal (told_by m))) reg g.up
      (λ c. subst (λ (st : NodeState E). IsParts due (with_node (unrecovered c w) (other m.sender) (record { up = false; known = st.known; journal = journal_after st.journal (answer st.journal (told_by m)) }))) (own_is due w s c (other m.sender) g.up)
      (moved_as due (unrecovered c w) (s.unrecovered_parts c) false m i (to_own due w s (λ st. st.known ≤ m.epoch) c (other m.sender) g.up g.not_stale)))

  -- the register fails in a change of duty
  register_failed_kept : (d : Duty) → failed_write_at w.failed_writes d.holder ≡ None → ((c : Choice) → IsParts due (recovered (with_duty (unrecovered c w) d))) → IsKept due (register_failed w d)
  register_failed_kept d sure after =
      record {
        one_journal = s.one_journal;
        one_duty = λ e. absurd (not_up e);
        unrecovered_parts = s.unrecovered_parts;
        recovered_parts = λ c d' e. subst (λ z. IsParts due (recovered (with_duty (unrecovered c w) z))) (some_is d d' e) (after c);
        sure_taker = λ d' e. subst (λ (z : Duty). failed_write_at w.failed_writes z.holder ≡ None) (some_is d d' e) sure;
      }

  -- the duty that a failed take wrote, once recovered, is the take
  pub take_is : (n : NodeName) (c : Choice) → is_up w.base n → w.base.duty.mode ≡ Both → duty_changed (unrecovered c w) n Alone (node_at (unrecovered c w).nodes n).journal ≡ recovered (with_duty (unrecovered c w) (new_duty w.base n Alone (length (node_at w.base.nodes n).journal)))
  take_is n c up both =
      recover_new (unrecovered c w) n Alone (node_at (unrecovered c w).nodes n).journal (length (node_at (unrecovered c w).nodes n).journal) (longest (node_at (unrecovered c w).nodes n).journal w.base.booked (both_begin due (unrecovered c w) (s.unrecovered_parts c) both n)) refl
      ∙ ap (λ (st : NodeState E). recovered (with_duty (unrecovered c w) (new_duty w.base n Alone (length st.journal)))) (own_is due w s c n up)

  pub same_duty_is : (mode : Mode) (c : Choice) → duty_changed (unrecovered c w) w.base.duty.holder mode w.base.booked ≡ recovered (with_duty (unrecovered c w) (new_duty w.base w.base.duty.holder mode (length w.base.booked)))
  same_duty_is mode c =
      let h = w.base.duty.holder in
      recover_new (unrecovered c w) h mode w.base.booked (length w.base.booked) (no_longer (node_at (unrecovered c w).nodes h).journal w.base.booked (length w.base.booked) refl) refl

  pub take_fails : (bounds : Bounds) (n : NodeName) → CanLeavePair bounds w.base n → IsKept due (register_failed w (new_duty w.base n Alone (length (node_at w.base.nodes n).journal)))
  take_fails bounds n g =
      register_failed_kept (new_duty w.base n Alone (length (node_at w.base.nodes n).journal)) (s.one_journal n g.up)
      (λ c. subst (IsParts due) (take_is n c g.up g.both) (take_sound due (unrecovered c w) (s.unrecovered_parts c) n g.both))

  pub alone_fails : (bounds : Bounds) → CanLeavePair bounds w.base w.base.duty.holder → IsKept due (register_failed w (new_duty w.base w.base.duty.holder Alone (length w.base.booked)))
  alone_fails bounds g =
      register_failed_kept (new_duty w.base w.base.duty.holder Alone (length w.base.booked)) (s.one_journal w.base.duty.holder g.up)
      (λ c. subst (IsParts due) (same_duty_is Alone c) (alone_sound due (unrecovered c w) (s.unrecovered_parts c) g.both))

  pub pair_fails : (bounds : Bounds) → CanPair bounds w.base → IsKept due (register_failed w (new_duty w.base w.base.duty.holder Both (length w.base.booked)))
  pair_fails bounds g =
      let h = w.base.duty.holder in
      register_failed_kept (new_duty w.base h Both (length w.base.booked)) (s.one_journal h g.up)
      (λ c. subst (IsParts due) (same_duty_is Both c)
      (pair_sound due (unrecovered c w) (s.unrecovered_parts c) (to_own due w s (λ st. length st.journal ≡ length w.base.booked) c h g.up g.free) g.in_step))

  -- a node starts, with one of its lists
  abbrev set_choice : Choice → NodeName → Bool → Choice
  set_choice c A b = record { a = b; b = c.b; duty = c.duty }
  set_choice c B b = record { a = c.a; b = b; duty = c.duty }

  started_is : (n : NodeName) (b : Bool) (c : Choice) → unrecovered c (started w n b) ≡ with_node (unrecovered (set_choice c n b) w) n (record (node_at (unrecovered (set_choice c n b) w).nodes n) { up = true; known = w.base.duty.epoch })
  started_is A b c = refl
  started_is B b c = refl

  pub start_kept : (n : NodeName) (b : Bool) → w.register_up ≡ true → IsKept due (started w n b)
  start_kept n b reg =
      record {
        one_journal = sure_failed w.failed_writes w.base.nodes n None (record (picked_node (failed_write_at w.failed_writes n) b (node_at w.base.nodes n)) { up = true; known = w.base.duty.epoch }) s.one_journal (λ e. refl);
        one_duty = s.one_duty;
        unrecovered_parts = λ c. subst (IsParts due) (sym (started_is n b c)) (start_sound due (unrecovered (set_choice c n b) w) (s.unrecovered_parts (set_choice c n b)) n);
        recovered_parts = λ c d e. absurd (none_failed reg d e);
        sure_taker = λ d e. absurd (none_failed reg d e);
      }

  -- the register is read
  recovered_is : (c : Choice) → with_nodes (recovered w.base) (picked_nodes c w.failed_writes (recovered w.base).nodes) ≡ recovered (unrecovered c w)
  recovered_is c =
      let x = w.base in
      let none : nat_lt (length w.base.booked) w.base.duty.floor ≡ false = (let f = (s.unrecovered_parts c).floor in grind (arith, nat_tests)) in
      let same : cond (nat_lt (length w.base.booked) w.base.duty.floor) (take w.base.duty.floor (holder_journal w.base)) w.base.booked ≡ cond (nat_lt (length w.base.booked) w.base.duty.floor) (take w.base.duty.floor (holder_journal (unrecovered c w))) w.base.booked
      = ap (λ b. cond b (take w.base.duty.floor (holder_journal w.base)) w.base.booked) none ∙ sym (ap (λ b. cond b (take w.base.duty.floor (holder_journal (unrecovered c w))) w.base.booked) none) in
      ap (λ ns. with_nodes (recovered w.base) ns) (picked_change c w.failed_writes w.base.nodes w.base.duty.holder (own w.base).up w.base.duty.epoch)
      ∙ ap (λ u. with_nodes (recovered w.base) (put_node (picked_nodes c w.failed_writes w.base.nodes) w.base.duty.holder (record { up = u; known = w.base.duty.epoch; journal = (node_at (picked_nodes c w.failed_writes w.base.nodes) w.base.duty.holder).journal }))) (sym (up_is due w s c w.base.duty.holder))
      ∙ ap (λ l. record (recovered (unrecovered c w)) { booked = l }) same

  changed_is : (c : Choice) (d : Duty) → failed_write_at w.failed_writes d.holder ≡ None → with_nodes (recovered (with_duty w.base d)) (picked_nodes c w.failed_writes (recovered (with_duty w.base d)).nodes) ≡ recovered (with_duty (unrecovered c w) d)
  changed_is c d e =
      ap (λ ns. with_nodes (recovered (with_duty w.base d)) ns) (picked_change c w.failed_writes w.base.nodes d.holder (node_at w.base.nodes d.holder).up d.epoch)
      ∙ ap (λ u. with_nodes (recovered (with_duty w.base d)) (put_node (picked_nodes c w.failed_writes w.base.nodes) d.holder (record { up = u; known = d.epoch; journal = (node_at (picked_nodes c w.failed_writes w.base.nodes) d.holder).journal }))) (sym (up_is due w s c d.holder))
      ∙ ap (λ (st : NodeState E). record (recovered (with_duty (unrecovered c w) d)) { booked = cond (nat_lt (length w.base.booked) d.floor) (take d.floor st.journal) w.base.booked }) (sym (at_picked c w.failed_writes w.base.nodes d.holder e))

  register_up_again : (u : Resolved E) → ((n : NodeName) → is_up u n → failed_write_at w.failed_writes n ≡ None) → ((c : Choice) → IsParts due (at_choice due w s c u)) → IsKept due (record w { base = u; register_up = true; failed_duty = None })
  register_up_again u sure plain =
      record {
        one_journal = sure;
        one_duty = λ e. refl;
        unrecovered_parts = plain;
        recovered_parts = λ c d e. absurd (none_some d e);
        sure_taker = λ d e. absurd (none_some d e);
      }

  pub register_started_kept : (b : Bool) → IsKept due (register_started w b)
  register_started_kept b = by_duty w.failed_duty refl b
    where
      plain : IsKept due (record w { base = recovered w.base; register_up = true; failed_duty = None })
      plain =
          register_up_again (recovered w.base) (sure_put w.failed_writes w.base.nodes w.base.duty.holder (record (own w.base) { known = w.base.duty.epoch }) s.one_journal (s.one_journal w.base.duty.holder))
          (λ c. subst (IsParts due) (sym (recovered_is c)) (recover_sound due (unrecovered c w) (s.unrecovered_parts c)))

      by_duty : (o : Option Duty) → w.failed_duty ≡ o → (b : Bool) → IsKept due (record w { base = recovered (with_failed_duty o b w.base); register_up = true; failed_duty = None })
      by_duty None e b = plain
      by_duty (Some d) e false = plain
      by_duty (Some d) e true =
          register_up_again (recovered (with_duty w.base d)) (sure_put w.failed_writes w.base.nodes d.holder (record (node_at w.base.nodes d.holder) { known = d.epoch }) s.one_journal (s.one_journal d.holder))
          (λ c. subst (IsParts due) (sym (changed_is c d (s.sure_taker d e))) (s.recovered_parts c d e))
