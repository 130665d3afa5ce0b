-- Each event keeps a sound world sound.
use Rattle.std.proofs.Common.{◌≡◌, ℕ, zero, suc, ◌<◌, ◌≤◌, inl, inr, Bool, true, false, cond, nat_lt, List, [], ◌∷◌, length, take, refl, ap, sym, ◌∙◌, subst, arith}
use Rattle.std.specs.Prelude.{min, max}
use Rattle.std.proofs.lemmas.List.{take_all}
use Rattle.std.proofs.lemmas.Bool.Decides.{nat_tests}
use Rattle.ali_base.specs.declared.names.NodeName.{NodeName}
use Rattle.ali_base.specs.declared.names.NodeName.TheVariants.{A, B}
use Rattle.ali_base.specs.declared.duty.Mode.{Mode}
use Rattle.ali_base.specs.declared.duty.Mode.TheVariants.{Both, Alone}
use Rattle.ali_base.specs.declared.duty.Duty.{Duty}
use Rattle.pair_world.specs.Frames.{Frame, entries, item_at, epoch_at, Begins, Shares, In, without}
use Rattle.pair_world.specs.World.{told_by, other, is_node, Shipment, Message, Ships, Acks, NodeState, Nodes, node_at, put_node, Resolved, term_from, own, holder_journal, other_journal, known, with_node, recovered, booked_at_start, opened, formatted}
use Rattle.pair_world.specs.Deliveries.{answer, journal_after, ack_end}
use Rattle.pair_world.specs.Changes.{with_ack}
use Rattle.pair_world.specs.Changes.{journal_written, written, shipment, shipped, delivered, booked_next, duty_changed, stopped, epoch_heard}
use Rattle.pair_world.specs.Step.{Event, Write, Ship, Deliver, Drop, Book, Take, Go_alone, Pair_up, Stop, Start, Start_duty, Ask, Bounds, nothing_pending, CanDeliver, ResolvedStep}
use Rattle.pair_world.specs.SoundWorld.{Named}
use Rattle.pair_world.proofs.Parts.{BookedParts, StepsBoth, InStep, Parts, IsParts}
use Rattle.pair_world.proofs.Lists.{Shares-less, Shares-none, Begins-length, Shares-Begins, Begins-refl, Begins-trans}
use Rattle.pair_world.proofs.Items.{on_item, in_item, In-without}
use Rattle.pair_world.proofs.Terms.{either}
use Rattle.pair_world.proofs.Moves.{keeps_known, keeps_lost, keeps_heard, keeps_shipped, keeps_written, keeps_history}
use Rattle.pair_world.proofs.DutyMoves.{keeps_same_holder, keeps_taken}
use Rattle.pair_world.proofs.DeliveryMoves.{keeps_answer, answer_ack, shipment_fits, keeps_told, keeps_acked}
use Rattle.pair_world.proofs.Items.{not_there}

-- a node's state is put in its place
module _ {E : Type 0} where
  known_grows : (ns : Nodes E) (n m : NodeName) (s : NodeState E) → (node_at ns n).known ≤ s.known → (node_at ns m).known ≤ (node_at (put_node ns n s) m).known
  known_grows ns A A s h = h
  known_grows ns A B s h = omega arith
  known_grows ns B A s h = omega arith
  known_grows ns B B s h = h

  known_top : (ns : Nodes E) (n m : NodeName) (s : NodeState E) (top : ℕ) → s.known ≤ top → ((m : NodeName) → (node_at ns m).known ≤ top) → (node_at (put_node ns n s) m).known ≤ top
  known_top ns A A s top h k = h
  known_top ns A B s top h k = k B
  known_top ns B A s top h k = k A
  known_top ns B B s top h k = h

  known_put : (ns : Nodes E) (n : NodeName) (s : NodeState E) → (node_at (put_node ns n s) n).known ≡ s.known
  known_put ns A s = refl
  known_put ns B s = refl

module _ {E : Type 0} {due : List E → E → Type 0} {d : Duty} {ds : List Duty} {h : List (Frame E)} {known_by : NodeName → ℕ} {ms : List (Message E)} {reached ended : ℕ} where
  put_own : (ns : Nodes E) (n : NodeName) (s : NodeState E) → Parts due d ds h s.journal (node_at ns (other n)).journal known_by ms reached ended → Parts due d ds h (node_at (put_node ns n s) n).journal (node_at (put_node ns n s) (other n)).journal known_by ms reached ended
  put_own ns A s p = p
  put_own ns B s p = p

  put_others : (ns : Nodes E) (n : NodeName) (s : NodeState E) → Parts due d ds h (node_at ns n).journal s.journal known_by ms reached ended → Parts due d ds h (node_at (put_node ns (other n) s) n).journal (node_at (put_node ns (other n) s) (other n)).journal known_by ms reached ended
  put_others ns A s p = p
  put_others ns B s p = p

  put_same : (ns : Nodes E) (n m : NodeName) (up : Bool) (k : ℕ) → Parts due d ds h (node_at ns m).journal (node_at ns (other m)).journal known_by ms reached ended → Parts due d ds h (node_at (put_node ns n (record { up = up; known = k; journal = (node_at ns n).journal })) m).journal (node_at (put_node ns n (record { up = up; known = k; journal = (node_at ns n).journal })) (other m)).journal known_by ms reached ended
  put_same ns A A up k p = p
  put_same ns A B up k p = p
  put_same ns B A up k p = p
  put_same ns B B up k p = p

module _ {E : Type 0} (due : List E → E → Type 0) (w : Resolved E) (sound : IsParts due w) where
  put_known : (n : NodeName) (s : NodeState E) → (node_at w.nodes n).known ≤ s.known → s.known ≤ w.duty.epoch → Parts due w.duty w.past w.booked (holder_journal w) (other_journal w) (known (with_node w n s)) w.messages w.acked w.ended
  put_known n s up top = keeps_known sound (known (with_node w n s)) (λ m. known_grows w.nodes n m s up) (λ m. known_top w.nodes n m s w.duty.epoch top sound.known.none_later)

  -- with nothing pending the holder's journal is the history
  pub own_is_booked : nothing_pending w → holder_journal w ≡ w.booked
  own_is_booked none =
      let whole = take_all (length (holder_journal w)) (holder_journal w) (omega arith) in
      sym whole ∙ ap (λ k. take k (holder_journal w)) none ∙ sound.booked.begins.front

  own_due : (e : E) → nothing_pending w → due (entries w.booked) e → due (entries (holder_journal w)) e
  own_due e none next = subst (λ z. due (entries z) e) (sym (own_is_booked none)) next

  pub write_sound : (e : E) → nothing_pending w → due (entries w.booked) e → IsParts due (written w e)
  write_sound e none next =
      let s : NodeState E = record (own w) { journal = journal_written w e } in
      let q = put_known w.duty.holder s (omega arith) (sound.known.none_later w.duty.holder) in
      put_own w.nodes w.duty.holder s (keeps_written q (record { entry = e; epoch = w.duty.epoch }) refl none (own_due e none next))

  pub ship_sound : (k : ℕ) → 0 < k → k ≤ suc (length (holder_journal w)) → IsParts due (shipped w k)
  ship_sound k low fits = keeps_shipped sound (shipment w k) refl refl (omega arith) refl refl

  pub drop_sound : (i : ℕ) → IsParts due (record w { messages = without w.messages i })
  drop_sound i = keeps_lost sound (without w.messages i) (λ m k. In-without w.messages i k.0 m k.1)

  pub book_sound : length w.booked < length (holder_journal w) → (w.duty.mode ≡ Both → length w.booked < w.acked) → IsParts due (booked_next w)
  book_sound one_more stored =
      let whole : take (suc (length w.booked)) (holder_journal w) ≡ holder_journal w = take_all (suc (length w.booked)) (holder_journal w) sound.booked.one_more in
      subst (λ z. Parts due w.duty w.past z (holder_journal w) (other_journal w) (known w) w.messages w.acked w.ended) (sym whole)
      (keeps_history sound (holder_journal w) (Begins-refl (holder_journal w)) (omega arith) (omega arith) (λ both. all (stored both)))
    where
      all : length w.booked < w.acked → Begins (other_journal w) (holder_journal w)
      all h =
          let s = Shares-less sound.acks.acked h in
          let len : suc (length w.booked) ≡ length (holder_journal w) = omega (arith, sound.booked.one_more) in
          Shares-Begins (record { left = s.right; right = s.left; front = sym s.front }) len

  -- the same where the node's state is put down at once, as a write_failed write may leave it
  pub write_as : (u : Bool) (e : E) → nothing_pending w → due (entries w.booked) e → IsParts due (with_node w w.duty.holder (record { up = u; known = (own w).known; journal = journal_written w e }))
  write_as u e none next =
      let s : NodeState E = record { up = u; known = (own w).known; journal = journal_written w e } in
      let q = put_known w.duty.holder s (omega arith) (sound.known.none_later w.duty.holder) in
      put_own w.nodes w.duty.holder s (keeps_written q (record { entry = e; epoch = w.duty.epoch }) refl none (own_due e none next))

  pub moved_as : (u : Bool) (x : Shipment E) → In w.messages (Ships x) → known w (other x.sender) ≤ x.epoch → IsParts due (with_node w (other x.sender) (record { up = u; known = known w (other x.sender); journal = journal_after (node_at w.nodes (other x.sender)).journal (answer (node_at w.nodes (other x.sender)).journal (told_by x)) }))
  moved_as u x i later =
      let o = sound.ships x i later in
      subst (λ r. IsParts due (with_node w r (record { up = u; known = known w r; journal = journal_after (node_at w.nodes r).journal (answer (node_at w.nodes r).journal (told_by x)) }))) (sym (ap other o.sender))
      (let s : NodeState E = record { up = u; known = known w (other w.duty.holder); journal = journal_after (other_journal w) (answer (other_journal w) (told_by x)) } in
      let fits = shipment_fits sound x i later in
      let q = put_known (other w.duty.holder) s (omega arith) (sound.known.none_later (other w.duty.holder)) in
      put_others w.nodes w.duty.holder s (keeps_answer q x (answer (other_journal w) (told_by x)) fits))

  pub down_sound : (n : NodeName) → IsParts due (with_node w n (record (node_at w.nodes n) { up = false }))
  down_sound n =
      let s : NodeState E = record (node_at w.nodes n) { up = false } in
      put_same w.nodes n w.duty.holder false (node_at w.nodes n).known (put_known n s (omega arith) (sound.known.none_later n))

  -- a node learns of the epoch of a shipment
  pub learn_sound : (x : Shipment E) → In w.messages (Ships x) → IsParts due (epoch_heard w x)
  learn_sound x i =
      let n = other x.sender in
      let s : NodeState E = record (node_at w.nodes n) { known = max (known w n) x.epoch } in
      let top = sound.time.ships x i in
      let k = sound.known.none_later n in
      put_same w.nodes n w.duty.holder (node_at w.nodes n).up (max (known w n) x.epoch) (put_known n s (omega arith) (omega arith))

  pub own_top : (n : NodeName) → (node_at w.nodes n).known ≤ w.duty.epoch
  own_top n = sound.known.none_later n

  pub deliver_sound : (m : Message E) → In w.messages m → CanDeliver w m → IsParts due (delivered w m)
  deliver_sound (Acks a) i taken = keeps_acked sound a i taken.not_stale
  deliver_sound (Ships x) i taken =
      let o = sound.ships x i taken.not_stale in
      subst (λ r. IsParts due (record w {
        nodes = put_node w.nodes r (record (node_at w.nodes r) { known = max (node_at w.nodes r).known x.epoch; journal = journal_after (node_at w.nodes r).journal (answer (node_at w.nodes r).journal (told_by x)) });
        messages = with_ack x (ack_end (answer (node_at w.nodes r).journal (told_by x))) w.messages;
      })) (sym (ap other o.sender)) to_other
    where
      to : NodeName
      to = other w.duty.holder

      to_other : IsParts due (record w {
        nodes = put_node w.nodes (other w.duty.holder) (record (node_at w.nodes (other w.duty.holder)) { known = max (node_at w.nodes (other w.duty.holder)).known x.epoch; journal = journal_after (node_at w.nodes (other w.duty.holder)).journal (answer (node_at w.nodes (other w.duty.holder)).journal (told_by x)) });
        messages = with_ack x (ack_end (answer (node_at w.nodes (other w.duty.holder)).journal (told_by x))) w.messages;
      })
      to_other =
          let s : NodeState E = record (node_at w.nodes (other w.duty.holder)) { known = max (node_at w.nodes (other w.duty.holder)).known x.epoch; journal = journal_after (other_journal w) (answer (other_journal w) (told_by x)) } in
          let fits = shipment_fits sound x i taken.not_stale in
          let top = sound.time.ships x i in
          let q = put_known (other w.duty.holder) s (omega arith) (let k = own_top (other w.duty.holder) in omega arith) in
          put_others w.nodes w.duty.holder s
          (keeps_told (keeps_answer q x (answer (other_journal w) (told_by x)) fits) x top (ack_end (answer (other_journal w) (told_by x))) (answer_ack q x (answer (other_journal w) (told_by x)) fits))

  pub steps_both : w.duty.mode ≡ Both → StepsBoth w.duty.epoch w.booked (holder_journal w) (other_journal w)
  steps_both both = subst (λ m. InStep m w.duty.epoch (term_from w.duty w.past) w.booked (holder_journal w) (other_journal w)) both sound.step

  -- a new duty of the same holder
  pub same_holder : (mode : Mode) (h' : List (Frame E)) → BookedParts due h' (holder_journal w) → length w.booked ≤ length h' → InStep mode (suc w.duty.epoch) (term_from w.duty w.past) h' (holder_journal w) (other_journal w) → IsParts due (duty_changed w w.duty.holder mode h')
  same_holder mode h' booked longer step =
      let n = w.duty.holder in
      let s : NodeState E = record (node_at w.nodes n) { known = suc w.duty.epoch } in
      let f = sound.floor in
      let k = own_top n in
      put_same w.nodes n n (node_at w.nodes n).up (suc w.duty.epoch)
      (keeps_same_holder sound (duty_changed w n mode h').duty h' (known (duty_changed w n mode h')) refl refl (omega arith) (omega arith) booked step
      (λ m. known_grows w.nodes n m s (omega arith))
      (λ m. known_top w.nodes n m s (suc w.duty.epoch) (omega arith) (λ m. let t = own_top m in omega arith))
      (known_put w.nodes n s))

  other_other : (n : NodeName) → other (other n) ≡ n
  other_other A = refl
  other_other B = refl

  pub take_other : w.duty.mode ≡ Both → IsParts due (duty_changed w (other w.duty.holder) Alone (other_journal w))
  take_other both =
      let n = other w.duty.holder in
      let s : NodeState E = record (node_at w.nodes n) { known = suc w.duty.epoch } in
      let b = steps_both both in
      let long = Begins-length b.holds in
      let f = sound.floor in
      let k = own_top n in
      put_same w.nodes n n (node_at w.nodes n).up (suc w.duty.epoch)
      (subst (λ z. Parts due (duty_changed w n Alone (other_journal w)).duty (w.duty ∷ w.past) (other_journal w) (other_journal w) (node_at w.nodes z).journal (known (duty_changed w n Alone (other_journal w))) w.messages 0 0) (sym (other_other w.duty.holder))
      (keeps_taken sound (duty_changed w n Alone (other_journal w)).duty (known (duty_changed w n Alone (other_journal w))) both refl refl refl (omega arith) (omega arith)
      (λ m. known_grows w.nodes n m s (omega arith))
      (λ m. known_top w.nodes n m s (suc w.duty.epoch) (omega arith) (λ m. let t = own_top m in omega arith))
      (known_put w.nodes n s)))

  pub take_sound : (n : NodeName) → w.duty.mode ≡ Both → IsParts due (duty_changed w n Alone (node_at w.nodes n).journal)
  take_sound n both = elim (either n w.duty.holder) [
    | inl own ↦ subst (λ z. IsParts due (duty_changed w z Alone (node_at w.nodes z).journal)) (sym own)
        (same_holder Alone (holder_journal w) (record { legal = sound.booked.legal; begins = Begins-refl (holder_journal w); one_more = omega arith }) (Begins-length sound.booked.begins) (inl (steps_both both).begins))
    | inr far ↦ subst (λ z. IsParts due (duty_changed w z Alone (node_at w.nodes z).journal)) (sym far) (take_other both)
  ]

  pub alone_sound : w.duty.mode ≡ Both → IsParts due (duty_changed w w.duty.holder Alone w.booked)
  alone_sound both = same_holder Alone w.booked sound.booked (omega arith) (inl (steps_both both).begins)

  pub pair_sound : nothing_pending w → length w.booked < w.ended → IsParts due (duty_changed w w.duty.holder Both w.booked)
  pair_sound none reached = by_end w.ended refl reached
    where
      by_end : (n : ℕ) → w.ended ≡ n → length w.booked < n → IsParts due (duty_changed w w.duty.holder Both w.booked)
      by_end zero is r = absurd (omega arith)
      by_end (suc k) is r =
          let e = sound.acks.ended k is in
          let all : Shares (length (holder_journal w)) (holder_journal w) (other_journal w) = Shares-less e.shares (omega arith) in
          let back : Begins (other_journal w) (holder_journal w) = Shares-Begins (record { left = all.right; right = all.left; front = sym all.front }) refl in
          same_holder Both w.booked sound.booked (omega arith)
          (record { holds = Begins-trans back sound.booked.begins; begins = e.begins; fresh = λ k far within. absurd (omega arith) })

  pub stop_sound : (n : NodeName) → IsParts due (stopped w n)
  stop_sound n =
      let s : NodeState E = record (node_at w.nodes n) { up = false } in
      put_same w.nodes n w.duty.holder false (node_at w.nodes n).known (numbers (is_node n w.duty.holder) (put_known n s (omega arith) (own_top n)))
    where
      numbers : {k : NodeName → ℕ} (b : Bool) → Parts due w.duty w.past w.booked (holder_journal w) (other_journal w) k w.messages w.acked w.ended → Parts due w.duty w.past w.booked (holder_journal w) (other_journal w) k w.messages (cond b 0 w.acked) (cond b 0 w.ended)
      numbers true q = keeps_heard q 0 0 (Shares-none (holder_journal w) (other_journal w)) (λ k is. absurd (omega arith))
      numbers false q = q

  pub start_sound : (n : NodeName) → IsParts due (with_node w n (record (node_at w.nodes n) { up = true; known = w.duty.epoch }))
  start_sound n =
      let s : NodeState E = record (node_at w.nodes n) { up = true; known = w.duty.epoch } in
      put_same w.nodes n w.duty.holder true w.duty.epoch (put_known n s (own_top n) (omega arith))

  pub recover_sound : IsParts due (recovered w)
  recover_sound =
      let n = w.duty.holder in
      let s : NodeState E = record (node_at w.nodes n) { known = w.duty.epoch } in
      let none : nat_lt (length w.booked) w.duty.floor ≡ false = (let f = sound.floor in grind (arith, nat_tests)) in
      subst (λ b. IsParts due (record (recovered w) { booked = cond b (take w.duty.floor (holder_journal w)) w.booked })) (sym none)
      (put_same w.nodes n n (node_at w.nodes n).up w.duty.epoch (keeps_heard (put_known n s (own_top n) (omega arith)) 0 0 (Shares-none (holder_journal w) (other_journal w)) (λ k is. absurd (omega arith))))

  open_at : (n : NodeName) (k : ℕ) (ns : Nodes E) (m : Mode) (kn : NodeName → ℕ) → Parts due w.duty w.past (booked_at_start m (node_at ns n).journal (node_at ns (other n)).journal) (node_at ns n).journal (node_at ns (other n)).journal kn [] 0 0
      → Parts due w.duty w.past (booked_at_start m (node_at (record { a = record { up = true; known = k; journal = ns.a.journal }; b = record { up = true; known = k; journal = ns.b.journal } }) n).journal (node_at (record { a = record { up = true; known = k; journal = ns.a.journal }; b = record { up = true; known = k; journal = ns.b.journal } }) (other n)).journal) (node_at (record { a = record { up = true; known = k; journal = ns.a.journal }; b = record { up = true; known = k; journal = ns.b.journal } }) n).journal (node_at (record { a = record { up = true; known = k; journal = ns.a.journal }; b = record { up = true; known = k; journal = ns.b.journal } }) (other n)).journal kn [] 0 0
  open_at A k ns m kn p = p
  open_at B k ns m kn p = p

  -- in Both the list cut to the lesser length is the other's
  open_both : w.duty.mode ≡ Both → take (min (length (holder_journal w)) (length (other_journal w))) (holder_journal w) ≡ other_journal w
  open_both is =
      let b = steps_both is in
      let len = Begins-length b.begins in
      let less : min (length (holder_journal w)) (length (other_journal w)) ≡ length (other_journal w) = omega arith in
      ap (λ n. take n (holder_journal w)) less ∙ b.begins.front

  booked_open : (m : Mode) → w.duty.mode ≡ m → Parts due w.duty w.past (booked_at_start m (holder_journal w) (other_journal w)) (holder_journal w) (other_journal w) (known w) [] 0 0
  booked_open m is =
      let q = keeps_heard (keeps_lost sound [] (λ m i. absurd (cc (i.1)))) 0 0 (Shares-none (holder_journal w) (other_journal w)) (λ k is. absurd (omega arith)) in
      by_mode m is q
    where
      by_mode : (m : Mode) → w.duty.mode ≡ m → Parts due w.duty w.past w.booked (holder_journal w) (other_journal w) (known w) [] 0 0 → Parts due w.duty w.past (booked_at_start m (holder_journal w) (other_journal w)) (holder_journal w) (other_journal w) (known w) [] 0 0
      by_mode Alone is q = keeps_history q (holder_journal w) (Begins-refl (holder_journal w)) (Begins-length sound.booked.begins) (omega arith) (λ both. absurd (let e = sym is ∙ both in cc))
      by_mode Both is q =
          let b = steps_both is in
          let long = Begins-length b.holds in
          let f = sound.booked.one_more in
          subst (λ z. Parts due w.duty w.past z (holder_journal w) (other_journal w) (known w) [] 0 0) (sym (open_both is))
          (keeps_history q (other_journal w) b.begins long (omega arith) (λ both. Begins-refl (other_journal w)))

  pub halt_sound : IsParts due (opened w.duty w.past w.nodes.a.journal w.nodes.b.journal)
  halt_sound =
      open_at w.duty.holder w.duty.epoch w.nodes w.duty.mode (known (opened w.duty w.past w.nodes.a.journal w.nodes.b.journal))
      (keeps_known (booked_open w.duty.mode refl) (known (opened w.duty w.past w.nodes.a.journal w.nodes.b.journal)) (λ n. grows n) (λ n. below n))
    where
      grows : (n : NodeName) → known w n ≤ known (opened w.duty w.past w.nodes.a.journal w.nodes.b.journal) n
      grows A = own_top A
      grows B = own_top B

      below : (n : NodeName) → known (opened w.duty w.past w.nodes.a.journal w.nodes.b.journal) n ≤ w.duty.epoch
      below A = omega arith
      below B = omega arith

  -- in Both each journal begins with the booked history
  pub both_begin : w.duty.mode ≡ Both → (n : NodeName) → Begins (node_at w.nodes n).journal w.booked
  both_begin both n = elim (either n w.duty.holder) [
    | inl own ↦ subst (λ z. Begins (node_at w.nodes z).journal w.booked) (sym own) sound.booked.begins
    | inr far ↦ subst (λ z. Begins (node_at w.nodes z).journal w.booked) (sym far) (steps_both both).holds
  ]

  -- an acknowledgement or a shipment leaves the history
  pub delivered_booked : (m : Message E) → (delivered w m).booked ≡ w.booked
  delivered_booked (Ships x) = refl
  delivered_booked (Acks a) = refl

  pub book_begins : Begins (booked_next w).booked w.booked
  book_begins = subst (λ z. Begins z w.booked) (sym (take_all (suc (length w.booked)) (holder_journal w) sound.booked.one_more)) sound.booked.begins

  pub recovered_booked : (recovered w).booked ≡ w.booked
  recovered_booked =
      let none : nat_lt (length w.booked) w.duty.floor ≡ false = (let f = sound.floor in grind (arith, nat_tests)) in
      ap (λ b. cond b (take w.duty.floor (holder_journal w)) w.booked) none

  -- the history at an opening begins with the one before
  pub open_begins : Begins (opened w.duty w.past w.nodes.a.journal w.nodes.b.journal).booked w.booked
  open_begins = at_node w.duty.holder w.duty.epoch w.nodes w.duty.mode (by_mode w.duty.mode refl)
    where
      at_node : (n : NodeName) (k : ℕ) (ns : Nodes E) (m : Mode) → Begins (booked_at_start m (node_at ns n).journal (node_at ns (other n)).journal) w.booked
          → Begins (booked_at_start m (node_at (record { a = record { up = true; known = k; journal = ns.a.journal }; b = record { up = true; known = k; journal = ns.b.journal } }) n).journal (node_at (record { a = record { up = true; known = k; journal = ns.a.journal }; b = record { up = true; known = k; journal = ns.b.journal } }) (other n)).journal) w.booked
      at_node A k ns m b = b
      at_node B k ns m b = b

      by_mode : (m : Mode) → w.duty.mode ≡ m → Begins (booked_at_start m (holder_journal w) (other_journal w)) w.booked
      by_mode Alone is = sound.booked.begins
      by_mode Both is = subst (λ z. Begins z w.booked) (sym (open_both is)) (steps_both is).holds

  -- where the end of the whole journal is acknowledged, the other's journal is the holder's
  pub caught_up : length (holder_journal w) < w.ended → other_journal w ≡ holder_journal w
  caught_up far = by_end w.ended refl far
    where
      by_end : (n : ℕ) → w.ended ≡ n → length (holder_journal w) < n → other_journal w ≡ holder_journal w
      by_end zero is far = absurd (omega arith)
      by_end (suc k) is far =
          let e = sound.acks.ended k is in
          let long = Begins-length e.begins in
          let len : length (other_journal w) ≡ length (holder_journal w) = omega (arith, e.shares.right) in
          sym e.begins.front ∙ take_all (length (other_journal w)) (holder_journal w) (omega arith)

  -- where a pair is made both journals are the history
  pub pair_equal : nothing_pending w → length w.booked < w.ended → (holder_journal w ≡ w.booked) × (other_journal w ≡ w.booked)
  pair_equal none far = (own_is_booked none, caught_up (omega arith) ∙ own_is_booked none)

as_it_was : {E : Type 0} (w v u : Resolved E) → v ≡ u → u.booked ≡ w.booked → Begins v.booked w.booked
as_it_was w v u e same = subst (λ z. Begins z w.booked) (sym (ap (λ (z : Resolved _). z.booked) e ∙ same)) (Begins-refl w.booked)

module _ {E Q : Type 0} (due : List E → E → Type 0) (bounds : Bounds) (w : Resolved E) (sound : IsParts due w) where
  -- the booked history only grows
  pub grows : (e : Event E Q) (v : Resolved E) → ResolvedStep due bounds w e v → Begins v.booked w.booked
  grows (Write e) v g = as_it_was w v (written w e) g.1 refl
  grows (Ship k) v g = as_it_was w v (shipped w k) g.1 refl
  grows (Deliver i) v g = let m = on_item (item_at w.messages i) _ g in as_it_was w v (delivered w m.0) m.2.1 (delivered_booked due w sound m.0)
  grows (Drop i) v g = as_it_was w v (record w { messages = without w.messages i }) g.2 refl
  grows Book v g = subst (λ (z : Resolved E). Begins z.booked w.booked) (sym g.1) (book_begins due w sound)
  grows (Take n) v g = subst (λ (z : Resolved E). Begins z.booked w.booked) (sym g.1) (both_begin due w sound g.0.both n)
  grows Go_alone v g = as_it_was w v (duty_changed w w.duty.holder Alone w.booked) g.1 refl
  grows Pair_up v g = as_it_was w v (duty_changed w w.duty.holder Both w.booked) g.1 refl
  grows (Stop n) v g = as_it_was w v (stopped w n) g.1 refl
  grows (Start n) v g = absurd g
  grows Start_duty v g = absurd g
  grows (Ask n r since) v g = absurd g

  pub after_step : (e : Event E Q) (v : Resolved E) → ResolvedStep due bounds w e v → IsParts due v
  after_step (Write e) v g = subst (IsParts due) (sym g.1) (write_sound due w sound e g.0.free g.0.next)
  after_step (Ship k) v g = subst (IsParts due) (sym g.1) (ship_sound due w sound k g.0.from g.0.within)
  after_step (Deliver i) v g = let m = on_item (item_at w.messages i) _ g in subst (IsParts due) (sym m.2.1) (deliver_sound due w sound m.0 (in_item w.messages i m.0 m.1) m.2.0)
  after_step (Drop i) v g = subst (IsParts due) (sym g.2) (drop_sound due w sound i)
  after_step Book v g = subst (IsParts due) (sym g.1) (book_sound due w sound g.0.pending g.0.stored)
  after_step (Take n) v g = subst (IsParts due) (sym g.1) (take_sound due w sound n g.0.both)
  after_step Go_alone v g = subst (IsParts due) (sym g.1) (alone_sound due w sound g.0.both)
  after_step Pair_up v g = subst (IsParts due) (sym g.1) (pair_sound due w sound g.0.free g.0.in_step)
  after_step (Stop n) v g = subst (IsParts due) (sym g.1) (stop_sound due w sound n)
  after_step (Start n) v g = absurd g
  after_step Start_duty v g = absurd g
  after_step (Ask n r since) v g = absurd g

pub formatted_sound : {E : Type 0} (due : List E → E → Type 0) → IsParts due formatted
formatted_sound {E} due =
    record {
      booked = record { legal = λ k f is. absurd (cc); begins = record { front = refl }; one_more = omega arith };
      step = record { holds = record { front = refl }; begins = record { front = refl }; fresh = λ k far within. absurd (omega arith) };
      agree = λ k left right same. nothing k left;
      time = record {
        mine = record { never_fall = λ j k le within. falls j k le within; below = λ k within. low k within };
        others = record { never_fall = λ j k le within. falls j k le within; below = λ k within. low k within };
        ships = λ x i. absurd (not_there (Ships x) i.0 i.1);
        frames = λ x f i is. absurd (not_there (Ships x) i.0 i.1);
        acks = λ a i. absurd (not_there (Acks a) i.0 i.1);
      };
      names = λ k f g nf ng same. absurd (unnamed k f nf);
      ships = λ x i later. absurd (not_there (Ships x) i.0 i.1);
      acks = record { acks = λ a i now. absurd (not_there (Acks a) i.0 i.1); acked = Shares-none [] []; ended = λ k is. absurd (omega arith) };
      known = record { holder = refl; none_later = λ n. knows n };
      counted = refl;
      floors = tt;
      floor = omega arith;
    }
  where
    nothing : (k : ℕ) → k ≤ 0 → take {A = Frame E} k [] ≡ take k []
    nothing k h = refl

    falls : (j k : ℕ) → j ≤ k → k ≤ 0 → epoch_at {E = E} [] j ≤ epoch_at {E = E} [] k
    falls zero k le within = omega arith
    falls (suc j) k le within = absurd (omega arith)

    low : (k : ℕ) → k ≤ 0 → epoch_at {E = E} [] k ≤ 1
    low zero within = omega arith
    low (suc k) within = absurd (omega arith)

    unnamed : (k : ℕ) (f : Frame E) → Named [] [] [] k f → ⊥
    unnamed k f (inl h) = not_there f k h
    unnamed k f (inr (inl h)) = not_there f k h
    unnamed k f (inr (inr m)) = not_there (Ships m.0) m.1.0 m.1.1

    knows : (n : NodeName) → known {E = E} formatted n ≤ 1
    knows A = omega arith
    knows B = omega arith
