-- Schedules whose entries are data, computed: the world after each event, and what is asked of it.
use Rattle.std.proofs.Common.{sym, ◌≡◌, suc, ◌<◌, inl, Bool, true, false, not, ◌&&◌, ◌==◌, nat_lt, List, [], ◌∷◌, length, refl, ap, arith, Option, Some, None}
use Rattle.std.proofs.lemmas.Bool.{and_parts}
use Rattle.std.proofs.lemmas.Bool.Decides.{nat_tests}
use Rattle.ali_base.specs.Steps.{when}
use Rattle.ali_base.specs.declared.names.NodeName.{NodeName}
use Rattle.ali_base.specs.declared.names.NodeName.TheVariants.{A, B}
use Rattle.ali_base.specs.declared.duty.Mode.{Mode}
use Rattle.ali_base.specs.declared.duty.Mode.TheVariants.{Both, Alone}
use Rattle.pair_world.specs.Frames.{entries, item_at, OnItem, without}
use Rattle.pair_world.specs.World.{other, Message, Ships, Acks, node_at, Resolved, holder_journal, known, with_node, World, without_doubt}
use Rattle.pair_world.specs.Changes.{written, shipped, delivered, booked_next, duty_changed, stopped}
use Rattle.pair_world.specs.Step.{Event, Write, Ship, Deliver, Drop, Book, Take, Go_alone, Pair_up, Stop, Start, Start_duty, Ask, Outcome, Done, Answered, Refused, Faulted, Halted, CanDeliver, CanLeavePair, WorldStep, Step, Turn, Runs}
use Rattle.pair_world.specs.WorkedSchedules.{office_bounds}
use Rattle.pair_world.proofs.Items.{on_item}
use Rattle.pair_world.proofs.Items.{some_is}

when_told : {A : Type 0} (b : Bool) (x y : A) → when b x ≡ Some y → (b ≡ true) × (y ≡ x)
when_told true x y is = (refl, sym (some_is x y is))
when_told false x y is = absurd (cc)

abbrev is_both : Mode → Bool
is_both Both = true
is_both Alone = false

both_told : (m : Mode) → is_both m ≡ true → m ≡ Both
both_told Both is = refl
both_told Alone is = absurd (cc)

alone_told : (m : Mode) → is_both m ≡ false → m ≡ Alone
alone_told Alone is = refl
alone_told Both is = absurd (cc)

not_told : (b : Bool) → not b ≡ true → b ≡ false
not_told false is = refl
not_told true is = absurd (cc)

module _ {E : Type 0} where
  abbrev up_at : Resolved E → NodeName → Bool
  up_at w n = (node_at w.nodes n).up

  abbrev free_at : Resolved E → Bool
  free_at w = length (holder_journal w) == length w.booked

  abbrev delivers : Resolved E → Message E → Bool
  delivers w (Ships x) = up_at w (other x.sender) && (not (nat_lt x.epoch (known w (other x.sender))) && not (nat_lt (length (node_at w.nodes (other x.sender)).journal) x.preceding))
  delivers w (Acks ack) = up_at w ack.to && not (nat_lt ack.epoch w.duty.epoch)

  abbrev leaves : Resolved E → NodeName → Bool
  leaves w n = up_at w n && (is_both w.duty.mode && nat_lt w.duty.epoch 4194303)

  abbrev pairs : Resolved E → Bool
  pairs w = up_at w w.duty.holder && (not (is_both w.duty.mode) && (free_at w && (nat_lt (length w.booked) w.ended && nat_lt w.duty.epoch 4194303)))

  abbrev books : Resolved E → Mode → Bool
  books w Both = nat_lt (length w.booked) w.acked
  books w Alone = true

  abbrev on_message : Resolved E → Option (Message E) → Option (Resolved E)
  on_message w None = None
  on_message w (Some m) = when (delivers w m) (delivered w m)

  -- what an event makes of a world without doubt, where it can be done; whether an entry is due is asked apart
  abbrev next : {Q : Type 0} → Resolved E → Event E Q → Option (Resolved E)
  next w (Write e) = when (up_at w w.duty.holder && (free_at w && nat_lt (length (holder_journal w)) 1000000)) (written w e)
  next w (Ship k) = when (up_at w w.duty.holder && (nat_lt 0 k && not (nat_lt (suc (length (holder_journal w))) k))) (shipped w k)
  next w (Deliver i) = on_message w (item_at w.messages i)
  next w (Drop i) = when (nat_lt 0 i && not (nat_lt (length w.messages) i)) (record w { messages = without w.messages i })
  next w Book = when (up_at w w.duty.holder && (nat_lt (length w.booked) (length (holder_journal w)) && books w w.duty.mode)) (booked_next w)
  next w (Take n) = when (leaves w n) (duty_changed w n Alone (node_at w.nodes n).journal)
  next w Go_alone = when (leaves w w.duty.holder) (duty_changed w w.duty.holder Alone w.booked)
  next w Pair_up = when (pairs w) (duty_changed w w.duty.holder Both w.booked)
  next w (Stop n) = when (up_at w n) (stopped w n)
  next w (Start n) = when (not (up_at w n)) (with_node w n (record (node_at w.nodes n) { up = true; known = w.duty.epoch }))
  next w Start_duty = None
  next w (Ask n r since) = None

  abbrev DueFor : {Q : Type 0} → (List E → E → Type 0) → Resolved E → Event E Q → Type 0
  DueFor due w (Write e) = due (entries w.booked) e
  DueFor due w event = Unit {0}

module _ {E : Type 0} where
  leave_told : (w : Resolved E) (n : NodeName) → leaves w n ≡ true → CanLeavePair office_bounds w n
  leave_told w n is =
      let a = and_parts (up_at w n) _ is in
      let b = and_parts (is_both w.duty.mode) _ a.1 in
      record { up = a.0; both = both_told w.duty.mode b.0; epochs_left = grind (arith, nat_tests) }

  deliver_told : (w : Resolved E) (m : Message E) → delivers w m ≡ true → CanDeliver w m
  deliver_told w (Ships x) is =
      let a = and_parts (up_at w (other x.sender)) _ is in
      let b = and_parts (not (nat_lt x.epoch (known w (other x.sender)))) _ a.1 in
      let stale = not_told (nat_lt x.epoch (known w (other x.sender))) b.0 in
      let behind = not_told (nat_lt (length (node_at w.nodes (other x.sender)).journal) x.preceding) b.1 in
      record { up = a.0; not_stale = grind (arith, nat_tests); not_behind = grind (arith, nat_tests) }
  deliver_told w (Acks ack) is =
      let a = and_parts (up_at w ack.to) _ is in
      let stale = not_told (nat_lt ack.epoch w.duty.epoch) a.1 in
      record { up = a.0; not_stale = grind (arith, nat_tests) }

module _ {E Q : Type 0} (due : List E → E → Type 0) where
  step_told : (w v : Resolved E) (e : Event E Q) → next w e ≡ Some v → DueFor due w e → WorldStep due office_bounds (without_doubt w) e (without_doubt v)
  step_told w v (Write e) is d =
      let t = when_told _ (written w e) v is in
      let a = and_parts (up_at w w.duty.holder) _ t.0 in
      let b = and_parts (free_at w) _ a.1 in
      (refl, (record { up = a.0; free = grind (arith, nat_tests, b.0); next = d; room = grind (arith, nat_tests, b.1) }, t.1), refl)
  step_told w v (Ship k) is d =
      let t = when_told _ (shipped w k) v is in
      let a = and_parts (up_at w w.duty.holder) _ t.0 in
      let b = and_parts (nat_lt 0 k) _ a.1 in
      let far = not_told (nat_lt (suc (length (holder_journal w))) k) b.1 in
      (refl, (record { up = a.0; from = grind (arith, nat_tests, b.0); within = grind (arith, nat_tests, far) }, t.1), refl)
  step_told w v (Deliver i) is d = (refl, by_message (item_at w.messages i) is, refl)
    where
      by_message : (o : Option (Message E)) → on_message w o ≡ Some v → OnItem o (λ m. CanDeliver w m × (v ≡ delivered w m))
      by_message None is = absurd (cc)
      by_message (Some m) is = let t = when_told (delivers w m) (delivered w m) v is in (deliver_told w m t.0, t.1)
  step_told w v (Drop i) is d =
      let t = when_told _ (record w { messages = without w.messages i }) v is in
      let a = and_parts (nat_lt 0 i) _ t.0 in
      let far = not_told (nat_lt (length w.messages) i) a.1 in
      (refl, (grind (arith, nat_tests, a.0), grind (arith, nat_tests, far), t.1), refl)
  step_told w v Book is d =
      let t = when_told _ (booked_next w) v is in
      let a = and_parts (up_at w w.duty.holder) _ t.0 in
      let b = and_parts (nat_lt (length w.booked) (length (holder_journal w))) _ a.1 in
      (refl, (record { up = a.0; pending = grind (arith, nat_tests, b.0); stored = λ both. stored w.duty.mode both b.1 }, t.1), refl)
    where
      stored : (m : Mode) → m ≡ Both → books w m ≡ true → length w.booked < w.acked
      stored Both is told = grind (arith, nat_tests)
      stored Alone is told = absurd (cc)
  step_told w v (Take n) is d = let t = when_told (leaves w n) _ v is in (refl, (leave_told w n t.0, t.1), refl)
  step_told w v Go_alone is d = let t = when_told (leaves w w.duty.holder) _ v is in (refl, (leave_told w w.duty.holder t.0, t.1), refl)
  step_told w v Pair_up is d =
      let t = when_told (pairs w) _ v is in
      let a = and_parts (up_at w w.duty.holder) _ t.0 in
      let b = and_parts (not (is_both w.duty.mode)) _ a.1 in
      let c = and_parts (free_at w) _ b.1 in
      let e = and_parts (nat_lt (length w.booked) w.ended) _ c.1 in
      (refl, (record { up = a.0; alone = alone_told w.duty.mode (not_told _ b.0); free = grind (arith, nat_tests, c.0); in_step = grind (arith, nat_tests, e.0); epochs_left = grind (arith, nat_tests, e.1) }, t.1), refl)
  step_told w v (Stop n) is d = let t = when_told (up_at w n) _ v is in ((t.0, t.1), refl)
  step_told w v (Start A) is d = let t = when_told (not (up_at w A)) _ v is in (false, refl, not_told (up_at w A) t.0, ap without_doubt t.1)
  step_told w v (Start B) is d = let t = when_told (not (up_at w B)) _ v is in (false, refl, not_told (up_at w B) t.0, ap without_doubt t.1)
  step_told w v Start_duty is d = absurd (cc)
  step_told w v (Ask n r since) is d = absurd (cc)

-- what a turn asks, and then of the world after it
abbrev ToTurn : {E Q R : Type 0} → (List E → E → Type 0) → Resolved E → Outcome R → Event E Q → (Resolved E → Type 0) → Type 0
ToTurn due w Done (Write e) after = due (entries w.booked) e × OnItem (next {Q = Unit {0}} w (Write e)) after
ToTurn due w Done event after = OnItem (next w event) after
ToTurn due w Refused event after = after w
ToTurn due w outcome event after = ⊥

-- what is asked of a schedule of events that are done or refused, which ends in this world
abbrev pub ToRun : {E Q R : Type 0} → (List E → E → Type 0) → Resolved E → List (Turn E Q R) → Resolved E → Type 0
ToRun due w [] v = w ≡ v
ToRun due w (turn ∷ turns) v = ToTurn due w turn.outcome turn.event (λ u. ToRun due u turns v)

module _ {E Q R : Type 0} (due : List E → E → Type 0) (form : List E → Q → R) where
  -- the turn leads to a world from which the rest of the schedule runs, where it runs from each world that is asked for
  abbrev Rest : Resolved E → Resolved E → List (Turn E Q R) → Event E Q → Outcome R → Type 0
  Rest w v turns e o = (u : World E) × Step due form office_bounds (without_doubt w) e o u × Runs due form office_bounds u turns (without_doubt v)

  abbrev Going : Resolved E → List (Turn E Q R) → Type 0
  Going v turns = (u : Resolved E) → ToRun due u turns v → Runs due form office_bounds (without_doubt u) turns (without_doubt v)

  -- a schedule that was computed runs
  pub runs_told : (w v : Resolved E) (turns : List (Turn E Q R)) → ToRun due w turns v → Runs due form office_bounds (without_doubt w) turns (without_doubt v)
  runs_told w v [] is = ap without_doubt is
  runs_told w v (turn ∷ turns) is = by_turn turn.event turn.outcome (λ u told. runs_told u v turns told) is
    where
      did : (e : Event E Q) → Going v turns → DueFor due w e → OnItem (next w e) (λ u. ToRun due u turns v) → Rest w v turns e Done
      did e going d told = let t = on_item (next w e) (λ u. ToRun due u turns v) told in (without_doubt t.0, step_told due w t.0 e t.1 d, going t.0 t.2)

      by_turn : (e : Event E Q) (o : Outcome R) → Going v turns → ToTurn due w o e (λ u. ToRun due u turns v) → Rest w v turns e o
      by_turn (Write e) Done going told = did (Write e) going told.0 told.1
      by_turn (Ship k) Done going told = did (Ship k) going tt told
      by_turn (Deliver i) Done going told = did (Deliver i) going tt told
      by_turn (Drop i) Done going told = did (Drop i) going tt told
      by_turn Book Done going told = did Book going tt told
      by_turn (Take n) Done going told = did (Take n) going tt told
      by_turn Go_alone Done going told = did Go_alone going tt told
      by_turn Pair_up Done going told = did Pair_up going tt told
      by_turn (Stop n) Done going told = did (Stop n) going tt told
      by_turn (Start n) Done going told = did (Start n) going tt told
      by_turn Start_duty Done going told = did Start_duty going tt told
      by_turn (Ask n r since) Done going told = did (Ask n r since) going tt told
      by_turn e Refused going told = (without_doubt w, inl refl, going w told)
      by_turn e (Answered reply) going told = absurd told
      by_turn e Faulted going told = absurd told
      by_turn e Halted going told = absurd told
