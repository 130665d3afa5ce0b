-- Each row of refusals, passed exactly where its event can be done.
use Rattle.std.proofs.Common.{◌≡◌, ℕ, suc, ◌<◌, ◌≤◌, ◌⊎◌, Bool, true, false, not, ◌||◌, cond, List, length, refl, sym, subst, arith, Some, None}
use Rattle.ali_base.specs.declared.names.NodeName.{NodeName}
use Rattle.ali_base.specs.declared.duty.Mode.{Mode}
use Rattle.ali_base.specs.declared.duty.Mode.TheVariants.{Both, Alone}
use Rattle.pair_world.specs.Frames.{Frame}
use Rattle.pair_world.specs.World.{other, is_node, Shipment, Ack, Ships, Acks, node_at, holder_journal, known, is_up, World, MayHold}
use Rattle.pair_world.specs.Step.{Bounds, CanWrite, CanShip, CanBook, CanLeavePair, CanPair, CanHear}
use Rattle.pair_world.specs.SoundWorld.{IsSound, Booked}
use Rattle.pair_world.specs.Refusals.{Item, IsPassed, message_limit, is_alone, needed_length, short, ready_row, ask_row, catch_up_row, shipping_row, receiving_row, write_row, ship_row, message_row, book_row, take_row, pair_row, start_row}
use Rattle.pair_world.proofs.Lists.{Begins-length}
use Rattle.pair_world.proofs.RowTests.{passed, passes, not_false, is_true, up_passed, up_passes, lt_passed, lt_passes, le_passed, le_passes, both_passed, both_passes, alone_passed, alone_passes, in_duty_passed, in_duty_passes, stored_passed, stored_passes}
use Rattle.pair_world.proofs.SoundSteps.{base_has_parts, journals_begin, holder_begins}
use Rattle.pair_world.proofs.Terms.{same_node, node_same}

module _ {E : Type 0} (due : List E → E → Type 0) (w : World E) where
  abbrev Passed : List (Item E) → Type 0
  Passed row = IsPassed due w.base.booked row

  holder_passed : (n : NodeName) → not (is_node n w.base.duty.holder) ≡ false → n ≡ w.base.duty.holder
  holder_passed n is = same_node n w.base.duty.holder (not_false (is_node n w.base.duty.holder) is)

  holder_passes : (n : NodeName) → n ≡ w.base.duty.holder → not (is_node n w.base.duty.holder) ≡ false
  holder_passes n same = is_true (is_node n w.base.duty.holder) (node_same n w.base.duty.holder same)

  long_enough : IsSound due w → length w.base.booked ≤ length (holder_journal w.base)
  long_enough s = Begins-length ((base_has_parts due w s).holds Booked).begins

  pub write_exact : (bounds : Bounds) (n : NodeName) (e : E) → IsSound due w → Passed (write_row w bounds n e) → (w.register_up ≡ true) × (n ≡ w.base.duty.holder) × CanWrite due bounds w.base e
  write_exact bounds n e s (reg, (up, (own, (free, (next, (room, end)))))) =
      let holder = holder_passed n (passed _ _ own) in (
        up_passed w.register_up _ reg,
        holder,
        record {
          up = subst (is_up w.base) holder (up_passed (node_at w.base.nodes n).up _ up);
          free = (let a = lt_passed (length w.base.booked) (length (holder_journal w.base)) _ free in let b = long_enough s in omega arith);
          next = next;
          room = le_passed bounds.frames (length (holder_journal w.base)) _ room;
        },
      )

  pub write_passed : (bounds : Bounds) (n : NodeName) (e : E) → (w.register_up ≡ true) × (n ≡ w.base.duty.holder) × CanWrite due bounds w.base e → Passed (write_row w bounds n e)
  write_passed bounds n e g = (
    up_passes w.register_up _ g.0,
    (
      up_passes (node_at w.base.nodes n).up _ (subst (is_up w.base) (sym g.1) g.2.up),
      (
        passes _ _ (holder_passes n g.1),
        (
          lt_passes (length w.base.booked) (length (holder_journal w.base)) _ (let f = g.2.free in omega arith),
          (g.2.next, (le_passes bounds.frames (length (holder_journal w.base)) _ g.2.room, tt)),
        ),
      ),
    ),
  )

  pub ship_exact : (n : NodeName) (k : ℕ) → 0 < k → Passed (ship_row w n k) → (w.register_up ≡ true) × (n ≡ w.base.duty.holder) × CanShip w.base k × (length w.base.messages < message_limit)
  ship_exact n k low (reg, (up, (own, (there, (room, end))))) =
      let holder = holder_passed n (passed _ _ own) in (
        up_passed w.register_up _ reg,
        holder,
        record { up = subst (is_up w.base) holder (up_passed (node_at w.base.nodes n).up _ up); from = low; within = lt_passed (suc (length (holder_journal w.base))) k _ there },
        le_passed message_limit (length w.base.messages) _ room,
      )

  pub ship_passed : (n : NodeName) (k : ℕ) → (w.register_up ≡ true) × (n ≡ w.base.duty.holder) × CanShip w.base k × (length w.base.messages < message_limit) → Passed (ship_row w n k)
  ship_passed n k g = (
    up_passes w.register_up _ g.0,
    (
      up_passes (node_at w.base.nodes n).up _ (subst (is_up w.base) (sym g.1) g.2.up),
      (passes _ _ (holder_passes n g.1), (lt_passes (suc (length (holder_journal w.base))) k _ g.2.within, (le_passes message_limit (length w.base.messages) _ g.3, tt))),
    ),
  )

  pub shipment_exact : (i : ℕ) (x : Shipment E) → Passed (message_row w i (Some (Ships x))) → (w.register_up ≡ true) × is_up w.base (other x.sender) × (length w.base.messages < message_limit) × (known w.base (other x.sender) ≤ x.epoch)
  shipment_exact i x (reg, (up, (room, (fresh, end)))) =
      (up_passed w.register_up _ reg, up_passed (node_at w.base.nodes (other x.sender)).up _ up, le_passed message_limit (length w.base.messages) _ room, lt_passed x.epoch (known w.base (other x.sender)) _ fresh)

  pub shipment_passed : (i : ℕ) (x : Shipment E) → (w.register_up ≡ true) × is_up w.base (other x.sender) × (length w.base.messages < message_limit) × (known w.base (other x.sender) ≤ x.epoch) → Passed (message_row w i (Some (Ships x)))
  shipment_passed i x g =
      (up_passes w.register_up _ g.0, (up_passes (node_at w.base.nodes (other x.sender)).up _ g.1, (le_passes message_limit (length w.base.messages) _ g.2, (lt_passes x.epoch (known w.base (other x.sender)) _ g.3, tt))))

  pub ack_exact : (i : ℕ) (ack : Ack) → Passed (message_row w i (Some (Acks ack))) → (w.register_up ≡ true) × CanHear w.base ack
  ack_exact i ack (reg, (up, (fresh, end))) = (up_passed w.register_up _ reg, record { up = up_passed (node_at w.base.nodes ack.to).up _ up; not_stale = lt_passed ack.epoch w.base.duty.epoch _ fresh })

  pub ack_passed : (i : ℕ) (ack : Ack) → (w.register_up ≡ true) × CanHear w.base ack → Passed (message_row w i (Some (Acks ack)))
  ack_passed i ack g = (up_passes w.register_up _ g.0, (up_passes (node_at w.base.nodes ack.to).up _ g.1.up, (lt_passes ack.epoch w.base.duty.epoch _ g.1.not_stale, tt)))

  pub book_exact : Passed (book_row w) → (w.register_up ≡ true) × CanBook w.base
  book_exact (reg, (up, (pending, (stored, end)))) = (
    up_passed w.register_up _ reg,
    record {
      up = up_passed (node_at w.base.nodes w.base.duty.holder).up _ up;
      pending = le_passed (length (holder_journal w.base)) (length w.base.booked) _ pending;
      stored = stored_passed w.base.duty.mode w.base.acked (length w.base.booked) _ stored;
    },
  )

  pub book_passed : (w.register_up ≡ true) × CanBook w.base → Passed (book_row w)
  book_passed g = (
    up_passes w.register_up _ g.0,
    (
      up_passes (node_at w.base.nodes w.base.duty.holder).up _ g.1.up,
      (le_passes (length (holder_journal w.base)) (length w.base.booked) _ g.1.pending, (stored_passes w.base.duty.mode w.base.acked (length w.base.booked) _ g.1.stored, tt)),
    ),
  )

  pub take_exact : (bounds : Bounds) (n : NodeName) → Passed (take_row w bounds n) → (w.register_up ≡ true) × CanLeavePair bounds w.base n
  take_exact bounds n (reg, (up, (both, (left, end)))) =
      (up_passed w.register_up _ reg, record { up = up_passed (node_at w.base.nodes n).up _ up; both = both_passed w.base.duty.mode _ both; epochs_left = le_passed bounds.last_epoch w.base.duty.epoch _ left })

  pub take_passed : (bounds : Bounds) (n : NodeName) → (w.register_up ≡ true) × CanLeavePair bounds w.base n → Passed (take_row w bounds n)
  take_passed bounds n g =
      (up_passes w.register_up _ g.0, (up_passes (node_at w.base.nodes n).up _ g.1.up, (both_passes w.base.duty.mode _ g.1.both, (le_passes bounds.last_epoch w.base.duty.epoch _ g.1.epochs_left, tt))))

  pub pair_exact : (bounds : Bounds) → IsSound due w → Passed (pair_row w bounds) → (w.register_up ≡ true) × CanPair bounds w.base
  pair_exact bounds s (reg, (up, (alone, (free, (step, (left, end)))))) = (
    up_passed w.register_up _ reg,
    record {
      up = up_passed (node_at w.base.nodes w.base.duty.holder).up _ up;
      alone = alone_passed w.base.duty.mode _ alone;
      free = (let a = lt_passed (length w.base.booked) (length (holder_journal w.base)) _ free in let b = long_enough s in omega arith);
      in_step = le_passed w.base.ended (length w.base.booked) _ step;
      epochs_left = le_passed bounds.last_epoch w.base.duty.epoch _ left;
    },
  )

  pub pair_passed : (bounds : Bounds) → (w.register_up ≡ true) × CanPair bounds w.base → Passed (pair_row w bounds)
  pair_passed bounds g = (
    up_passes w.register_up _ g.0,
    (
      up_passes (node_at w.base.nodes w.base.duty.holder).up _ g.1.up,
      (
        alone_passes w.base.duty.mode _ g.1.alone,
        (
          lt_passes (length w.base.booked) (length (holder_journal w.base)) _ (let f = g.1.free in omega arith),
          (le_passes w.base.ended (length w.base.booked) _ g.1.in_step, (le_passes bounds.last_epoch w.base.duty.epoch _ g.1.epochs_left, tt)),
        ),
      ),
    ),
  )

  pub start_exact : (n : NodeName) (journal : List (Frame E)) → Passed (start_row w n journal) → (w.register_up ≡ true) × ((node_at w.base.nodes n).up ≡ false) × (needed_length w n ≤ length journal)
  start_exact n journal (reg, (up, (long, end))) = (up_passed w.register_up _ reg, passed (node_at w.base.nodes n).up _ up, lt_passed (length journal) (needed_length w n) _ long)

  pub start_passed : (n : NodeName) (journal : List (Frame E)) → (w.register_up ≡ true) × ((node_at w.base.nodes n).up ≡ false) × (needed_length w n ≤ length journal) → Passed (start_row w n journal)
  start_passed n journal g = (up_passes w.register_up _ g.0, (passes (node_at w.base.nodes n).up _ g.1, (lt_passes (length journal) (needed_length w n) _ g.2, tt)))

  pub ask_exact : (n : NodeName) (since : ℕ) → Passed (ask_row w n since) → (w.register_up ≡ true) × is_up w.base n × ((n ≡ w.base.duty.holder) ⊎ (w.base.duty.mode ≡ Both)) × (since ≤ length w.base.booked)
  ask_exact n since (reg, (up, (step, (seen, end)))) =
      (up_passed w.register_up _ reg, up_passed (node_at w.base.nodes n).up _ up, in_duty_passed w.base.duty.mode n w.base.duty.holder _ step, lt_passed (length w.base.booked) since _ seen)

  pub ask_passed : (n : NodeName) (since : ℕ) → (w.register_up ≡ true) × is_up w.base n × ((n ≡ w.base.duty.holder) ⊎ (w.base.duty.mode ≡ Both)) × (since ≤ length w.base.booked) → Passed (ask_row w n since)
  ask_passed n since g =
      (up_passes w.register_up _ g.0, (up_passes (node_at w.base.nodes n).up _ g.1, (in_duty_passes w.base.duty.mode n w.base.duty.holder _ g.2, (lt_passes (length w.base.booked) since _ g.3, tt))))

  pub ready_exact : (n : NodeName) → Passed (ready_row w n) → (w.register_up ≡ true) × is_up w.base n × ((n ≡ w.base.duty.holder) ⊎ (w.base.duty.mode ≡ Both))
  ready_exact n (reg, (up, (step, end))) =
      (up_passed w.register_up _ reg, up_passed (node_at w.base.nodes n).up _ up, in_duty_passed w.base.duty.mode n w.base.duty.holder _ step)

  pub ready_passed : (n : NodeName) → (w.register_up ≡ true) × is_up w.base n × ((n ≡ w.base.duty.holder) ⊎ (w.base.duty.mode ≡ Both)) → Passed (ready_row w n)
  ready_passed n g = (up_passes w.register_up _ g.0, (up_passes (node_at w.base.nodes n).up _ g.1, (in_duty_passes w.base.duty.mode n w.base.duty.holder _ g.2, tt)))

  pub catch_up_exact : Passed (catch_up_row w) → (w.register_up ≡ true) × is_up w.base w.base.duty.holder × (w.base.duty.mode ≡ Alone) × is_up w.base (other w.base.duty.holder)
  catch_up_exact (reg, (up, (alone, (also, end)))) =
      (up_passed w.register_up _ reg, up_passed (node_at w.base.nodes w.base.duty.holder).up _ up, alone_passed w.base.duty.mode _ alone, up_passed (node_at w.base.nodes (other w.base.duty.holder)).up _ also)

  pub catch_up_passed : (w.register_up ≡ true) × is_up w.base w.base.duty.holder × (w.base.duty.mode ≡ Alone) × is_up w.base (other w.base.duty.holder) → Passed (catch_up_row w)
  catch_up_passed g = (
    up_passes w.register_up _ g.0,
    (
      up_passes (node_at w.base.nodes w.base.duty.holder).up _ g.1,
      (alone_passes w.base.duty.mode _ g.2, (up_passes (node_at w.base.nodes (other w.base.duty.holder)).up _ g.3, tt)),
    ),
  )

  pub shipping_exact : (k : ℕ) → 0 < k → Passed (shipping_row w k) → (w.register_up ≡ true) × CanShip w.base k
  shipping_exact k low (reg, (up, (there, end))) =
      (up_passed w.register_up _ reg, record { up = up_passed (node_at w.base.nodes w.base.duty.holder).up _ up; from = low; within = lt_passed (suc (length (holder_journal w.base))) k _ there })

  pub shipping_passed : (k : ℕ) → (w.register_up ≡ true) × CanShip w.base k → Passed (shipping_row w k)
  shipping_passed k g =
      (up_passes w.register_up _ g.0, (up_passes (node_at w.base.nodes w.base.duty.holder).up _ g.1.up, (lt_passes (suc (length (holder_journal w.base))) k _ g.1.within, tt)))

  pub receiving_exact : (x : Shipment E) → Passed (receiving_row w x) → is_up w.base (other x.sender) × (known w.base (other x.sender) ≤ x.epoch)
  receiving_exact x (up, (fresh, end)) = (up_passed (node_at w.base.nodes (other x.sender)).up _ up, lt_passed x.epoch (known w.base (other x.sender)) _ fresh)

  pub receiving_passed : (x : Shipment E) → is_up w.base (other x.sender) × (known w.base (other x.sender) ≤ x.epoch) → Passed (receiving_row w x)
  receiving_passed x g = (up_passes (node_at w.base.nodes (other x.sender)).up _ g.0, (lt_passes x.epoch (known w.base (other x.sender)) _ g.1, tt))

  -- each list that a disk may hold is as long as a start asks
  pub never_short : (n : NodeName) (journal : List (Frame E)) → IsSound due w → MayHold w n journal → short w n journal ≡ None
  never_short n journal s may = lt_passes (length journal) (needed_length w n) _ (by_holder (is_node n w.base.duty.holder) refl w.base.duty.mode refl)
    where
      by_holder : (t : Bool) → is_node n w.base.duty.holder ≡ t → (m : Mode) → w.base.duty.mode ≡ m → cond (t || not (is_alone m)) (length w.base.booked) 0 ≤ length journal
      by_holder true own m is = Begins-length (holder_begins due w n journal s (same_node n w.base.duty.holder own) may)
      by_holder false far Both is = Begins-length (journals_begin due w n journal s is may)
      by_holder false far Alone is = omega arith
