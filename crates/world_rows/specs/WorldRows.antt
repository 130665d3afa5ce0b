-- The rows of the events of the world: the refusals in their order, where a disk may fail and what that leaves, and the success.
use Rattle.std.specs.Prelude.{ℕ, suc, ◌&&◌, nat_lt, List, [], ◌∷◌, length, Bool, Option, Some, None, Result, Ok, Err, if◌then◌else◌}
use Rattle.std.specs.Option.{option_map}
use Rattle.ali_base.specs.Steps.{when}
use Rattle.ali_base.specs.declared.duty.Mode.{Mode}
use Rattle.ali_base.specs.declared.duty.Mode.TheVariants.{Alone, Both}
use Rattle.ali_base.specs.declared.names.DiskName.TheVariants as disk
use Rattle.ali_base.specs.declared.names.NodeName.{NodeName}
use Rattle.office_entry.specs.declared.entry.Entry.{Entry}
use Rattle.office_state.specs.Due.{due_of}
use Rattle.office_state.specs.OfficeState.{State}
use Rattle.office_state.specs.Verdict.{verdict}
use Rattle.office_state.specs.declared.due_fault.DueFault.{DueFault}
use Rattle.office_state.specs.declared.limits.Limits.{Limits}
use Rattle.office_state.specs.declared.verdict.Verdict.{Verdict}
use Rattle.pair_world.specs.Changes.{journal_written, written, shipped, delivered, epoch_heard, booked_next, new_duty, duty_changed, stopped, started, register_started, read_failed, write_failed, register_failed, journal_stored}
use Rattle.pair_world.specs.Deliveries as answers
use Rattle.pair_world.specs.Deliveries.{Answer, answer}
use Rattle.pair_world.specs.Frames.{Frame, item_at}
use Rattle.pair_world.specs.Refusals as refusals
use Rattle.pair_world.specs.Refusals.{Item, Test, Next, No_message, disk_of}
use Rattle.pair_world.specs.Step.{Bounds}
use Rattle.pair_world.specs.World.{World, NodeState, Shipment, Ack, Message, Ships, Acks, other, told_by, node_at, holder_journal, pending}
use Rattle.world_rows.specs.Histories.{state_of}
use Rattle.world_rows.specs.Rows.{Row, Unless, MayFail, Always, Success}
use Rattle.world_rows.specs.Told.{Told, Report, Refused, Not_due, Ready, Written, Booked, Stopped, Started, Sent, Behind, Cut, Stored, Have, Have_end, Acked, Acked_end, On_duty, Started_duty, Told_status}

-- an entry that may not be booked next
abbrev pub not_due : Result (Unit {0}) DueFault → Option Told
not_due (Ok x) = None
not_due (Err fault) = Some (Not_due fault)

-- these items of a row, in this state, and the rest of the row
abbrev pub unless : {W : Type 0} → State → List (Item Entry) → Row Told W → Row Told W
unless s [] row = row
unless s (Test refusal ∷ items) row = Unless (option_map Refused refusal) (unless s items row)
unless s (Next entry ∷ items) row = Unless (not_due (due_of s entry)) (unless s items row)

-- the verdict of a frame in this state
abbrev pub verdict_of : State → Option (Frame Entry) → Verdict
verdict_of s None = record { code = 0; detail = 0 }
verdict_of s (Some frame) = verdict s frame.entry

-- the journal of a node
abbrev pub journal_at : World Entry → NodeName → List (Frame Entry)
journal_at w n = (node_at w.base.nodes n).journal

module _ (limits : Limits) (w : World Entry) where
  -- A node makes its table the one after the booked history; its disk may fail while the table learns.
  abbrev pub ready_row : NodeName → Row Told (World Entry)
  ready_row n =
      unless (state_of limits w) (refusals.ready_row w n)
      (MayFail (disk_of n) (read_failed w n) (Success Ready w))

  -- The holder writes an entry: its disk may fail while its table learns, and in the write.
  abbrev pub write_row : Bounds → NodeName → Entry → Row Told (World Entry)
  write_row bounds n entry =
      let h = w.base.duty.holder in
      unless (state_of limits w)
      (Test (refusals.duty_is_down w)
      ∷ Test (refusals.node_is_down w n)
      ∷ Test (refusals.not_holder w n)
      ∷ Test (refusals.in_flight w)
      ∷ [])
      (MayFail (disk_of h) (read_failed w h)
      (unless (state_of limits w) (Next entry ∷ Test (refusals.full w bounds) ∷ [])
      (MayFail (disk_of h) (write_failed w h (journal_written w.base entry))
      (Success
      (Written (suc (length (holder_journal w.base))) w.base.duty.epoch)
      (record w { base = written w.base entry })))))

  -- The pending entry is booked; the holder's disk may fail while its table learns it.
  abbrev pub book_row : Row Told (World Entry)
  book_row =
      let h = w.base.duty.holder in
      unless (state_of limits w) (refusals.book_row w)
      (MayFail (disk_of h) (read_failed w h)
      (Success
      (Booked (suc (length w.base.booked)) (verdict_of (state_of limits w) (pending w.base)))
      (record w { base = booked_next w.base })))

  -- A node is stopped.
  abbrev pub stop_row : NodeName → Row Told (World Entry)
  stop_row n =
      unless (state_of limits w) (refusals.stop_row w n)
      (Success (Stopped n) (record w { base = stopped w.base n }))

  -- A node is started; where its disk was in doubt, the failed write lasted or it did not. Its disk may fail while it is read.
  abbrev pub start_row : NodeName → Bool → Row Told (World Entry)
  start_row n lasted =
      let v = started w n lasted in
      unless (state_of limits w) (Test (refusals.duty_is_down w) ∷ Test (refusals.node_is_up w n) ∷ [])
      (MayFail (disk_of n) w
      (unless (state_of limits w) (Test (refusals.short w n (journal_at v n)) ∷ [])
      (Success (Started n (length (journal_at v n)) w.base.duty.epoch) v)))

  -- The holder tells the other node frame k, or its end; its disk may fail while the frame is read.
  abbrev pub ship_row : NodeName → ℕ → Row Told (World Entry)
  ship_row n k =
      let h = w.base.duty.holder in
      unless (state_of limits w) (refusals.ship_row w n k)
      (MayFail (disk_of h) (read_failed w h)
      (Success (Sent (suc (length w.base.messages))) (record w { base = shipped w.base k })))

  -- What a shipment comes to, by the answer of its receiver: where it is behind, it hears the epoch alone. Its disk may fail where the journal is changed.
  abbrev pub answer_row : Shipment Entry → ℕ → World Entry → Answer Entry → Row Told (World Entry)
  answer_row x made after answers.Behind =
      Success (Behind (length (journal_at w (other x.sender))) (suc x.preceding)) (record w { base = epoch_heard w.base x })
  answer_row x made after (answers.Cut left) =
      MayFail (disk_of (other x.sender)) (write_failed w (other x.sender) (journal_stored w.base x)) (Success (Cut (suc left)) after)
  answer_row x made after (answers.Stored frame) =
      MayFail (disk_of (other x.sender)) (write_failed w (other x.sender) (journal_stored w.base x))
      (Success (Stored (suc x.preceding) made) after)
  answer_row x made after answers.Have = Success (Have (suc x.preceding) made) after
  answer_row x made after answers.Have_end = Success (Have_end (suc x.preceding) made) after

  -- An acknowledgement is heard.
  abbrev pub acked_told : Ack → Told
  acked_told ack = if ack.end then Acked_end (suc ack.preceding) ack.epoch else Acked (suc ack.preceding) ack.epoch

  -- Message i is delivered.
  abbrev pub message_row : ℕ → Option (Message Entry) → Row Told (World Entry)
  message_row i None = Always (Refused (No_message i (length w.base.messages)))
  message_row i (Some (Ships x)) =
      unless (state_of limits w) (refusals.message_row w i (Some (Ships x)))
      (answer_row x (suc (length w.base.messages)) (record w { base = delivered w.base (Ships x) })
      (answer (journal_at w (other x.sender)) (told_by x)))
  message_row i (Some (Acks ack)) =
      unless (state_of limits w) (refusals.message_row w i (Some (Acks ack)))
      (Success (acked_told ack) (record w { base = delivered w.base (Acks ack) }))

  abbrev pub deliver_row : ℕ → Row Told (World Entry)
  deliver_row i = message_row i (item_at w.base.messages i)

  -- The duty changes, over this history; the register's disk may fail.
  abbrev pub duty_row : NodeName → Mode → List (Frame Entry) → Row Told (World Entry)
  duty_row n mode history =
      MayFail disk.Duty (register_failed w (new_duty w.base n mode (length history)))
      (Success (On_duty (new_duty w.base n mode (length history))) (record w { base = duty_changed w.base n mode history }))

  -- A node takes the duty; the holder goes on alone; the pair is made.
  abbrev pub take_row : Bounds → NodeName → Row Told (World Entry)
  take_row bounds n = unless (state_of limits w) (refusals.take_row w bounds n) (duty_row n Alone (journal_at w n))

  abbrev pub alone_row : Bounds → Row Told (World Entry)
  alone_row bounds =
      unless (state_of limits w) (refusals.alone_row w bounds) (duty_row w.base.duty.holder Alone w.base.booked)

  abbrev pub pair_row : Bounds → Row Told (World Entry)
  pair_row bounds = unless (state_of limits w) (refusals.pair_row w bounds) (duty_row w.base.duty.holder Both w.base.booked)

  -- The register is started; where it was in doubt, the failed change lasted or it did not. Its disk may fail while it is read.
  abbrev pub start_duty_row : Bool → Row Told (World Entry)
  start_duty_row lasted =
      let v = register_started w lasted in
      unless (state_of limits w) (refusals.start_duty_row w) (MayFail disk.Duty w (Success (Started_duty v.base.duty) v))

  -- How things stand.
  abbrev pub length_told : NodeState Entry → Option ℕ
  length_told state = when state.up (length state.journal)

  abbrev pub pending_told : Option ℕ
  pending_told =
      when ((node_at w.base.nodes w.base.duty.holder).up && nat_lt (length w.base.booked) (length (holder_journal w.base)))
      (suc (length w.base.booked))

  abbrev pub report : Report
  report = record {
    duty = w.base.duty;
    count = length w.base.booked;
    pending = pending_told;
    length_a = length_told w.base.nodes.a;
    length_b = length_told w.base.nodes.b;
  }

  abbrev pub status_row : Row Told (World Entry)
  status_row = unless (state_of limits w) (refusals.status_row w) (Success (Told_status report) w)
