-- The row of passing a frame on: the holder makes the message, the other node gets it, and the acknowledgement that it makes is heard. None of these takes a number.
use Rattle.std.specs.Prelude.{ℕ, suc, length, true, false}
use Rattle.office_entry.specs.declared.entry.Entry.{Entry}
use Rattle.office_state.specs.declared.limits.Limits.{Limits}
use Rattle.pair_world.specs.Changes.{shipment, read_failed, write_failed, journal_stored}
use Rattle.pair_world.specs.Deliveries as answers
use Rattle.pair_world.specs.Deliveries.{Answer, answer}
use Rattle.pair_world.specs.Passing.{passed, passed_acked}
use Rattle.pair_world.specs.Refusals.{disk_of, shipping_row, receiving_row}
use Rattle.pair_world.specs.World.{World, Shipment, other, told_by}
use Rattle.world_rows.specs.Histories.{state_of}
use Rattle.world_rows.specs.Rows.{Row, MayFail, Success}
use Rattle.world_rows.specs.Told.{Told, Behind, Cut, Stored, Have, Have_end}
use Rattle.world_rows.specs.WorldRows.{unless, journal_at}

module _ (limits : Limits) (w : World Entry) (k : ℕ) where
  -- what it comes to, by the answer of the other node, whose disk may fail where the journal is changed
  abbrev pub passed_row : Shipment Entry → Answer Entry → Row Told (World Entry)
  passed_row x answers.Behind = Success (Behind (length (journal_at w (other x.sender))) (suc x.preceding)) (passed w k)
  passed_row x (answers.Cut left) =
      MayFail (disk_of (other x.sender)) (write_failed w (other x.sender) (journal_stored w.base x)) (Success (Cut (suc left)) (passed w k))
  passed_row x (answers.Stored frame) =
      MayFail (disk_of (other x.sender)) (write_failed w (other x.sender) (journal_stored w.base x))
      (Success (Stored (suc x.preceding) 0) (passed_acked w k false))
  passed_row x answers.Have = Success (Have (suc x.preceding) 0) (passed_acked w k false)
  passed_row x answers.Have_end = Success (Have_end (suc x.preceding) 0) (passed_acked w k true)

  -- the holder's disk may fail while the frame is read
  abbrev pub pass_row : Row Told (World Entry)
  pass_row =
      let h = w.base.duty.holder in
      let x = shipment w.base k in
      unless (state_of limits w) (shipping_row w k)
      (MayFail (disk_of h) (read_failed w h)
      (unless (state_of limits w) (receiving_row w x) (passed_row x (answer (journal_at w (other x.sender)) (told_by x)))))
