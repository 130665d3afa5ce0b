-- A step within smaller limits is one within larger limits.
use Rattle.std.proofs.Common.{◌≤◌, inl, inr, List, arith}
use Rattle.ali_base.specs.declared.names.NodeName.{NodeName}
use Rattle.pair_world.specs.World.{Resolved, World}
use Rattle.pair_world.specs.Step.{Event, Write, Ship, Deliver, Drop, Book, Take, Go_alone, Pair_up, Stop, Start, Start_duty, Ask, Outcome, Done, Answered, Refused, Faulted, Halted, Bounds, CanWrite, CanLeavePair, CanPair, WorldStep, Fails, Step}

module _ {E : Type 0} (due : List E → E → Type 0) (small large : Bounds) (frames : small.frames ≤ large.frames) (epochs : small.last_epoch ≤ large.last_epoch) where
  write_larger : (w : Resolved E) (e : E) → CanWrite due small w e → CanWrite due large w e
  write_larger w e g = record { up = g.up; free = g.free; next = g.next; room = (let r = g.room in omega arith) }

  leave_larger : (w : Resolved E) (n : NodeName) → CanLeavePair small w n → CanLeavePair large w n
  leave_larger w n g = record { up = g.up; both = g.both; epochs_left = (let r = g.epochs_left in omega arith) }

  pair_larger : (w : Resolved E) → CanPair small w → CanPair large w
  pair_larger w g = record { up = g.up; alone = g.alone; free = g.free; in_step = g.in_step; epochs_left = (let r = g.epochs_left in omega arith) }

module _ {E Q : Type 0} (due : List E → E → Type 0) (small large : Bounds) (frames : small.frames ≤ large.frames) (epochs : small.last_epoch ≤ large.last_epoch) where
  done_larger : (w v : World E) (event : Event E Q) → WorldStep due small w event v → WorldStep due large w event v
  done_larger w v (Write e) g = (g.0, (write_larger due small large frames epochs w.base e g.1.0, g.1.1), g.2)
  done_larger w v (Ship k) g = g
  done_larger w v (Deliver i) g = g
  done_larger w v (Drop i) g = g
  done_larger w v Book g = g
  done_larger w v (Take n) g = (g.0, (leave_larger due small large frames epochs w.base n g.1.0, g.1.1), g.2)
  done_larger w v Go_alone g = (g.0, (leave_larger due small large frames epochs w.base w.base.duty.holder g.1.0, g.1.1), g.2)
  done_larger w v Pair_up g = (g.0, (pair_larger due small large frames epochs w.base g.1.0, g.1.1), g.2)
  done_larger w v (Stop n) g = g
  done_larger w v (Start n) g = g
  done_larger w v Start_duty g = g
  done_larger w v (Ask n r since) g = absurd g.1

  fails_larger : (w v : World E) (event : Event E Q) → Fails due small w event v → Fails due large w event v
  fails_larger w v (Write e) g = (g.0, elim g.1 [ inl read ↦ inl read | inr wrote ↦ inr (write_larger due small large frames epochs w.base e wrote.0, wrote.1) ])
  fails_larger w v (Ship k) g = g
  fails_larger w v (Deliver i) g = g
  fails_larger w v (Drop i) g = absurd g
  fails_larger w v Book g = g
  fails_larger w v (Take n) g = (g.0, elim g.1 [ inl read ↦ inl read | inr wrote ↦ inr (leave_larger due small large frames epochs w.base n wrote.0, wrote.1) ])
  fails_larger w v Go_alone g = (g.0, leave_larger due small large frames epochs w.base w.base.duty.holder g.1, g.2)
  fails_larger w v Pair_up g = (g.0, pair_larger due small large frames epochs w.base g.1, g.2)
  fails_larger w v (Stop n) g = absurd g
  fails_larger w v (Start n) g = g
  fails_larger w v Start_duty g = g
  fails_larger w v (Ask n r since) g = g

module _ {E Q R : Type 0} (due : List E → E → Type 0) (form : List E → Q → R) (small large : Bounds) (frames : small.frames ≤ large.frames) (epochs : small.last_epoch ≤ large.last_epoch) where
  pub step_larger : (w v : World E) (event : Event E Q) (outcome : Outcome R) → Step due form small w event outcome v → Step due form large w event outcome v
  step_larger w v event Done g = done_larger due small large frames epochs w v event g
  step_larger w v event (Answered reply) g = g
  step_larger w v event Refused g = g
  step_larger w v event Faulted g = fails_larger due small large frames epochs w v event g
  step_larger w v event Halted g = (g.0, (elim g.1 [ inl same ↦ inl same | inr failed ↦ inr (fails_larger due small large frames epochs w g.0 event failed) ]), g.2)
