use Rattle.std.proofs.Common.{rules, ap, sym, ◌∙◌}
use Rattle.locks.specs.SlotRule.{told}
use Rattle.locks.proofs.SlotSteps.{gives_it, some_one}
use Rattle.locks.proofs.HeldValues.{held_is}
use Rattle.locks.proofs.shared_lock.SharedLockLock.leave.Goals as goal

pub store-requires : goal.store-requires
store-requires g c =
    let held = held_is c.args.self.now.seat.me.1 c.requires.entered in
    let is = some_one (sym (ap told held.1) ∙ c.requires.board.1) in
    (search rules, search rules, gives_it g.T.OfBoard.board _ _ _ _ held.0 (search rules) held.1 (ap g.T.OfBoard.board is ∙ (c.requires.board.2 ∙ ap (λ name. name.board) (sym c.guarded.view_is))))
