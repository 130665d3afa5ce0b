use Rattle.std.proofs.Common.{◌≡◌, ◌∷◌, [], false}
use Rattle.locks.specs.SlotRule.{is_held}
use Rattle.locks.proofs.tests.book_many.Given as goal

-- the entry
abbrev pub ghosts-book_under : goal.ghosts-book_under
ghosts-book_under g a = record { entries = 7 ∷ [] }

abbrev pub invariant-loop : goal.invariant-loop
invariant-loop g l = (l.pass.board ≡ l.hall.board) × (is_held l.lock.seat.me.1 ≡ false) × (l.lock.guarded.now.board ≡ l.hall.board)
