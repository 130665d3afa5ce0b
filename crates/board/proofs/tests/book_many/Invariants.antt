use Rattle.std.proofs.Common.{◌≡◌, ◌+◌, ◌∷◌, [], length}
use Rattle.board.proofs.tests.book_many.Given as goal

-- the entry is the number of those before it
abbrev pub ghosts-book : goal.ghosts-book
ghosts-book a = record { entries = length a.main.now.list ∷ [] }

abbrev pub invariant-loop : goal.invariant-loop
invariant-loop l = (l.main.board ≡ l.board) × (l.main.duty ≡ l.initial.main.duty) × (length l.main.list ≡ length l.initial.main.list + l.counter)
