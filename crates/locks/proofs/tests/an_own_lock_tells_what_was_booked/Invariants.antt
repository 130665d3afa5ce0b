use Rattle.std.proofs.Common.{◌∷◌, []}
use Rattle.locks.proofs.tests.an_own_lock_tells_what_was_booked.Given as goal

-- the entry
abbrev pub ghosts-book_under : goal.ghosts-book_under
ghosts-book_under g a = record { entries = 7 ∷ [] }
