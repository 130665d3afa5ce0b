use Rattle.pair_world.proofs.WorkedRuns.{stored_then_taken_runs}
use Rattle.pair_world.proofs.worked.takeovers_book_what_is_stored.Goals as goal

pub returns : goal.returns
returns g c e1 e2 e3 e4 d1 d2 d3 d4 = stored_then_taken_runs g.L.Entries.due g.L.Entries.form e1 e2 e3 e4 d1 d2 d3 d4
