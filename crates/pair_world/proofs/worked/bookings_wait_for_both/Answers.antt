use Rattle.pair_world.proofs.WorkedRuns.{written_in_both_runs, booked_alone_runs, paired_again_runs}
use Rattle.pair_world.proofs.worked.bookings_wait_for_both.Goals as goal

pub returns-clause-written_in_both : goal.returns-clause-written_in_both
returns-clause-written_in_both g c e d = written_in_both_runs g.L.Entries.due g.L.Entries.form e d

pub returns-clause-booked_alone : goal.returns-clause-booked_alone
returns-clause-booked_alone g c e = booked_alone_runs g.L.Entries.due g.L.Entries.form e

pub returns-clause-paired_again : goal.returns-clause-paired_again
returns-clause-paired_again g c e = paired_again_runs g.L.Entries.due g.L.Entries.form e
