use Rattle.pair_world.proofs.WorkedRuns.{deposed_holder_runs, suffix_cut_runs}
use Rattle.pair_world.proofs.worked.uncommitted_suffixes_are_cut.Goals as goal

pub returns-clause-deposed_holder : goal.returns-clause-deposed_holder
returns-clause-deposed_holder g c e d = deposed_holder_runs g.L.Entries.due g.L.Entries.form e d

pub returns-clause-suffix_cut : goal.returns-clause-suffix_cut
returns-clause-suffix_cut g c e = suffix_cut_runs g.L.Entries.due g.L.Entries.form e
