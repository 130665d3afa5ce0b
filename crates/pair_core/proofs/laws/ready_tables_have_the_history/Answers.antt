use Rattle.pair_core.proofs.PairLearned.{ready_table}
use Rattle.pair_core.proofs.laws.ready_tables_have_the_history.Goals as goal

pub returns : goal.returns
returns g c limits pair w n shown lawful up duty all = ready_table g.D.Disk.state limits pair w n shown up lawful duty all
