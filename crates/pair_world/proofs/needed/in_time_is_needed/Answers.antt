use Rattle.pair_world.proofs.OtherParts.{early_ack_others}
use Rattle.pair_world.proofs.NeededRuns.{early_ack_loses}
use Rattle.pair_world.proofs.needed.in_time_is_needed.Goals as goal

pub returns-clause-early_ack : goal.returns-clause-early_ack
returns-clause-early_ack g c = early_ack_others g.L.Entries.due

pub returns-clause-early_ack_loses : goal.returns-clause-early_ack_loses
returns-clause-early_ack_loses g c e d = early_ack_loses g.L.Entries.due g.L.Entries.form e d
