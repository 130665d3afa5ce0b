use Rattle.pair_core.proofs.PairDuty.{may_follow}
use Rattle.pair_core.proofs.pair.Pair.change.Goals as goal

pub write_duty-requires-clause-next : goal.write_duty-requires-clause-next
write_duty-requires-clause-next g c = may_follow c.args.self.now c.args.holder c.args.mode c.args.count c.requires.up c.requires.may
