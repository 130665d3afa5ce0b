use Rattle.office_run.proofs.Taking.{stops_after}
use Rattle.office_run.proofs.input.read_all.Goals as goal

pub returns-in-Err-clause-fault : goal.returns-in-Err-clause-fault
returns-in-Err-clause-fault g c =
    stops_after g.S.Source.left g.S.Source.faults c.args.source.now c.loop.source c.take_piece.new.source c.loop.bytes.items c.in-Err.fault
    c.loop.invariant.taken c.loop.invariant.small c.loop.invariant.later c.in-Err.ensures.fault
