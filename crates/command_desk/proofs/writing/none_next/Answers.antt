use Rattle.batch_desk.proofs.Steps.{refused}
use Rattle.command_desk.proofs.writing.none_next.Goals as goal

pub cycle_fault-requires : goal.cycle_fault-requires
cycle_fault-requires c =
    let why = refused c.args.office.now.state c.args.job.now c.args.fault c.in_default.not-Complete c.requires in
    (why.0, why.2)
