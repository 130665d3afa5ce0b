use Rattle.std.proofs.Common.{sym, ◌∙◌}
use Rattle.command_desk.proofs.EntriesWritten.{write_done, write_refused_switches, write_row_refused, write_switched}
use Rattle.command_desk.proofs.desk.Desk.write_command.Goals as goal

pub returns-in-Some-clause-leads : goal.returns-in-Some-clause-leads
returns-in-Some-clause-leads g c = write_row_refused g.D.Disk.state c.args.self.now c.args.n c.in-Some.refusal (sym c.write_refusal.ensures ∙ c.in-Some.is)

pub returns-in-Some-clause-switches : goal.returns-in-Some-clause-switches
returns-in-Some-clause-switches g c = write_refused_switches g.D.Disk.state c.args.self.now c.args.n c.in-Some.refusal (sym c.write_refusal.ensures ∙ c.in-Some.is)

pub write_next-requires : goal.write_next-requires
write_next-requires g c = sym c.write_refusal.ensures ∙ c.in_default.is

pub returns-clause-leads : goal.returns-clause-leads
returns-clause-leads g c = write_done g.D.Disk.state c.args.self.now c.args.n c.write_next.new.self c.write_next.result c.write_next.ensures.leads

pub returns-clause-switches : goal.returns-clause-switches
returns-clause-switches g c =
    write_switched g.D.Disk.state c.args.self.now c.args.n c.write_next.new.self (sym c.write_refusal.ensures ∙ c.in_default.is) c.write_next.result c.write_next.ensures.switches
