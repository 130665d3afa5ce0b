use Rattle.std.proofs.Common.{◌≤◌, ◌*◌, ◌^◌, ◌-◌, Ok}
use Rattle.generated_script.specs.GeneratedScript.{streets}
use Rattle.office_run.specs.Carrying.{Fills}
use Rattle.office_run.proofs.generate.fill_streets.Given as goal

abbrev pub invariant-loop-street : goal.invariant-loop-street
invariant-loop-street g l = record {
  fills : Fills g.D.Disk.state l.fn.desk l.desk (streets (l.street - 1)) l.fn.tally l.tally (Ok tt);
  low : 1 ≤ l.street;
  room : l.tally.refused ≤ 2 ^ 33 * (l.street - 1);
}
