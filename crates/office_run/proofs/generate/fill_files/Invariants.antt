use Rattle.std.proofs.Common.{◌≡◌, ◌≤◌, ◌+◌, ◌*◌, ◌^◌, Ok}
use Rattle.generated_script.specs.GeneratedScript.{files, files_for}
use Rattle.office_run.specs.Carrying.{Fills}
use Rattle.office_run.proofs.generate.fill_files.Given as goal

abbrev pub invariant-loop : goal.invariant-loop
invariant-loop g l = record {
  fills : Fills g.D.Disk.state l.fn.desk l.desk (files l.fn.script.seed l.fn.script.count l.counter) l.fn.tally l.tally (Ok tt);
  seed : l.script.seed ≡ l.fn.script.seed;
  count : l.script.count ≡ l.fn.script.count;
  made : l.script.made ≡ l.counter;
  end : l.end ≡ files_for l.fn.script.count;
  few : l.counter ≤ l.end;
  room : l.tally.refused ≤ 2 ^ 40 + 2 ^ 34 * l.counter;
}
