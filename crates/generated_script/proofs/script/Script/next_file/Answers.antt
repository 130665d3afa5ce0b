use Rattle.std.proofs.Common.{◌+◌, ◌-◌, ◌≤◌, length, ap, subst, arith}
use Rattle.generated_script.specs.Making.{Making}
use Rattle.generated_script.specs.GeneratedScript.{files_for}
use Rattle.generated_script.specs.declared.script.TheConstants.{MOST_RECORDS}
use Rattle.generated_script.proofs.Commands.{file_is}
use Rattle.generated_script.proofs.Lines.{length-file_of}
use Rattle.generated_script.proofs.script.Script.next_file.Goals as goal

pub returns-clause-limit : goal.returns-clause-limit
returns-clause-limit c =
    let script = c.self.inside in
    let before = c.records_in-before.result in
    let last = c.records_in-last.result in
    let len = length-file_of script.draws.seed (script.made + 1) before (last - before) (omega arith) (omega arith) in
    omega (arith, ap length c.in_ok-bytes.ensures.text, len)

pub returns-clause-lawful : goal.returns-clause-lawful
returns-clause-lawful c =
    let script = c.args.self.now in
    let P : Making → Type 0 = λ m. m.count ≤ MOST_RECORDS in
    let most : script.count ≤ MOST_RECORDS = subst P c.self.view_is c.self.invariant.most in
    let next : script.made + 1 ≤ files_for script.count = omega (arith, c.requires) in
    file_is script.seed script.count (script.made + 1) most next
