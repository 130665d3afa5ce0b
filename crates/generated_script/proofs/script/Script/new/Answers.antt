use Rattle.std.proofs.Common.{arith}
use Rattle.generated_script.proofs.DrawnRecords.{state_first}
use Rattle.generated_script.proofs.script.Script.new.Goals as goal

pub invariant_of-result : goal.invariant_of-result
invariant_of-result c = record { most = c.requires.1; files = omega arith; state = state_first c.args.seed _ (omega arith) }
