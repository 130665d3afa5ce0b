use Rattle.std.proofs.Common.{◌≡◌, length}
use Rattle.address_check.specs.Placement.{zeros_cut}
use Rattle.address_check.proofs.esn_columns.zeros_cut.Given as goal

abbrev pub invariant-loop-rest : goal.invariant-loop-rest
invariant-loop-rest l = zeros_cut l.rest ≡ zeros_cut l.text

abbrev pub decreases-loop-rest : goal.decreases-loop-rest
decreases-loop-rest l = length l.rest
