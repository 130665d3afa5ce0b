use Rattle.std.proofs.Common.{◌≡◌, ◌+◌, ◌-◌, ◌/◌, length, ◌∙◌, false, true, sym, ap, Some, option_map, arith}
use Rattle.std.proofs.lemmas.Grind.{common_steps}
use Rattle.batch_frame.specs.declared.fault.FrameFault.TheVariants as faults
use Rattle.batch_frame.specs.CarrierFile.{piece_size}
use Rattle.batch_frame.specs.FrameFault.{is_followed, least_failing, separator_fault}
use Rattle.batch_frame.proofs.Faults.{least_next, least_here}
use Rattle.batch_frame.proofs.framing.check_separators.Goals as goal

pub returns-then-not-is_followed : goal.returns-then-not-is_followed
unfolding separator_fault
returns-then-not-is_followed c =
    let s = c.args.separator in
    let bytes = c.args.bytes.now in
    let test = is_followed s bytes in
    let i = c.loop-i.i in
    let count = length bytes / c.piece_size.result in
    let fails : test (i + 1) ≡ false = grind (arith, common_steps) in
    let first : least_failing test 1 count ≡ Some (i + 1) = c.loop-i.invariant ∙ least_here test (i + 1) _ (count - (i + 1)) (omega arith) fails in
    ap (λ t. option_map faults.Separator (least_failing (is_followed t bytes) 1 (length bytes / piece_size t))) (sym c.requires.same)
    ∙ ap (λ size. option_map faults.Separator (least_failing test 1 (length bytes / size))) (sym c.piece_size.ensures.value)
    ∙ ap (option_map faults.Separator) first

pub loop-i-preserved : goal.loop-i-preserved
loop-i-preserved c =
    let test = is_followed c.args.separator c.args.bytes.now in
    let i = c.loop-i.i in
    let count = length c.args.bytes.now / c.piece_size.result in
    let passes : test (i + 1) ≡ true = grind (arith, common_steps) in
    c.loop-i.invariant ∙ least_next test (i + 1) _ (count - (i + 1)) (omega arith) passes
