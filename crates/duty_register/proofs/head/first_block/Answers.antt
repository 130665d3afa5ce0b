use Rattle.std.proofs.Common.{◌≡◌, ◌++◌, ◌-◌, length, take, ◌∙◌, ap, arith}
use Rattle.std.specs.Prelude.{codes}
use Rattle.ali_base.specs.Fronts.{zero_filled}
use Rattle.duty_register.specs.DutyImage.{first_block}
use Rattle.duty_register.proofs.head.first_block.Goals as goal

pub returns-clause-head : goal.returns-clause-head
unfolding first_block
returns-clause-head c =
    let one = c.push.ensures.bytes ∙ ap (λ z. z ++ codes "ALI OFFICE DUTY1") c.new-block.ensures in
    ap (take 31) (c.whole.ensures ∙ ap (zero_filled 32) one)

pub returns-clause-body : goal.returns-clause-body
returns-clause-body c =
    let long : length c.whole.result - 1 ≡ 31 = omega (arith, c.whole.type_inv) in
    ap (λ n. take n c.whole.result) long ∙ returns-clause-head c
