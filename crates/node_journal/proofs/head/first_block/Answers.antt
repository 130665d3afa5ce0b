use Rattle.std.proofs.Common.{◌≡◌, ◌++◌, ◌-◌, length, take, refl, ◌∙◌, ap, arith}
use Rattle.std.specs.Prelude.{codes}
use Rattle.ali_base.specs.Fronts.{zero_filled}
use Rattle.ali_base.specs.NodeNames.{node_text}
use Rattle.ali_base.specs.declared.names.NodeName.{NodeName}
use Rattle.ali_base.specs.declared.names.NodeName.TheVariants.{A, B}
use Rattle.node_journal.specs.JournalImage.{first_block}
use Rattle.node_journal.proofs.head.first_block.Goals as goal

front_of_block : (name : NodeName) → take 639 (zero_filled 640 (codes "ALI OFFICE JRNL1" ++ node_text name)) ≡ first_block name
unfolding first_block
front_of_block A = refl
front_of_block B = refl

pub returns-clause-head : goal.returns-clause-head
returns-clause-head c =
    let one = c.push.ensures.bytes ∙ ap (λ z. z ++ codes "ALI OFFICE JRNL1") c.new-block.ensures in
    let two : c.push-2.new.self ≡ codes "ALI OFFICE JRNL1" ++ node_text c.args.name =
    c.push-2.ensures.bytes ∙ ap (λ z. z ++ c.text.result) one ∙ ap (λ l. codes "ALI OFFICE JRNL1" ++ l) c.text.ensures in
    ap (take 639) (c.whole.ensures ∙ ap (zero_filled 640) two) ∙ front_of_block c.args.name

pub returns-clause-body : goal.returns-clause-body
returns-clause-body c =
    let long : length c.whole.result - 1 ≡ 639 = omega (arith, c.whole.type_inv) in
    ap (λ n. take n c.whole.result) long ∙ returns-clause-head c
