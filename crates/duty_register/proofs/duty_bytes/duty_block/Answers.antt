use Rattle.std.proofs.Common.{◌≡◌, ℕ, [], ◌∷◌, ◌++◌, refl, ◌∙◌, ap}
use Rattle.ali_base.specs.Fronts.{number_bytes, zero_filled}
use Rattle.ali_base.specs.NodeNames.{node_text}
use Rattle.ali_base.specs.declared.names.NodeName.{NodeName}
use Rattle.ali_base.specs.declared.names.NodeName.TheVariants.{A, B}
use Rattle.commit_log.specs.LogState.{body_of}
use Rattle.duty_register.specs.DutyBytes.{body, mode_letter}
use Rattle.duty_register.proofs.duty_bytes.duty_block.Goals as goal

-- the fields in a block of 32 bytes
block_is : (epoch : ℕ) (holder : NodeName) (mode floor : ℕ)
    → body_of (zero_filled 32 (((number_bytes epoch ++ node_text holder) ++ (mode ∷ [])) ++ number_bytes floor)) ≡ zero_filled 31 (number_bytes epoch ++ node_text holder ++ mode ∷ number_bytes floor)
block_is epoch A mode floor = refl
block_is epoch B mode floor = refl

pub returns-clause-body : goal.returns-clause-body
unfolding body
returns-clause-body c =
    let a = number_bytes c.args.duty.epoch in
    let n = node_text c.args.duty.holder in
    let m = mode_letter c.args.duty.mode in
    let one = c.push_number.ensures.bytes ∙ ap (λ z. z ++ a) c.new-block.ensures in
    let two = c.push.ensures.bytes ∙ ap (λ z. z ++ c.text.result) one ∙ ap (λ z. a ++ z) c.text.ensures in
    let three = c.push-2.ensures.bytes ∙ ap (λ z. z ++ (c.mode_letter.result ∷ [])) two ∙ ap (λ z. (a ++ n) ++ (z ∷ [])) c.mode_letter.ensures in
    let four = c.push_number-2.ensures.bytes ∙ ap (λ z. z ++ number_bytes c.args.duty.floor) three in
    ap body_of (c.whole.ensures ∙ ap (zero_filled 32) four) ∙ block_is c.args.duty.epoch c.args.duty.holder m c.args.duty.floor
