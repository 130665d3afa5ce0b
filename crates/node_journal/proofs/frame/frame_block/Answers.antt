use Rattle.std.proofs.Common.{◌≡◌, ◌++◌, ◌∙◌, ap, arith}
use Rattle.ali_base.specs.Fronts.{number_bytes, zero_filled}
use Rattle.commit_log.specs.LogState.{body_of}
use Rattle.node_journal.specs.FrameBytes.{body}
use Rattle.node_journal.proofs.Blocks.{body_of-filled}
use Rattle.node_journal.proofs.FramesOfBytes.{length-body}
use Rattle.node_journal.proofs.frame.frame_block.Goals as goal

pub returns-clause-body : goal.returns-clause-body
unfolding body
returns-clause-body c =
    let fields = body c.args.number (record { entry = c.args.entry.now; epoch = c.args.epoch }) in
    let n = number_bytes c.args.number in
    let two = c.push_number-2.ensures.bytes ∙ ap (λ z. z ++ number_bytes c.args.epoch) (c.push_number.ensures.bytes ∙ ap (λ z. z ++ n) c.new-block.ensures) in
    let pushed : c.push.new.self ≡ fields = c.push.ensures.bytes ∙ ap (λ z. z ++ c.bytes.result) two ∙ ap (λ z. n ++ number_bytes c.args.epoch ++ z) c.bytes.ensures.bytes in
    ap body_of (c.whole.ensures ∙ ap (zero_filled 640) pushed)
    ∙ body_of-filled 640 fields (omega (arith, length-body c.args.number (record { entry = c.args.entry.now; epoch = c.args.epoch }) c.bytes.ensures.lawful))
