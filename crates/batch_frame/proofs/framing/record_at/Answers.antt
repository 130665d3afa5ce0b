use Rattle.std.proofs.Common.{◌≡◌, ◌*◌, ◌-◌, length, take, drop, ap, ◌∙◌, arith}
use Rattle.std.proofs.lemmas.List.{take_all, length-drop}
use Rattle.batch_frame.proofs.framing.record_at.Goals as goal

pub returns : goal.returns
returns c =
    let bytes = c.args.bytes.now in
    let at = c.piece_size.result * c.args.place in
    let rest : take (length bytes - at) (drop at bytes) ≡ drop at bytes = take_all _ _ (omega (arith, length-drop at bytes)) in
    c.in-Some.ensures.cases.same ∙ ap (take 512) rest ∙ ap (λ size. take 512 (drop (size * c.args.place) bytes)) c.piece_size.ensures.value
