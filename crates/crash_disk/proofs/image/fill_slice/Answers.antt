use Rattle.std.proofs.Common.{◌≡◌, ◌+◌, ◌-◌, ◌++◌, min, length, take, drop, replicate, sym, ◌∙◌, ap, arith, append_assoc, length-take, length-drop}
use Rattle.std.proofs.lemmas.List.{drop-drop, drop_min}
use Rattle.crash_disk.proofs.image.fill_slice.Goals as goal

pub returns-then-at-bytes-clause-filled : goal.returns-then-at-bytes-clause-filled
returns-then-at-bytes-clause-filled c =
    let f = c.args.bytes.now in
    let at = c.args.at in
    let n = c.args.count in
    let reach : at + c.min.result - at ≡ min n (length (drop at f)) = omega (arith, c.min.ensures, length-drop at f) in
    let count : length (take (at + c.min.result - at) (drop at f)) ≡ min n (length f - at) = omega (arith, c.min.ensures, length-take (at + c.min.result - at) (drop at f), length-drop at f) in
    let filled : c.fill.new.self ≡ replicate (min n (length f - at)) c.args.byte = c.fill.ensures.after (λ y is. is) ∙ ap (λ k. replicate k c.args.byte) count in
    let behind : drop (at + c.min.result - at) (drop at f) ≡ drop (at + n) f = ap (λ k. drop k (drop at f)) reach ∙ drop_min n (drop at f) ∙ drop-drop n at f in
    (λ i. take at f ++ (filled i ++ behind i)) ∙ sym (append_assoc (take at f) (replicate (min n (length f - at)) c.args.byte) (drop (at + n) f))
