use Rattle.std.proofs.Common.{◌≡◌, ◌+◌, ◌-◌, ◌∷◌, length, ◌∙◌, ap, arith}
use Rattle.crash_disk.specs.Recording.{RecordState, recorded, with_call}
use Rattle.crash_disk.proofs.RecordedCalls.{recorded_write}
use Rattle.crash_disk.specs.CallRecord.{Wrote}
use Rattle.crash_disk.proofs.record.Record.write.Goals as goal

pub returns : goal.returns
returns c =
    let r = c.self.inside in
    let from : c.len.result ≡ length r.pieces.items = grind arith in
    let calls : recorded c.append.new.bytes.items c.push_reserved.new.self.items ≡ Wrote c.args.at c.args.piece.now c.args.done ∷ recorded r.pieces.items r.calls.items =
    (λ i. recorded (c.append.ensures.bytes i) (c.push_reserved.ensures.items i)) ∙ recorded_write r.pieces.items c.args.piece.now r.calls.items c.args.at c.len.result c.args.done c.self.invariant.3 from in
    ap (λ l. record { calls = l; room = r.room; left = r.left - (32 + length c.args.piece.now) }) calls ∙ ap (λ (s : RecordState). with_call s (length c.args.piece.now) (Wrote c.args.at c.args.piece.now c.args.done)) c.self.view_is
