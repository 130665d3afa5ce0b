use Rattle.std.proofs.Common.{arith}
use Rattle.crash_disk.specs.declared.calls.Call.TheVariants.{Looked}
use Rattle.crash_disk.proofs.Replays.{fill_room}
use Rattle.crash_disk.proofs.calls.fill.Goals as goal

pub fill_call-requires-clause-room : goal.fill_call-requires-clause-room
fill_call-requires-clause-room c =
    let fits = fill_room c.args.pieces.now c.args.calls.now c.loop-call.call-index Looked c.loop-call-test.true c.args.byte c.args.bytes.now.items in
    rw c.loop-call.invariant.bytes (omega (arith, fits, c.requires.room, c.loop-call.invariant.room))
