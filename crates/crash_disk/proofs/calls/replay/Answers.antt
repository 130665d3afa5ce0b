use Rattle.std.proofs.Common.{arith}
use Rattle.crash_disk.specs.declared.calls.Call.TheVariants.{Looked}
use Rattle.crash_disk.proofs.Replays.{replay_room}
use Rattle.crash_disk.proofs.calls.replay.Goals as goal

pub replay_call-requires-clause-room : goal.replay_call-requires-clause-room
replay_call-requires-clause-room c =
    let fits = replay_room c.args.pieces.now c.args.calls.now c.loop-call.call-index Looked c.loop-call-test.true c.args.bytes.now.items in
    rw c.loop-call.invariant.bytes (omega (arith, fits, c.requires.room, c.loop-call.invariant.room))
