use Rattle.std.proofs.Common.{◌≡◌, ◌≤◌, take, vec_capacity}
use Rattle.crash_disk.specs.CallRecord.{content}
use Rattle.crash_disk.specs.Recording.{recorded}
use Rattle.crash_disk.proofs.calls.replay.Given as goal

abbrev pub invariant-loop-call : goal.invariant-loop-call
invariant-loop-call l = record {
  bytes : l.bytes.items ≡ content l.fn.bytes.items (recorded l.pieces (take l.call-index l.calls));
  room : vec_capacity l.fn.bytes ≤ vec_capacity l.bytes;
}
