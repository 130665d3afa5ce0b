use Rattle.std.proofs.Common.{◌≡◌, ◌≤◌, ◌-◌, ◌+◌, length}
use Rattle.crash_disk.specs.CrashOutcomes.{Stays}
use Rattle.commit_log.specs.LogImage.{frame_place}
use Rattle.commit_log.specs.Opening.{SoFar}
use Rattle.commit_log.specs.Pieces.{Buffers}
use Rattle.commit_log.proofs.opening.read_frames.Given as goal

abbrev pub invariant-loop-next : goal.invariant-loop-next
invariant-loop-next g l = record {
  stays : Stays (g.D.Disk.state l.fn.disk) (g.D.Disk.state l.disk);
  faults : (g.D.Disk.state l.fn.disk).faults ≤ (g.D.Disk.state l.disk).faults;
  within : l.count ≤ l.fn.limit;
  room : l.fn.limit ≤ g.R.BodyReader.room l.reader + l.count;
  capacity : g.R.BodyReader.capacity l.reader ≡ g.R.BodyReader.capacity l.fn.reader;
  buffer : length l.buffer ≡ length l.fn.buffer;
  buffers : Buffers (g.D.Disk.state l.disk) (frame_place l.fn.body_len (l.count + 1)) l.piece l.buffer;
  so_far : SoFar g.R.BodyReader.is_body (g.R.BodyReader.holds l.reader) l.fn.body_len l.fn.first.next l.count l.next (g.D.Disk.state l.fn.disk);
}

abbrev pub decreases-loop-next : goal.decreases-loop-next
decreases-loop-next g l = l.fn.limit - l.count
