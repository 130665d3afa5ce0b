use Rattle.std.proofs.Common.{true, length, sym, subst}
use Rattle.crash_disk.specs.CrashOutcomes.{Writes}
use Rattle.crash_disk.specs.MemoryDisk.{MemoryState, state_of, has_room}
use Rattle.crash_disk.proofs.CallLaws.{write_where}
use Rattle.crash_disk.proofs.memory_disk.MemDiskDisk.write_at.Goals as goal

pub returns-clause-writes : goal.returns-clause-writes
returns-clause-writes c =
    let s = c.args.self.now in
    let piece = c.args.bytes.now in
    subst (λ (after : MemoryState). Writes c.args.at (length piece) (state_of s) (state_of after)) (sym c.note_write.ensures) (write_where (has_room s (length piece)) true s.start s.calls c.args.at piece s.faults s.faults)
