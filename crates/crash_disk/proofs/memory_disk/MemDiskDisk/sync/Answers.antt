use Rattle.std.proofs.Common.{false, sym, subst}
use Rattle.crash_disk.specs.CrashOutcomes.{Stays}
use Rattle.crash_disk.specs.MemoryDisk.{MemoryState, state_of, has_room}
use Rattle.crash_disk.proofs.CallLaws.{sync_where}
use Rattle.crash_disk.proofs.memory_disk.MemDiskDisk.sync.Goals as goal

pub returns-clause-stays : goal.returns-clause-stays
returns-clause-stays c =
    let s = c.args.self.now in
    subst (λ (after : MemoryState). Stays (state_of s) (state_of after)) (sym c.note_sync.ensures) (sync_where (has_room s 0) false s.start s.calls s.faults s.faults)
