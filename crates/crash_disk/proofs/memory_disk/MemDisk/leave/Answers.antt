use Rattle.std.proofs.Common.{length, sym, ap, ◌∙◌, arith}
use Rattle.crash_disk.specs.CallRecord.{content}
use Rattle.crash_disk.specs.CrashImages.{up_to_sync, since_sync, filled}
use Rattle.crash_disk.specs.MemoryDisk.{MemoryState}
use Rattle.crash_disk.proofs.Images.{as_long}
use Rattle.crash_disk.proofs.memory_disk.MemDisk.leave.Goals as goal

pub fill_unsynced-requires : goal.fill_unsynced-requires
fill_unsynced-requires c =
    let m = c.self.inside in
    let before = c.leave_synced-in-Fill.ensures.image ∙ ap (λ (s : MemoryState). content s.start (up_to_sync s.calls)) (sym c.self.view_is) in
    omega (
      arith,
      ap (λ l. length (filled c.in-Fill.byte l (since_sync m.log.calls))) before,
      as_long c.in-Fill.byte m.start.items m.log.calls,
      ap length c.self.invariant.0,
      c.self.invariant.1,
      ap (λ (s : MemoryState). s.capacity) c.self.view_is,
      c.leave_synced-in-Fill.ensures.room,
    )

pub returns-in-Fill-clause-fits : goal.returns-in-Fill-clause-fits
returns-in-Fill-clause-fits c =
    let m = c.self.inside in
    let before = c.leave_synced-in-Fill.ensures.image ∙ ap (λ (s : MemoryState). content s.start (up_to_sync s.calls)) (sym c.self.view_is) in
    omega (
      arith,
      ap length c.fill_unsynced.ensures.bytes,
      ap (λ l. length (filled c.in-Fill.byte l (since_sync m.log.calls))) before,
      as_long c.in-Fill.byte m.start.items m.log.calls,
      ap length c.self.invariant.0,
      c.self.invariant.1,
      ap (λ (s : MemoryState). s.capacity) c.self.view_is,
    )
