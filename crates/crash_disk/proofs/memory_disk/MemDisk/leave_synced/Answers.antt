use Rattle.std.proofs.Common.{◌≡◌, ◌++◌, length, ap, ◌∙◌, arith}
use Rattle.crash_disk.specs.CallRecord.{content}
use Rattle.crash_disk.specs.CrashImages.{up_to_sync}
use Rattle.crash_disk.specs.MemoryDisk.{MemoryState}
use Rattle.crash_disk.proofs.Images.{start_no_longer, synced_no_longer}
use Rattle.crash_disk.proofs.memory_disk.MemDisk.leave_synced.Goals as goal

pub append-requires : goal.append-requires
append-requires c =
    let m = c.self.inside in
    omega (
      arith,
      start_no_longer m.start.items m.log.calls,
      ap length c.self.invariant.0,
      c.self.invariant.1,
      ap (λ (s : MemoryState). s.capacity) c.self.view_is,
      ap length c.requires.empty,
      ap length c.deref.ensures.value,
      c.requires.room,
    )

pub returns-clause-fits : goal.returns-clause-fits
returns-clause-fits c =
    let m = c.self.inside in
    let image : c.replay_synced.new.bytes.items ≡ content m.start.items (up_to_sync m.log.calls) =
    c.replay_synced.ensures.bytes ∙ ap (λ l. content l (up_to_sync m.log.calls)) (c.append.ensures.bytes ∙ (λ i. c.requires.empty i ++ c.deref.ensures.value i)) in
    omega (
      arith,
      ap length image,
      synced_no_longer m.start.items m.log.calls,
      ap length c.self.invariant.0,
      c.self.invariant.1,
      ap (λ (s : MemoryState). s.capacity) c.self.view_is,
    )
