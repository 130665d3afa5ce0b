use Rattle.std.proofs.Common.{◌≡◌, ℕ, length, subst, arith}
use Rattle.crash_disk.specs.CrashOutcomes.{Torn}
use Rattle.crash_disk.specs.Moments.{EachMoment}
use Rattle.duty_register.proofs.formatting.format_duty.Goals as goal

pub returns-clause-moments : goal.returns-clause-moments
returns-clause-moments g c image synced =
    let long : length c.first_block.result ≡ 32 = omega (arith, c.first_block.type_inv) in
    subst (λ (n : ℕ). EachMoment (g.D.Disk.state c.args.disk.now) (g.D.Disk.state c.format.new.disk) (Torn 0 n image)) long (c.format.ensures.moments image synced)
