use Rattle.std.proofs.Common.{◌≡◌, ◌+◌, map, refl, ap, ◌∙◌, arith}
use Rattle.ali_base.specs.Duties.{next_duty}
use Rattle.commit_log.specs.OpenLog as log
use Rattle.duty_register.specs.DutyBytes.{body, is_body}
use Rattle.duty_register.specs.DutyImage.{first_block}
use Rattle.duty_register.specs.OpenRegister.{duty_of}
use Rattle.duty_register.proofs.DutiesOfBytes.{is_body-body}
use Rattle.duty_register.proofs.Represented.{changes, logged, kept_after, moments_of}
use Rattle.duty_register.proofs.register.Register.change.Goals as goal

pub append-requires-clause-lawful : goal.append-requires-clause-lawful
append-requires-clause-lawful g c =
    let old = c.args.self.now in
    let duty = next_duty (duty_of old) c.args.holder c.args.mode c.args.floor in
    let next : duty.epoch ≡ (log.count_of old.log + 1) + 1 = omega (arith, old.counted c.requires.usable) in
    ap (is_body (log.count_of old.log + 1)) c.duty_block.ensures.body ∙ is_body-body (log.count_of old.log + 1) duty c.duty_block.ensures.lawful next

pub returns-in-Ok-clause-stored : goal.returns-in-Ok-clause-stored
returns-in-Ok-clause-stored g c duties shown =
    let state = g.D.Disk.state in
    let old = c.args.self.now in
    let duty = next_duty (duty_of old) c.args.holder c.args.mode c.args.floor in
    let after = c.in-Ok.ensures.stored first_block (map body (changes state old duties c.requires.usable shown)) (logged state old duties c.requires.usable shown) in
    record {
      kept = kept_after state old duties c.requires.usable shown duty c.duty_block.ensures.lawful refl _ c.duty_block.ensures.body _ after.kept;
      known = (duties, refl);
    }

pub returns-in-Ok-clause-moments : goal.returns-in-Ok-clause-moments
returns-in-Ok-clause-moments g c duties shown =
    let state = g.D.Disk.state in
    let old = c.args.self.now in
    let duty = next_duty (duty_of old) c.args.holder c.args.mode c.args.floor in
    moments_of state old duties c.requires.usable shown duty c.duty_block.ensures.lawful refl _ c.duty_block.ensures.body _
    (c.in-Ok.ensures.moments first_block (map body (changes state old duties c.requires.usable shown)) (logged state old duties c.requires.usable shown))

pub returns-in-Err-DiskFault-clause-moments : goal.returns-in-Err-DiskFault-clause-moments
returns-in-Err-DiskFault-clause-moments g c duties shown =
    let state = g.D.Disk.state in
    let old = c.args.self.now in
    let duty = next_duty (duty_of old) c.args.holder c.args.mode c.args.floor in
    moments_of state old duties c.requires.usable shown duty c.duty_block.ensures.lawful refl _ c.duty_block.ensures.body _
    (c.in-Err-DiskFault.ensures.moments first_block (map body (changes state old duties c.requires.usable shown)) (logged state old duties c.requires.usable shown))
