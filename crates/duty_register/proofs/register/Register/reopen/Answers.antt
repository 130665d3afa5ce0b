use Rattle.std.proofs.Common.{◌≡◌, ◌+◌, ◌-◌, refl, sym, subst, arith}
use Rattle.commit_log.specs.OpenLog as log
use Rattle.duty_register.specs.OpenRegister.{Refused}
use Rattle.duty_register.proofs.Represented.{counts, shown_duties, refused}
use Rattle.duty_register.proofs.register.Register.reopen.Goals as goal

pub invariant_of-self-clause-counted : goal.invariant_of-self-clause-counted
invariant_of-self-clause-counted g c usable =
    let old = c.args.self.now in
    counts g.D.Disk.state (log.disk_of old.log) (log.limit_of old.log) _ c.reopen.new.reader.duty c.first_block-block.ensures.head c.reopen.new.self c.in-Ok.ensures.answer

pub returns-in-Ok-clause-answer : goal.returns-in-Ok-clause-answer
returns-in-Ok-clause-answer g c =
    let state = g.D.Disk.state in
    let old = c.args.self.now in
    let found = c.in-Ok.ensures.answer in
    let disk = log.disk_of old.log in
    let limit = log.limit_of old.log in
    let duty = c.reopen.new.reader.duty in
    let count = counts state disk limit _ duty c.first_block-block.ensures.head c.reopen.new.self found in
    record {
      stays = found.stays;
      faults = found.faults;
      limited = omega (arith, found.limited);
      counted = omega (arith, count);
      within = omega (arith, count, found.within);
      usable = found.usable;
      shown = λ image told.
          let shown = shown_duties state disk limit _ duty c.first_block-block.ensures.head c.reopen.new.self found image told in
          (shown.duties, shown.stands, record { kept = shown.kept; known = shown.known });
    }

pub returns-in-Err-clause-answer : goal.returns-in-Err-clause-answer
returns-in-Err-clause-answer g c =
    let state = g.D.Disk.state in
    let old = c.args.self.now in
    let found = c.in-Err.ensures.answer in
    let before = state (log.disk_of old.log) in
    let after = state (log.disk_of c.reopen.new.self) in
    let limit = log.limit_of old.log in
    let less : limit ≡ limit + 1 - 1 = omega arith in
    let cause = refused (limit + 1) limit _ before after c.in-Err.fault less c.first_block-block.ensures.head found.cause in (
      record {
        stays = found.stays;
        faults = found.faults;
        cause = subst (Refused (limit + 1) before after) (sym c.refusal.ensures) cause;
      },
      refl,
    )
