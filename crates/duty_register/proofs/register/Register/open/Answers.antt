use Rattle.std.proofs.Common.{◌-◌, length, refl, sym, ap, subst, ◌∙◌, arith}
use Rattle.duty_register.specs.OpenRegister.{Refused}
use Rattle.duty_register.proofs.Represented.{counts, shown_duties, refused, length-first_block}
use Rattle.duty_register.proofs.register.Register.open.Goals as goal

pub invariant_of-result-clause-body_len : goal.invariant_of-result-clause-body_len
invariant_of-result-clause-body_len g c = c.in-Ok.ensures.answer.long ∙ ap length c.first_block-block.ensures.head ∙ length-first_block

pub invariant_of-result-clause-counted : goal.invariant_of-result-clause-counted
invariant_of-result-clause-counted g c usable =
    counts g.D.Disk.state c.args.disk (c.args.last_epoch - 1) _ c.open.new.reader.duty c.first_block-block.ensures.head c.in-Ok.log c.in-Ok.ensures.answer

pub returns-in-Ok : goal.returns-in-Ok
returns-in-Ok g c =
    let state = g.D.Disk.state in
    let found = c.in-Ok.ensures.answer in
    let duty = c.open.new.reader.duty in
    let count = counts state c.args.disk (c.args.last_epoch - 1) _ duty c.first_block-block.ensures.head c.in-Ok.log found in
    record {
      stays = found.stays;
      faults = found.faults;
      limited = omega (arith, found.limited, c.requires);
      counted = omega (arith, count);
      within = omega (arith, count, found.within, c.requires);
      usable = found.usable;
      shown = λ image told.
          let shown = shown_duties state c.args.disk (c.args.last_epoch - 1) _ duty c.first_block-block.ensures.head c.in-Ok.log found image told in
          (shown.duties, shown.stands, record { kept = shown.kept; known = shown.known });
    }

pub returns-in-Err : goal.returns-in-Err
returns-in-Err g c =
    let state = g.D.Disk.state in
    let found = c.in-Err.ensures.answer in
    let cause = refused c.args.last_epoch (c.args.last_epoch - 1) _ (state c.args.disk) (state c.in-Err.disk) c.in-Err.fault refl c.first_block-block.ensures.head found.cause in
    record {
      stays = found.stays;
      faults = found.faults;
      cause = subst (Refused c.args.last_epoch (state c.args.disk) (state c.in-Err.disk)) (sym c.refusal.ensures) cause;
    }
