use Rattle.std.proofs.Common.{ap, subst}
use Rattle.std.specs.Prelude.{is_err}
use Rattle.ali_base.specs.declared.duty.Duty.{Duty}
use Rattle.ali_base.specs.declared.duty.Mode.TheVariants.{Both, Alone}
use Rattle.duty_register.specs.OpenRegister as register
use Rattle.duty_register.specs.OpenRegister.{CrashesBetween}
use Rattle.pair_core.proofs.PairDuty.{failed_change, taken_is, paired_is}
use Rattle.pair_core.proofs.duty_change.change_register.Goals as goal

pub returns-in-Err : goal.returns-in-Err
returns-in-Err g c =
    let state = g.D.Disk.state in
    let old = c.args.register.now in
    let new = c.take.new.self in
    let next = c.requires.next in
    let mode = next.alone c.in-Alone.is in
    record {
      tells = failed_change state old new Both (register.taken (register.duty_of old) c.args.duty.holder c.args.duty.floor) c.take.result c.take.ensures.answer (ap is_err c.in-Err.is) mode next.epochs_left;
      stored = λ list shown. tt;
      moments = subst (λ (d : Duty). CrashesBetween state d old new) (taken_is (register.duty_of old) c.args.duty next.follows c.in-Alone.is) c.take.ensures.moments;
      fixed = c.take.ensures.fixed;
    }

pub returns-in-Err-pair : goal.returns-in-Err-pair
returns-in-Err-pair g c =
    let state = g.D.Disk.state in
    let old = c.args.register.now in
    let new = c.pair.new.self in
    let next = c.requires.next in
    let mode = next.both c.in-Both.is in
    record {
      tells = failed_change state old new Alone (register.paired (register.duty_of old) c.args.duty.floor) c.pair.result c.pair.ensures.answer (ap is_err c.in-Err-pair.is) mode.0 next.epochs_left;
      stored = λ list shown. tt;
      moments = subst (λ (d : Duty). CrashesBetween state d old new) (paired_is (register.duty_of old) c.args.duty next.follows c.in-Both.is mode.1) c.pair.ensures.moments;
      fixed = c.pair.ensures.fixed;
    }
