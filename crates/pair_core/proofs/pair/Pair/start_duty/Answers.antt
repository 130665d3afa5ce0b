use Rattle.std.proofs.Common.{◌≡◌, ◌∙◌, ℕ, refl, sym, ap, subst, false, Ok, Err, Some}
use Rattle.std.specs.Prelude.{is_none, Option, max}
use Rattle.ali_base.specs.declared.duty.Duty.{Duty}
use Rattle.crash_disk.proofs.Runs.{stays_here}
use Rattle.crash_disk.specs.CrashOutcomes.{Stays}
use Rattle.duty_register.specs.declared.register.Register.{Register}
use Rattle.duty_register.specs.OpenRegister as register
use Rattle.office_entry.specs.declared.entry.Entry.{Entry}
use Rattle.world_rows.specs.WorldSteps.{Comes}
use Rattle.pair_world.specs.World.{World}
use Rattle.world_rows.specs.WorldRows.{start_duty_row}
use Rattle.pair_core.specs.Pair.{Shows, counts_of, disk_at}
use Rattle.ali_base.specs.declared.names.DiskName.TheVariants as disks
use Rattle.pair_core.specs.PairAnswers.{fault_told}
use Rattle.pair_core.specs.PairDuties.{IsRead}
use Rattle.pair_core.specs.declared.faults.PairFault.{PairFault}
use Rattle.pair_core.proofs.PairRegisterStarted.{Images, read_stays, read_journals, entered_journals, start_moments, refused_read, never_another, started_does}
use Rattle.pair_core.proofs.PairBeside.{register_keeps, enter_keeps, nodes_on}
use Rattle.pair_core.proofs.pair.Pair.start_duty.Goals as goal

some_failed : (o : Option Duty) (d : Duty) → o ≡ Some d → is_none o ≡ false
some_failed o d is = ap (λ (f : Option Duty). is_none f) is

pub returns-in-None-clause-moments : goal.returns-in-None-clause-moments
returns-in-None-clause-moments g c limits w shown lawful =
    let p = c.args.self.now in
    start_moments g.D.Disk.state p p (λ k. refl) (stays_here _) limits w shown g.met.D.Disk.sound

pub returns-in-Err-clause-does : goal.returns-in-Err-clause-does
returns-in-Err-clause-does g c limits w shown lawful =
    let state = g.D.Disk.state in
    let p = c.args.self.now in
    let mid = c.read_duty.new.self in
    let images : Images = record { known = c.duties_are_known_from_the_image.ensures; counted = c.duties_are_counted.ensures; not_foreign = c.an_image_is_read_one_way.ensures.not_foreign; not_damaged = c.an_image_is_read_one_way.ensures.not_damaged } in
    let read : IsRead state p mid (Err c.in-Err.fault) = subst (λ r. IsRead state p mid r) c.in-Err.is c.read_duty.ensures in
    subst (λ (f : PairFault). (v : World Entry) × Shows state limits mid v × Comes (counts_of state p) (counts_of state mid) w (λ lasted u. start_duty_row limits u lasted) (fault_told f) v) (sym c.register_fault.ensures)
    (refused_read state limits p w shown mid (some_failed p.failed c.in-Some.failed c.in-Some.is) images g.met.D.Disk.sound lawful c.in-Err.fault read)

pub returns-in-Err-clause-moments : goal.returns-in-Err-clause-moments
returns-in-Err-clause-moments g c limits w shown lawful =
    let state = g.D.Disk.state in
    let p = c.args.self.now in
    let mid = c.read_duty.new.self in
    start_moments state p mid (read_journals state p mid c.read_duty.ensures.beside) (read_stays state p mid c.read_duty.result c.read_duty.ensures) limits w shown g.met.D.Disk.sound

pub returns-then-is_another-clause-does : goal.returns-then-is_another-clause-does
returns-then-is_another-clause-does g c limits w shown lawful =
    let state = g.D.Disk.state in
    let p = c.args.self.now in
    let mid = c.read_duty.new.self in
    let duty = c.duty-duty.result in
    let images : Images = record { known = c.duties_are_known_from_the_image.ensures; counted = c.duties_are_counted.ensures; not_foreign = c.an_image_is_read_one_way.ensures.not_foreign; not_damaged = c.an_image_is_read_one_way.ensures.not_damaged } in
    let read : IsRead state p mid (Ok tt) = subst (λ r. IsRead state p mid r) c.in_default.is c.read_duty.ensures in
    let other = c.is_another.ensures.yes c.if-is_another.true in
    absurd (never_another state limits p w shown mid (some_failed p.failed c.in-Some.failed c.in-Some.is) images g.met.D.Disk.sound read duty (sym c.duty-duty.ensures)
    (λ is. other.0 (sym is ∙ sym read.beside.duty)) (λ is. other.1 (one c.in-Some.failed duty (sym c.in-Some.is ∙ is))))
  where
    one : (failed duty : Duty) → Some failed ≡ Some duty → duty ≡ failed
    one failed duty is = cc

pub returns-then-is_another-clause-moments : goal.returns-then-is_another-clause-moments
returns-then-is_another-clause-moments g c limits w shown lawful =
    let state = g.D.Disk.state in
    let p = c.args.self.now in
    let mid = c.read_duty.new.self in
    start_moments state p mid (read_journals state p mid c.read_duty.ensures.beside) (read_stays state p mid c.read_duty.result c.read_duty.ensures) limits w shown g.met.D.Disk.sound

pub returns-clause-does : goal.returns-clause-does
returns-clause-does g c limits w shown lawful =
    let state = g.D.Disk.state in
    let p = c.args.self.now in
    let mid = c.read_duty.new.self in
    let new = c.enter_duty.new.self in
    let duty = c.duty-duty.result in
    let images : Images = record { known = c.duties_are_known_from_the_image.ensures; counted = c.duties_are_counted.ensures; not_foreign = c.an_image_is_read_one_way.ensures.not_foreign; not_damaged = c.an_image_is_read_one_way.ensures.not_damaged } in
    let read : IsRead state p mid (Ok tt) = subst (λ r. IsRead state p mid r) c.in_default.is c.read_duty.ensures in
    started_does state limits p w shown mid (some_failed p.failed c.in-Some.failed c.in-Some.is) images g.met.D.Disk.sound read new duty c.max.result lawful (sym c.duty-duty.ensures) c.enter_duty.ensures
    (c.max.ensures ∙ ap (λ (n : ℕ). max n duty.floor) read.beside.count)

pub returns-clause-moments : goal.returns-clause-moments
returns-clause-moments g c limits w shown lawful =
    let state = g.D.Disk.state in
    let p = c.args.self.now in
    let mid = c.read_duty.new.self in
    let new = c.enter_duty.new.self in
    let duty = c.duty-duty.result in
    let beside = c.read_duty.ensures.beside in
    let stays = subst (λ (r : Register g.row.D.Denot). Stays (state (disk_at p disks.Duty)) (state (register.disk_of r))) (sym c.enter_duty.ensures.register) (read_stays state p mid c.read_duty.result c.read_duty.ensures) in
    start_moments state p new (entered_journals state p mid new duty c.max.result beside c.enter_duty.ensures) stays limits w shown g.met.D.Disk.sound

pub returns-in-Err-clause-beside : goal.returns-in-Err-clause-beside
returns-in-Err-clause-beside g c = register_keeps c.args.self.now c.read_duty.new.self c.read_duty.ensures.beside

pub returns-then-is_another-clause-beside : goal.returns-then-is_another-clause-beside
returns-then-is_another-clause-beside g c = register_keeps c.args.self.now c.read_duty.new.self c.read_duty.ensures.beside

pub returns-clause-beside : goal.returns-clause-beside
returns-clause-beside g c =
    let p = c.args.self.now in
    let mid = c.read_duty.new.self in
    let new = c.enter_duty.new.self in
    nodes_on p mid new (register_keeps p mid c.read_duty.ensures.beside) (enter_keeps mid new c.duty-duty.result c.max.result c.enter_duty.ensures)
