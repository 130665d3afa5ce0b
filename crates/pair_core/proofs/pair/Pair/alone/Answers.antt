use Rattle.std.proofs.Common.{◌≡◌, ◌∙◌, refl, sym, ap, subst, inl, inr, [], ◌∷◌, true, length, arith}
use Rattle.ali_base.specs.Duties.{next_duty}
use Rattle.ali_base.specs.declared.duty.Duty.{Duty}
use Rattle.ali_base.specs.declared.duty.Mode.TheVariants.{Alone}
use Rattle.ali_base.specs.declared.names.DiskName.TheVariants as disks
use Rattle.crash_disk.proofs.Runs.{stays_here}
use Rattle.pair_world.specs.Changes.{register_failed, new_duty}
use Rattle.pair_world.specs.Refusals as refusals
use Rattle.pair_world.specs.Step as events
use Rattle.world_rows.specs.Counts.{Counts}
use Rattle.world_rows.specs.Histories.{state_of}
use Rattle.world_rows.specs.Told.{Failed}
use Rattle.world_rows.specs.WorldRows.{alone_row, duty_row}
use Rattle.pair_core.specs.Pair.{counts_of, duty_of, is_up, bounds_of, disk_at, count_of}
use Rattle.pair_core.specs.PairAnswers.{ChangeRest}
use Rattle.pair_core.specs.PairChanges.{IsChange}
use Rattle.pair_core.specs.PairRefusals as rows
use Rattle.pair_core.proofs.PairDuty.{change_does, moments_of}
use Rattle.pair_core.proofs.PairRows as own
use Rattle.pair_core.proofs.PairShown.{all_quiet}
use Rattle.pair_core.proofs.PairBeside.{change_keeps}
use Rattle.pair_core.proofs.pair.Pair.alone.Goals as goal

pub change-requires-clause-up : goal.change-requires-clause-up
change-requires-clause-up g c =
    let p = c.args.self.now in
    own.up_for p (rows.node_is_down p (rows.holder p) ∷ rows.not_paired p ∷ rows.epoch_end p ∷ []) (sym c.take_refusal.ensures ∙ c.in_default.is)

pub change-requires-clause-may : goal.change-requires-clause-may
change-requires-clause-may g c = own.may_leave c.args.self.now (rows.holder c.args.self.now) (sym c.take_refusal.ensures ∙ c.in_default.is)

pub returns-in-Some-clause-moments : goal.returns-in-Some-clause-moments
returns-in-Some-clause-moments g c limits w shown lawful =
    all_quiet g.D.Disk.state limits c.args.self.now c.args.self.now w events.Go_alone shown g.met.D.Disk.sound (λ disk. stays_here _)

pub returns-in-Some-clause-does : goal.returns-in-Some-clause-does
returns-in-Some-clause-does g c limits w shown lawful =
    let state = g.D.Disk.state in
    let p = c.args.self.now in
    own.refused_does state limits p w shown (λ lasted u. alone_row limits u (bounds_of p)) c.in-Some.refusal
    (rows.duty_is_down p ∷ rows.node_is_down p (rows.holder p) ∷ rows.not_paired p ∷ rows.epoch_end p ∷ []) (sym c.take_refusal.ensures ∙ c.in-Some.is)
    (λ t same. own.refused (counts_of state p) (counts_of state p) (state_of limits w) w (duty_row limits w w.base.duty.holder Alone w.base.booked)
    (rows.duty_is_down p ∷ rows.node_is_down p (rows.holder p) ∷ rows.not_paired p ∷ rows.epoch_end p ∷ [])
    (refusals.duty_is_down w ∷ refusals.node_is_down w w.base.duty.holder ∷ refusals.not_paired w ∷ refusals.epoch_end w (bounds_of p) ∷ [])
    c.in-Some.refusal t (own.alone_row state limits p w shown) (sym c.take_refusal.ensures ∙ c.in-Some.is) same)

pub returns-clause-does : goal.returns-clause-does
returns-clause-does g c limits w shown lawful =
    let state = g.D.Disk.state in
    let p = c.args.self.now in
    let new = c.change.new.self in
    let none = sym c.take_refusal.ensures ∙ c.in_default.is in
    let up : is_up p ≡ true = own.up_for p (rows.node_is_down p (rows.holder p) ∷ rows.not_paired p ∷ rows.epoch_end p ∷ []) none in
    let h_is : (duty_of p).holder ≡ w.base.duty.holder = ap (λ (d : Duty). d.holder) shown.duty in
    change_does state limits p new w shown w.base.duty.holder Alone w.base.booked (count_of p) shown.count up (λ lasted u. alone_row limits u (bounds_of p))
    (λ t v gives. own.passed (counts_of state p) (counts_of state new) (state_of limits w) w (duty_row limits w w.base.duty.holder Alone w.base.booked)
    (rows.duty_is_down p ∷ rows.node_is_down p (rows.holder p) ∷ rows.not_paired p ∷ rows.epoch_end p ∷ [])
    (refusals.duty_is_down w ∷ refusals.node_is_down w w.base.duty.holder ∷ refusals.not_paired w ∷ refusals.epoch_end w (bounds_of p) ∷ [])
    t v (own.alone_row state limits p w shown) none gives)
    c.change.result
    (subst (λ h. ChangeRest state p new (next_duty (duty_of p) h Alone (count_of p)) c.change.result) h_is c.change.ensures.causes)
    (subst (λ h. IsChange state p new (next_duty (duty_of p) h Alone (count_of p)) c.change.result) h_is c.change.ensures.changed)
    (g.met.D.Disk.sound (disk_at new disks.Duty))

pub returns-clause-moments : goal.returns-clause-moments
returns-clause-moments g c limits w shown lawful =
    let state = g.D.Disk.state in
    let p = c.args.self.now in
    let new = c.change.new.self in
    let none = sym c.take_refusal.ensures ∙ c.in_default.is in
    let up : is_up p ≡ true = own.up_for p (rows.node_is_down p (rows.holder p) ∷ rows.not_paired p ∷ rows.epoch_end p ∷ []) none in
    let h_is : (duty_of p).holder ≡ w.base.duty.holder = ap (λ (d : Duty). d.holder) shown.duty in
    let zero : Counts = record { a = 0; b = 0; duty = 0 } in
    let one : Counts = record { a = 1; b = 1; duty = 1 } in
    let left = register_failed w (new_duty w.base w.base.duty.holder Alone (length w.base.booked)) in
    let fails = c.rows_are_steps.ensures.alone limits (bounds_of p) zero one w left (Failed disks.Duty)
    (own.passed zero one (state_of limits w) w (duty_row limits w w.base.duty.holder Alone w.base.booked)
    (rows.duty_is_down p ∷ rows.node_is_down p (rows.holder p) ∷ rows.not_paired p ∷ rows.epoch_end p ∷ [])
    (refusals.duty_is_down w ∷ refusals.node_is_down w w.base.duty.holder ∷ refusals.not_paired w ∷ refusals.epoch_end w (bounds_of p) ∷ [])
    (Failed disks.Duty) left (own.alone_row state limits p w shown) none (inl (refl, refl, omega arith))) in
    moments_of state limits p new w shown w.base.duty.holder Alone w.base.booked (count_of p) shown.count up events.Go_alone c.change.result g.met.D.Disk.sound (inr fails)
    (subst (λ h. IsChange state p new (next_duty (duty_of p) h Alone (count_of p)) c.change.result) h_is c.change.ensures.changed)

pub returns-clause-beside : goal.returns-clause-beside
returns-clause-beside g c =
    let p = c.args.self.now in
    change_keeps p c.change.new.self g.D.Disk.state (next_duty (duty_of p) (rows.holder p) Alone (count_of p)) c.change.result c.change.ensures.changed
