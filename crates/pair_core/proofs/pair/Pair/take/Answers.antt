use Rattle.std.proofs.Common.{◌≡◌, ◌∙◌, ℕ, refl, sym, subst, inl, inr, [], ◌∷◌, true, length, arith, Err}
use Rattle.ali_base.specs.Duties.{next_duty}
use Rattle.ali_base.specs.declared.duty.Mode.TheVariants.{Alone}
use Rattle.ali_base.specs.declared.names.DiskName.TheVariants as disks
use Rattle.crash_disk.proofs.Runs.{stays_here}
use Rattle.office_entry.specs.declared.entry.Entry.{Entry}
use Rattle.pair_world.specs.Changes.{register_failed, new_duty, duty_changed}
use Rattle.pair_world.specs.Refusals as refusals
use Rattle.pair_world.specs.Step as events
use Rattle.pair_world.specs.World.{World}
use Rattle.pair_world.proofs.Lists.{Begins-length}
use Rattle.world_rows.specs.Counts.{Counts}
use Rattle.world_rows.specs.Histories.{state_of}
use Rattle.world_rows.specs.Told.{Failed, On_duty}
use Rattle.world_rows.specs.WorldRows as world
use Rattle.world_rows.specs.WorldRows.{duty_row, journal_at}
use Rattle.pair_core.specs.Pair.{counts_of, duty_of, is_up, bounds_of, disk_at, len_of}
use Rattle.pair_core.specs.PairAnswers.{ChangeRest}
use Rattle.pair_core.specs.PairChanges.{IsChange}
use Rattle.pair_core.specs.PairRefusals as rows
use Rattle.pair_core.proofs.PairDuty.{change_does, moments_of}
use Rattle.pair_core.proofs.PairReport.{long}
use Rattle.pair_core.proofs.PairRows as own
use Rattle.pair_core.proofs.PairShown.{all_quiet, all_stay, stopped_stays}
use Rattle.pair_core.proofs.PairTaken.{taker_up}
use Rattle.pair_core.proofs.PairBeside.{beside_keeps, change_keeps, taker_keeps, taker_here}
use Rattle.pair_core.proofs.pair.Pair.take.Goals as goal

pub change-requires-clause-up : goal.change-requires-clause-up
change-requires-clause-up g c =
    let p = c.args.self.now in
    own.up_for p (rows.node_is_down p c.args.n ∷ rows.not_paired p ∷ rows.epoch_end p ∷ []) (sym c.take_refusal.ensures ∙ c.in_default.is)

pub change-requires-clause-may : goal.change-requires-clause-may
change-requires-clause-may g c = own.may_leave c.args.self.now c.args.n (sym c.take_refusal.ensures ∙ c.in_default.is)

pub returns-in-Some-clause-moments : goal.returns-in-Some-clause-moments
returns-in-Some-clause-moments g c limits w shown lawful =
    all_quiet g.D.Disk.state limits c.args.self.now c.args.self.now w (events.Take c.args.n) shown g.met.D.Disk.sound (λ disk. stays_here _)

pub returns-in-Some-clause-does : goal.returns-in-Some-clause-does
returns-in-Some-clause-does g c limits w shown lawful =
    let state = g.D.Disk.state in
    let p = c.args.self.now in
    let n = c.args.n in
    own.refused_does state limits p w shown (λ lasted u. world.take_row limits u (bounds_of p) n) c.in-Some.refusal
    (rows.duty_is_down p ∷ rows.node_is_down p n ∷ rows.not_paired p ∷ rows.epoch_end p ∷ []) (sym c.take_refusal.ensures ∙ c.in-Some.is)
    (λ t same. own.refused (counts_of state p) (counts_of state p) (state_of limits w) w (duty_row limits w n Alone (journal_at w n))
    (rows.duty_is_down p ∷ rows.node_is_down p n ∷ rows.not_paired p ∷ rows.epoch_end p ∷ [])
    (refusals.duty_is_down w ∷ refusals.node_is_down w n ∷ refusals.not_paired w ∷ refusals.epoch_end w (bounds_of p) ∷ [])
    c.in-Some.refusal t (own.take_row state limits p w shown n) (sym c.take_refusal.ensures ∙ c.in-Some.is) same)

pub returns-clause-does : goal.returns-clause-does
returns-clause-does g c limits w shown lawful =
    let state = g.D.Disk.state in
    let p = c.args.self.now in
    let n = c.args.n in
    let new = c.change.new.self in
    let none = sym c.take_refusal.ensures ∙ c.in_default.is in
    let up : is_up p ≡ true = own.up_for p (rows.node_is_down p n ∷ rows.not_paired p ∷ rows.epoch_end p ∷ []) none in
    let len_is : c.len-len.result ≡ len_of p n = c.len-len.ensures in
    change_does state limits p new w shown n Alone (journal_at w n) (len_of p n) (long state limits p w shown n (taker_up p n none)) up (λ lasted u. world.take_row limits u (bounds_of p) n)
    (λ t v gives. own.passed (counts_of state p) (counts_of state new) (state_of limits w) w (duty_row limits w n Alone (journal_at w n))
    (rows.duty_is_down p ∷ rows.node_is_down p n ∷ rows.not_paired p ∷ rows.epoch_end p ∷ [])
    (refusals.duty_is_down w ∷ refusals.node_is_down w n ∷ refusals.not_paired w ∷ refusals.epoch_end w (bounds_of p) ∷ [])
    t v (own.take_row state limits p w shown n) none gives)
    c.change.result
    (subst (λ (m : ℕ). ChangeRest state p new (next_duty (duty_of p) n Alone m) c.change.result) len_is c.change.ensures.causes)
    (subst (λ (m : ℕ). IsChange state p new (next_duty (duty_of p) n Alone m) c.change.result) len_is c.change.ensures.changed)
    (g.met.D.Disk.sound (disk_at new disks.Duty))

pub returns-clause-moments : goal.returns-clause-moments
returns-clause-moments g c limits w shown lawful =
    let state = g.D.Disk.state in
    let p = c.args.self.now in
    let n = c.args.n in
    let new = c.change.new.self in
    let none = sym c.take_refusal.ensures ∙ c.in_default.is in
    let up : is_up p ≡ true = own.up_for p (rows.node_is_down p n ∷ rows.not_paired p ∷ rows.epoch_end p ∷ []) none in
    let len_is : c.len-len.result ≡ len_of p n = c.len-len.ensures in
    let zero : Counts = record { a = 0; b = 0; duty = 0 } in
    let one : Counts = record { a = 1; b = 1; duty = 1 } in
    let left = register_failed w (new_duty w.base n Alone (length (journal_at w n))) in
    let fails = c.rows_are_steps.ensures.take limits (bounds_of p) zero one w left n (Failed disks.Duty)
    (own.passed zero one (state_of limits w) w (duty_row limits w n Alone (journal_at w n))
    (rows.duty_is_down p ∷ rows.node_is_down p n ∷ rows.not_paired p ∷ rows.epoch_end p ∷ [])
    (refusals.duty_is_down w ∷ refusals.node_is_down w n ∷ refusals.not_paired w ∷ refusals.epoch_end w (bounds_of p) ∷ [])
    (Failed disks.Duty) left (own.take_row state limits p w shown n) none (inl (refl, refl, omega arith))) in
    moments_of state limits p new w shown n Alone (journal_at w n) (len_of p n) (long state limits p w shown n (taker_up p n none)) up (events.Take n) c.change.result g.met.D.Disk.sound (inr fails)
    (subst (λ (m : ℕ). IsChange state p new (next_duty (duty_of p) n Alone m) c.change.result) len_is c.change.ensures.changed)

pub returns-then-len-self-clause-moments : goal.returns-then-len-self-clause-moments
returns-then-len-self-clause-moments g c limits w shown lawful =
    let state = g.D.Disk.state in
    let p = c.args.self.now in
    let n = c.args.n in
    all_quiet state limits p c.stop_node.new.self w (events.Take n) shown g.met.D.Disk.sound (all_stay state p c.stop_node.new.self n c.stop_node.ensures.beside (stopped_stays state p c.stop_node.new.self n c.stop_node.ensures.stopped))

-- the journal of a node that is up has what is booked, as it could take the duty
pub returns-then-len-self-clause-does : goal.returns-then-len-self-clause-does
returns-then-len-self-clause-does g c limits w shown lawful =
    let state = g.D.Disk.state in
    let p = c.args.self.now in
    let n = c.args.n in
    let none = sym c.take_refusal.ensures ∙ c.in_default.is in
    let zero : Counts = record { a = 0; b = 0; duty = 0 } in
    let reply = On_duty (new_duty w.base n Alone (length (journal_at w n))) in
    let v : World Entry = record w { base = duty_changed w.base n Alone (journal_at w n) } in
    let step = c.rows_are_steps.ensures.take limits (bounds_of p) zero zero w v n reply
    (own.passed zero zero (state_of limits w) w (duty_row limits w n Alone (journal_at w n))
    (rows.duty_is_down p ∷ rows.node_is_down p n ∷ rows.not_paired p ∷ rows.epoch_end p ∷ [])
    (refusals.duty_is_down w ∷ refusals.node_is_down w n ∷ refusals.not_paired w ∷ refusals.epoch_end w (bounds_of p) ∷ [])
    reply v (own.take_row state limits p w shown n) none (inr (refl, refl))) in
    let grows = Begins-length (c.steps_keep_worlds_lawful.ensures.grows limits (bounds_of p) w v (events.Take n) reply lawful step) in
    let len_is : c.len-len.result ≡ len_of p n = c.len-len.ensures in
    let long_is = long state limits p w shown n (taker_up p n none) in
    let short = c.if-len-self.true in
    absurd (omega (arith, grows, len_is, long_is, short, shown.count))

pub returns-in-Some-clause-beside : goal.returns-in-Some-clause-beside
returns-in-Some-clause-beside g c = taker_here c.args.self.now c.args.n (Err c.in-Some.refusal)

pub returns-then-len-self-clause-beside : goal.returns-then-len-self-clause-beside
returns-then-len-self-clause-beside g c = (beside_keeps c.args.self.now c.stop_node.new.self c.args.n c.stop_node.ensures.beside, tt)

pub returns-clause-beside : goal.returns-clause-beside
returns-clause-beside g c =
    let p = c.args.self.now in
    let new = c.change.new.self in
    taker_keeps p new c.args.n c.change.result (change_keeps p new g.D.Disk.state (next_duty (duty_of p) c.args.n Alone c.len-len.result) c.change.result c.change.ensures.changed)
