-- A run that begins after a crash in a call begins in a world that a halt of the call's event leaves.
use Rattle.std.proofs.Common.{◌≡◌, ℕ, List, [], ◌∷◌, ◌++◌, refl, sym, ap, ◌∙◌}
use Rattle.ali_base.specs.declared.duty.Duty.{Duty}
use Rattle.ali_base.specs.declared.names.DiskName.TheVariants as disks
use Rattle.ali_base.specs.declared.names.NodeName.TheVariants.{A, B}
use Rattle.crash_disk.specs.DiskState.{DiskState}
use Rattle.duty_register.specs.DutyImage as duties
use Rattle.node_journal.specs.JournalImage.{StandsFor}
use Rattle.office_entry.specs.declared.entry.Entry.{Entry}
use Rattle.office_state.specs.declared.limits.Limits.{Limits}
use Rattle.pair_world.specs.Frames.{Frame, Begins}
use Rattle.pair_world.specs.Moments.{IsMoment}
use Rattle.pair_world.specs.SoundWorld.{IsSound}
use Rattle.pair_world.specs.Step.{Bounds, Turn, Runs, Halted, Halts}
use Rattle.pair_world.specs.World.{World, duty_list, opened, opened_from, without_doubt}
use Rattle.pair_world.proofs.DutyLists.{list_of, list_opened}
use Rattle.pair_world.proofs.Moments.{moment_halts, moment_runs}
use Rattle.pair_world.proofs.SoundSteps.{schedule_is_sound, schedule_grows}
use Rattle.world_rows.specs.Histories.{due_after, IsLawful}
use Rattle.world_rows.specs.WorldSteps.{OfficeEvent}
use Rattle.pair_core.specs.Pair.{AreMoments, LeavesJournal, LeavesDuties, disk_at, bounds_of}
use Rattle.pair_core.specs.PairHalts.{IsLeft, OpensAfter}
use Rattle.pair_core.specs.declared.pair.Pair.{Pair}

-- a world needs no answers to be sound
no_form : List Entry → List ℕ → Unit {0}
no_form history request = tt

module _ (limits : Limits) (bounds : Bounds) (w : World Entry) (event : OfficeEvent) (sound : IsSound (due_after limits) w) where
  abbrev halted : Turn Entry (List ℕ) (Unit {0})
  halted = record { event = event; outcome = Halted }

  module _ (v : World Entry) (moment : IsMoment (due_after limits) bounds w event v) where
    runs : Runs (due_after limits) no_form bounds w (halted ∷ []) v
    runs = moment_runs (due_after limits) no_form bounds w v [] event sound (w, refl, moment)

    is_sound : IsSound (due_after limits) v
    is_sound = schedule_is_sound (due_after limits) no_form bounds w v (halted ∷ []) sound runs

    keeps : Begins v.base.booked w.base.booked
    keeps = schedule_grows (due_after limits) no_form bounds w v (halted ∷ []) sound runs

  -- three images, each of which stands for what a world under way gives its disk
  pub opens_after : (a b duty : List ℕ) → LeavesJournal limits bounds w event A a → LeavesJournal limits bounds w event B b → LeavesDuties limits bounds w event duty → OpensAfter limits bounds w event a b duty
  opens_after a b duty in_a in_b in_duty =
      let last = list_of in_duty.2.0 in_duty.0 in_duty.2.2 in
      let v : World Entry = without_doubt (opened_from in_duty.0 in_a.0 in_b.0) in
      let moment : IsMoment (due_after limits) bounds w event v = record {
        duty = last.0;
        past = last.1;
        journal_a = in_a.0;
        journal_b = in_b.0;
        register = (in_duty.2.0, in_duty.2.1, last.3);
        disk_a = in_a.2;
        disk_b = in_b.2;
        opens = λ i. without_doubt (opens last.0 last.1 last.2 i);
      } in
      record {
        journal_a = in_a.0;
        journal_b = in_b.0;
        list = in_duty.0;
        stands_a = in_a.1;
        stands_b = in_b.1;
        stands_duty = in_duty.1;
        halts = moment_halts (due_after limits) bounds w sound event v moment;
        sound = is_sound v moment;
        keeps = keeps v moment;
      }
    where
      opens : (d : Duty) (past : List Duty) → duty_list d past ≡ in_duty.0 → opened_from in_duty.0 in_a.0 in_b.0 ≡ opened d past in_a.0 in_b.0
      opens d past same = sym (ap (λ (l : List Duty). opened_from l in_a.0 in_b.0) same) ∙ list_opened d past in_a.0 in_b.0

pub crash_halts : {D : Type 0} (state : D → DiskState) (limits : Limits) (old new : Pair D) (w : World Entry) (event : OfficeEvent) (a b duty : List ℕ) → IsLawful limits (bounds_of old) w → AreMoments state limits old new w event
    → IsLeft state old new disks.A a → IsLeft state old new disks.B b → IsLeft state old new disks.Duty duty → OpensAfter limits (bounds_of old) w event a b duty
crash_halts state limits old new w event a b duty lawful moments left_a left_b left_duty =
    opens_after limits (bounds_of old) w event lawful.sound a b duty (moments.a.each a left_a) (moments.b.each b left_b) (moments.duty.each duty left_duty)
