-- What the disks may be left with stands for duties and journals over which a run opens a lawful world, and no booked entry is lost.
use Rattle.std.proofs.Common.{◌≡◌, List, [], ◌∷◌, sym, ap, ◌∙◌, subst, arith}
use Rattle.std.specs.Prelude.{All}
use Rattle.std.proofs.lemmas.List.Elements.{All-head, All-tail}
use Rattle.ali_base.specs.Duties.{first_duty}
use Rattle.ali_base.specs.declared.duty.Duty.{Duty}
use Rattle.ali_base.specs.declared.names.DiskName.{DiskName}
use Rattle.ali_base.specs.declared.names.DiskName.TheVariants as disk
use Rattle.ali_base.specs.declared.names.NodeName.TheVariants.{A, B}
use Rattle.office_entry.specs.declared.entry.Entry.{Entry}
use Rattle.command_machine.specs.Machine.{Moment, office_bounds}
use Rattle.duty_register.specs.DutyImage as duties
use Rattle.node_journal.specs.JournalImage.{StandsFor}
use Rattle.office_run.specs.Disks.{Disks, IsBacked, IsHonest, IsKept, OpensLawful, disk_in}
use Rattle.office_run.specs.Formatted.{IsNew, all_disks}
use Rattle.office_state.specs.OfficeState.{office_limits}
use Rattle.pair_world.specs.Frames.{Frame, Begins}
use Rattle.pair_world.specs.World.{Resolved, World, MayHold, MayList, formatted, opened, opened_from, without_doubt}
use Rattle.pair_world.proofs.DutyLists.{list_of, list_opened}
use Rattle.pair_world.proofs.Limiting.{formatted_within, opened_within, within_of}
use Rattle.pair_world.proofs.SoundSteps.{formatted_is_sound, reopened_has_parts, sound_without_doubt}
use Rattle.world_rows.specs.Histories.{due_after, IsLawful}

-- a run opens a lawful world over this resolved one, which keeps a history
abbrev Keeps : List (Frame Entry) → Resolved Entry → Type 0
Keeps booked w = IsLawful office_limits office_bounds (without_doubt w) × Begins w.booked booked

-- over the lists that a lawful world gives the three disks
opens_lawful : (w : World Entry) (list : List Duty) (a b : List (Frame Entry)) → IsLawful office_limits office_bounds w → MayList w list → MayHold w A a → MayHold w B b
    → Keeps w.base.booked (opened_from list a b)
opens_lawful w list a b lawful listed held_a held_b =
    let due = due_after office_limits in
    let last = list_of w list listed in
    let again = reopened_has_parts due w lawful.sound last.0 last.1 a b last.3 held_a held_b in
    let within = opened_within office_bounds last.0 last.1 a b (lawful.within.duties last.0 last.1 last.3) (lawful.within.journals A a held_a) (lawful.within.journals B b held_b) in
    let same : opened last.0 last.1 a b ≡ opened_from list a b = sym (list_opened last.0 last.1 a b) ∙ ap (λ (l : List Duty). opened_from l a b) last.2 in
    subst (Keeps w.base.booked) same
    (record { sound = sound_without_doubt due (opened last.0 last.1 a b) again.0; within = within_of office_bounds (without_doubt (opened last.0 last.1 a b)) within }, again.1)

-- whatever a crash may leave of disks that a lawful world backs keeps its history
pub kept_from_backed : (now : Disks) (last : Moment) → IsBacked now last → IsLawful office_limits office_bounds last.machine.world → IsKept now last.machine.world.base.booked
kept_from_backed now last backed lawful images left =
    let a = backed.a images.a left.a in
    let b = backed.b images.b left.b in
    let duty = backed.duty images.duty left.duty in
    let again = opens_lawful last.machine.world duty.0 a.0 b.0 lawful duty.2 a.2 b.2 in
    (duty.0, a.0, b.0, record { a = a.1; b = b.1; duty = duty.1 }, again.0, again.1)

-- formatted disks open a lawful world
pub none_lawful : OpensLawful (first_duty ∷ []) [] []
none_lawful =
    let due = due_after office_limits in
    let P : Resolved Entry → Type 0 = λ w. IsLawful office_limits office_bounds (without_doubt w) in
    subst P (sym (list_opened first_duty [] [] []))
    (record { sound = formatted_is_sound due; within = within_of office_bounds (without_doubt formatted) (formatted_within office_bounds (omega arith)) })

-- formatted disks are honest
pub new_is_honest : (disks : Disks) → disks.tells → All (λ d. IsNew d (disk_in disks d)) all_disks → IsHonest disks
new_is_honest disks tells all =
    let P : DiskName → Type 0 = λ d. IsNew d (disk_in disks d) in
    let behind_duty = All-tail P disk.Duty (disk.A ∷ disk.B ∷ []) all in
    let duty : P disk.Duty = All-head P disk.Duty (disk.A ∷ disk.B ∷ []) all in
    let a : P disk.A = All-head P disk.A (disk.B ∷ []) behind_duty in
    let b : P disk.B = All-head P disk.B [] (All-tail P disk.A (disk.B ∷ []) behind_duty) in
    record {
      told = tells;
      images = λ images left. (
        first_duty ∷ [],
        [],
        [],
        record {
          a = subst (StandsFor A []) (sym (a.synced.durable images.a left.a)) a.stands;
          b = subst (StandsFor B []) (sym (b.synced.durable images.b left.b)) b.stands;
          duty = subst (duties.StandsFor (first_duty ∷ [])) (sym (duty.synced.durable images.duty left.duty)) duty.stands;
        },
        none_lawful,
      );
    }
