-- The journals of a world that is opened, and the duties before its last one.
use Rattle.std.proofs.Common.{◌≡◌, ℕ, ◌≤◌, List, [], ◌∷◌, ◌++◌, length, refl, ap, sym, ◌∙◌, subst, arith}
use Rattle.std.specs.Prelude.{reverse, ◌||◌, not, if◌then◌else◌}
use Rattle.std.proofs.lemmas.List.{reverse-append, reverse-reverse}
use Rattle.ali_base.specs.declared.duty.Duty.{Duty}
use Rattle.ali_base.specs.declared.duty.Mode.{Mode}
use Rattle.ali_base.specs.declared.duty.Mode.TheVariants.{Both, Alone}
use Rattle.ali_base.specs.declared.names.NodeName.{NodeName}
use Rattle.ali_base.specs.declared.names.NodeName.TheVariants.{A, B}
use Rattle.command_machine.specs.Machine.{office_bounds}
use Rattle.duty_register.specs.DutyState.{with_duty}
use Rattle.office_entry.specs.declared.entry.Entry.{Entry}
use Rattle.office_state.specs.OfficeState.{office_limits}
use Rattle.pair_core.specs.Pair.{length_at_opening}
use Rattle.pair_world.specs.Frames.{Frame}
use Rattle.pair_world.specs.Refusals.{is_alone}
use Rattle.pair_world.specs.SoundWorld.{AreCounted, Booked, Floored, Mirrored}
use Rattle.pair_world.specs.World.{duty_list, is_node, node_at, opened, opened_newest, other, without_doubt}
use Rattle.pair_world.proofs.Lists.{Begins-length}
use Rattle.pair_world.proofs.SoundSteps.{base_has_parts}
use Rattle.world_rows.specs.Histories.{due_after, IsLawful}

-- the journal of a node
abbrev pub journal_in : (a b : List (Frame Entry)) → NodeName → List (Frame Entry)
journal_in a b A = a
journal_in a b B = b

pub opened_journal : (a b : List (Frame Entry)) (newest : List Duty) (n : NodeName) → (node_at (opened_newest newest a b).nodes n).journal ≡ journal_in a b n
opened_journal a b [] A = refl
opened_journal a b [] B = refl
opened_journal a b (duty ∷ past) A = refl
opened_journal a b (duty ∷ past) B = refl

-- the duties before the last one, the newest first
pub newest : (list past : List Duty) (duty : Duty) → list ≡ with_duty past duty → duty_list duty (reverse past) ≡ list
newest list past duty is = reverse-append (duty ∷ []) (reverse past) ∙ ap (λ ds. ds ++ duty ∷ []) (reverse-reverse past) ∙ sym is

-- the epochs count the duties
pub counted_long : (duty : Duty) (past : List Duty) → AreCounted duty past → length (duty ∷ past) ≡ duty.epoch
counted_long duty [] first = omega (arith, first)
counted_long duty (before ∷ past) counted = omega (arith, counted.0, counted_long before past counted.1)

-- the nodes that need the floor have it
needed : (holder : NodeName) (mode : Mode) (floor : ℕ) (long : NodeName → ℕ) → floor ≤ long holder → (mode ≡ Both → floor ≤ long (other holder))
    → (n : NodeName) → (if is_node n holder || not (is_alone mode) then floor else 0) ≤ long n
needed A mode floor long own both A = own
needed A Both floor long own both B = both refl
needed A Alone floor long own both B = omega arith
needed B mode floor long own both B = own
needed B Both floor long own both A = both refl
needed B Alone floor long own both A = omega arith

-- a lawful world that is opened has journals as long as its duty asks
pub long_enough : (duty : Duty) (past : List Duty) (a b : List (Frame Entry)) → IsLawful office_limits office_bounds (without_doubt (opened duty past a b))
    → (n : NodeName) → length_at_opening duty n ≤ length (journal_in a b n)
long_enough duty past a b lawful n =
    let w = opened duty past a b in
    let parts = base_has_parts (due_after office_limits) (without_doubt w) lawful.sound in
    let booked = parts.holds Booked in
    let floored = parts.holds Floored in
    let long : NodeName → ℕ = λ m. length (node_at w.nodes m).journal in
    let own : duty.floor ≤ long duty.holder = omega (arith, floored.below, Begins-length booked.begins) in
    let both : duty.mode ≡ Both → duty.floor ≤ long (other duty.holder) = λ is. (
    let mirrored = parts.holds Mirrored is in
    omega (arith, floored.below, Begins-length mirrored.holds)) in
    let P : ℕ → Type 0 = λ k. length_at_opening duty n ≤ k in
    subst P (ap length (opened_journal a b (duty ∷ past) n)) (needed duty.holder duty.mode duty.floor long own both n)
