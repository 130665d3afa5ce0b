-- The pending frame is passed on in mode Both: a node that is up has it then, and that is acknowledged; of a node that is down nothing changes.
use Rattle.std.proofs.Common.{◌≡◌, ◌⊎◌, ℕ, suc, ◌<◌, ◌≤◌, ◌-◌, inl, inr, Bool, true, false, not, ◌&&◌, cond, nat_lt, ◌==◌, List, length, refl, ap, sym, ◌∙◌, subst, arith, Option, Some, None, option_map}
use Rattle.std.proofs.lemmas.Bool.Decides.{nat_tests}
use Rattle.ali_base.specs.Steps.{when}
use Rattle.ali_base.specs.declared.duty.Mode.TheVariants.{Both}
use Rattle.ali_base.specs.declared.names.NodeName.{NodeName}
use Rattle.office_entry.specs.declared.entry.Entry.{Entry}
use Rattle.office_state.specs.OfficeState.{office_limits}
use Rattle.pair_core.specs.PairPassing.{pass_row, passed_row}
use Rattle.pair_world.specs.Changes.{shipment}
use Rattle.pair_world.specs.Deliveries as answers
use Rattle.pair_world.specs.Deliveries.{NodeMessage, Answer, answer, answer_in, differs_before}
use Rattle.pair_world.specs.Frames.{Frame, epoch_at}
use Rattle.pair_world.specs.Passing.{passed_acked}
use Rattle.pair_world.specs.Refusals.{Refusal, Down, disk_of, receiving_row}
use Rattle.pair_world.specs.SoundWorld.{IsMirrored, Mirrored, Known, Invariant}
use Rattle.pair_world.specs.World.{World, Shipment, node_at, holder_journal, other, is_up, told_by}
use Rattle.pair_world.proofs.ExactRows.{shipping_passed, receiving_passed}
use Rattle.pair_world.proofs.Items.{slice_none}
use Rattle.pair_world.proofs.Lists.{Begins-length, Begins-Shares, Shares-epoch, epoch_is}
use Rattle.pair_world.proofs.SoundSteps.{base_has_parts}
use Rattle.world_rows.specs.Counts.{Counts}
use Rattle.world_rows.specs.Histories.{due_after, state_of, IsLawful}
use Rattle.world_rows.specs.Rows.{Row, Gives}
use Rattle.world_rows.specs.Told.{Told, Refused, Failed, Stored, Have}
use Rattle.world_rows.specs.WorldRows.{unless, journal_at}
use Rattle.command_machine.specs.Machine.{office_bounds}

-- ---- the answer of a node whose journal agrees with the message

module _ (journal : List (Frame Entry)) (m : NodeMessage Entry) (frame : Frame Entry) (has : m.frame ≡ Some frame)
    (before : epoch_at journal m.preceding ≡ m.before) (after : m.preceding < length journal → epoch_at journal (suc m.preceding) ≡ frame.epoch) where
  abbrev Accepted : Answer Entry → Type 0
  Accepted a = (a ≡ answers.Have) ⊎ (a ≡ answers.Stored frame)

  same : (a b : ℕ) → a ≡ b → (a == b) ≡ true
  same a b e = grind (arith, nat_tests)

  -- a frame is there already, and it is this one
  found : (there : Bool) → nat_lt m.preceding (length journal) ≡ there → Accepted (cond there (cond (epoch_at journal (suc m.preceding) == frame.epoch) answers.Have (answers.Cut m.preceding)) (cond (differs_before journal m) (answers.Cut (m.preceding - 1)) (answers.Stored frame)))
  found true is =
      let long : m.preceding < length journal = grind (arith, nat_tests) in
      inl (ap (λ (b : Bool). cond b answers.Have (answers.Cut m.preceding)) (same (epoch_at journal (suc m.preceding)) frame.epoch (after long)))
  found false is = inr (ap (λ (b : Bool). cond b (answers.Cut (m.preceding - 1)) (answers.Stored frame)) (alike (nat_lt 0 m.preceding) (epoch_at journal m.preceding == m.before) (same (epoch_at journal m.preceding) m.before before)))
    where
      alike : (a b : Bool) → b ≡ true → (a && not b) ≡ false
      alike true b e = ap (λ (x : Bool). not x) e
      alike false b e = refl

  accepted : m.preceding ≤ length journal → Accepted (answer journal m)
  unfolding answer
  accepted fits =
      let short : nat_lt (length journal) m.preceding ≡ false = grind (arith, nat_tests) in
      subst (λ (b : Bool). Accepted (cond b answers.Behind (answer_in journal m m.frame))) (sym short)
      (subst (λ (o : Option (Frame Entry)). Accepted (answer_in journal m o)) (sym has) (found (nat_lt m.preceding (length journal)) refl))

not_told : (o : Option Refusal) → o ≡ None → option_map Refused o ≡ None
not_told o e = ap (λ (x : Option Refusal). option_map Refused x) e

module _ (w : World Entry) (lawful : IsLawful office_limits office_bounds w) (register : w.register_up ≡ true) (up : is_up w.base w.base.duty.holder)
    (both : w.base.duty.mode ≡ Both) (pending : length w.base.booked < length (holder_journal w.base)) (before now : Counts) where
  abbrev next : ℕ
  next = suc (length w.base.booked)

  abbrev x : Shipment Entry
  x = shipment w.base next

  abbrev mirror : NodeName
  mirror = other w.base.duty.holder

  abbrev GivesIn : Row Told (World Entry) → Told → World Entry → Type 0
  GivesIn row told v = Gives before now Failed w row told v

  parts : Invariant (due_after office_limits) w.base
  parts = base_has_parts (due_after office_limits) w lawful.sound

  mirrored : IsMirrored w.base
  mirrored = parts.holds Mirrored both

  abbrev receiving : Row Told (World Entry)
  receiving = unless (state_of office_limits w) (receiving_row w x) (passed_row office_limits w next x (answer (journal_at w mirror) (told_by x)))

  -- the holder makes the message
  ships : (told : Told) (v : World Entry) → GivesIn receiving told v → GivesIn (pass_row office_limits w next) told v
  ships told v gives =
      let passes = shipping_passed (due_after office_limits) w next (register, record { up = up; from = omega arith; within = omega arith }) in
      inr (not_told _ passes.0, inr (not_told _ passes.1.0, inr (not_told _ passes.1.1.0, inr gives)))

  -- a node that is down does not get it
  pub passed_down : (node_at w.base.nodes mirror).up ≡ false → GivesIn (pass_row office_limits w next) (Refused (Down (disk_of mirror))) w
  passed_down down = ships (Refused (Down (disk_of mirror))) w (inl (ap (λ (b : Bool). option_map Refused (when (not b) (Down (disk_of mirror)))) down, refl))

  abbrev pub passed : World Entry
  passed = passed_acked w next false

  module _ (there : is_up w.base mirror) where
    received : (told : Told) → GivesIn (passed_row office_limits w next x (answer (journal_at w mirror) (told_by x))) told passed → GivesIn (pass_row office_limits w next) told passed
    received told gives =
        let known = parts.holds Known in
        let passes = receiving_passed (due_after office_limits) w x (there, known.none_later mirror) in
        ships told passed (inr (not_told _ passes.0, inr (not_told _ passes.1.0, gives)))

    -- a node that is up has it, and its acknowledgement is heard
    pub passed_up : GivesIn (pass_row office_limits w next) (Stored (suc x.preceding) 0) passed ⊎ GivesIn (pass_row office_limits w next) (Have (suc x.preceding) 0) passed
    passed_up = by_frame x.frame refl
      where
        by_frame : (o : Option (Frame Entry)) → x.frame ≡ o → GivesIn (pass_row office_limits w next) (Stored (suc x.preceding) 0) passed ⊎ GivesIn (pass_row office_limits w next) (Have (suc x.preceding) 0) passed
        by_frame None is = absurd (let none = slice_none (holder_journal w.base) (next - 1) is in omega arith)
        by_frame (Some frame) is =
            let shares = Begins-Shares mirrored.prefix in
            let long = Begins-length mirrored.holds in
            let fits : x.preceding ≤ length (journal_at w mirror) = omega arith in
            let before : epoch_at (journal_at w mirror) x.preceding ≡ x.before = sym (Shares-epoch shares x.preceding fits) in
            let after : x.preceding < length (journal_at w mirror) → epoch_at (journal_at w mirror) (suc x.preceding) ≡ frame.epoch =
            λ less. sym (Shares-epoch shares (suc x.preceding) (omega arith)) ∙ epoch_is (holder_journal w.base) x.preceding frame is
            in
            elim (accepted (journal_at w mirror) (told_by x) frame is before after fits) [
              | inl have ↦ inr (received (Have (suc x.preceding) 0) (subst (λ (a : Answer Entry). GivesIn (passed_row office_limits w next x a) (Have (suc x.preceding) 0) passed) (sym have) (refl, refl)))
              | inr stored ↦ inl (received (Stored (suc x.preceding) 0) (subst (λ (a : Answer Entry). GivesIn (passed_row office_limits w next x a) (Stored (suc x.preceding) 0) passed) (sym stored) (inr (refl, refl))))
            ]

  -- the number that is acknowledged reaches it
  pub passed_reaches : length w.base.booked < passed.base.acked
  passed_reaches = grind arith
