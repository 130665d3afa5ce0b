-- The laws on takeovers and pairs.
use Rattle.std.proofs.Common.{◌≡◌, suc, cond, List, ap, sym, ◌∙◌, subst}
use Rattle.ali_base.specs.declared.names.NodeName.{NodeName}
use Rattle.ali_base.specs.declared.duty.Mode.TheVariants.{Both}
use Rattle.pair_world.specs.Frames.{Begins}
use Rattle.pair_world.specs.World.{other, node_at, Resolved, holder_journal, other_journal, recovered, World, Choice, with_failed_duty, unrecovered, resolved}
use Rattle.pair_world.specs.Changes.{duty_changed}
use Rattle.pair_world.specs.Step.{Take, Pair_up, Bounds, WorldStep}
use Rattle.pair_world.proofs.Parts.{IsKept}
use Rattle.pair_world.proofs.Worlds.{grows, pair_equal}
use Rattle.pair_world.proofs.Doubts.{same_is, can_pair, same_journal}
use Rattle.pair_world.proofs.Reopening.{base_sound}

module _ {E : Type 0} (due : List E → E → Type 0) (bounds : Bounds) (w : World E) (s : IsKept due w) where
  -- after a takeover the history is the taker's journal
  pub takeover : (n : NodeName) (v : World E) → WorldStep {Q = E} due bounds w (Take n) v → (v.base.booked ≡ (node_at w.base.nodes n).journal) × Begins v.base.booked w.base.booked
  takeover n v g = (ap (λ (z : Resolved E). z.booked) g.1.1, grows {Q = E} due bounds w.base (base_sound due w s) (Take n) v.base g.1)

  equal_in : (y : Resolved E) → (holder_journal y ≡ y.booked) × (other_journal y ≡ y.booked) → (holder_journal (duty_changed y y.duty.holder Both y.booked) ≡ y.booked) × (other_journal (duty_changed y y.duty.holder Both y.booked) ≡ y.booked)
  equal_in y e = (same_journal y.duty.holder y.duty.holder y.nodes (suc y.duty.epoch) ∙ e.0, same_journal y.duty.holder (other y.duty.holder) y.nodes (suc y.duty.epoch) ∙ e.1)

  pub pair : (v : World E) → WorldStep {Q = E} due bounds w Pair_up v → (c : Choice) → (holder_journal (resolved c v) ≡ v.base.booked) × (other_journal (resolved c v) ≡ v.base.booked)
  pair v g c =
      let h = w.base.duty.holder in
      let new : World E = record w { base = duty_changed w.base h Both w.base.booked } in
      let can = can_pair due w s bounds c g.1.0 in
      let is_new : v ≡ record w { base = duty_changed w.base w.base.duty.holder Both w.base.booked } = g.2 ∙ ap (λ (z : Resolved E). record w { base = z }) g.1.1 in
      let is : resolved c (record w { base = duty_changed w.base w.base.duty.holder Both w.base.booked }) ≡ duty_changed (unrecovered c w) w.base.duty.holder Both w.base.booked =
      ap (λ r. cond r (unrecovered c (record w { base = duty_changed w.base w.base.duty.holder Both w.base.booked })) (recovered (with_failed_duty w.failed_duty c.duty (unrecovered c (record w { base = duty_changed w.base w.base.duty.holder Both w.base.booked }))))) g.0 ∙ same_is due w s Both c in
      subst (λ (z : World E). (holder_journal (resolved c z) ≡ z.base.booked) × (other_journal (resolved c z) ≡ z.base.booked)) (sym is_new)
      (subst (λ (y : Resolved E). (holder_journal y ≡ w.base.booked) × (other_journal y ≡ w.base.booked)) (sym is)
      (equal_in (unrecovered c w) (pair_equal due (unrecovered c w) (s.unrecovered_parts c) can.free can.in_step)))
