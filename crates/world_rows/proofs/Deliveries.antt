-- What the row of a delivery gives is a step of the world.
use Rattle.std.proofs.Common.{◌≡◌, ◌<◌, ◌≤◌, ◌∙◌, ℕ, suc, inl, inr, Bool, true, false, if◌then◌else◌, List, length, refl, ap, sym, subst, Option, Some, None}
use Rattle.ali_base.specs.declared.names.NodeName.{NodeName}
use Rattle.office_entry.specs.declared.entry.Entry.{Entry}
use Rattle.office_state.specs.declared.limits.Limits.{Limits}
use Rattle.pair_world.specs.Changes.{delivered, epoch_heard, write_failed, journal_stored}
use Rattle.pair_world.specs.Deliveries as answers
use Rattle.pair_world.specs.Deliveries.{Answer, answer, NodeMessage, Told_behind, told_as}
use Rattle.pair_world.specs.Frames.{Frame, item_at, OnItem}
use Rattle.pair_world.specs.Refusals as refusals
use Rattle.pair_world.specs.Refusals.{No_message, disk_of}
use Rattle.pair_world.specs.Step.{Bounds, Deliver, CanDeliver, CanStore, OnShipment, IsBehind, FailsToStore, WorldStep}
use Rattle.pair_world.specs.World.{World, Message, Ships, Acks, Shipment, Ack, other, told_by, is_up, known}
use Rattle.pair_world.proofs.ExactRows.{shipment_exact, ack_exact}
use Rattle.pair_world.proofs.Received.{fresh_said, behind_said, behind_or_not, taken_not_behind}
use Rattle.world_rows.specs.Counts.{Counts}
use Rattle.world_rows.specs.Histories.{due_after, state_of}
use Rattle.world_rows.specs.Rows.{Success, Gives}
use Rattle.world_rows.specs.Told.{Told, Refused, Failed, Behind, Cut, Stored, Have, Have_end, Acked, Acked_end}
use Rattle.world_rows.specs.WorldRows.{journal_at, answer_row, acked_told, message_row, deliver_row}
use Rattle.world_rows.specs.WorldSteps.{OfficeEvent, IsStep}
use Rattle.world_rows.proofs.Events.{step_like, refusal_steps}
use Rattle.world_rows.proofs.Items.{items_give}

-- the receiver is not behind
abbrev IsTaken : Answer Entry → Type 0
IsTaken answers.Behind = ⊥
IsTaken (answers.Cut left) = Unit {0}
IsTaken (answers.Stored frame) = Unit {0}
IsTaken answers.Have = Unit {0}
IsTaken answers.Have_end = Unit {0}

-- and then it does not say so
not_said : (journal : List (Frame Entry)) (m : NodeMessage Entry) (len number : ℕ) (a : Answer Entry) → IsTaken a → told_as journal m a ≡ Told_behind len number → ⊥
not_said journal m len number answers.Behind taken said = absurd taken
not_said journal m len number (answers.Cut left) taken said = absurd (cc)
not_said journal m len number (answers.Stored frame) taken said = absurd (cc)
not_said journal m len number answers.Have taken said = absurd (cc)
not_said journal m len number answers.Have_end taken said = absurd (cc)

module _ (limits : Limits) (bounds : Bounds) (w : World Entry) (i : ℕ) (x : Shipment Entry) (at : item_at w.base.messages i ≡ Some (Ships x))
    (register : w.register_up ≡ true) (up : is_up w.base (other x.sender)) (fresh : known w.base (other x.sender) ≤ x.epoch) where
  abbrev journal : List (Frame Entry)
  journal = journal_at w (other x.sender)

  can_store : (a : Answer Entry) → IsTaken a → answer journal (told_by x) ≡ a → CanStore w.base x
  can_store a taken is = elim (behind_or_not w.base x up fresh) [
    | inl behind ↦ absurd (not_said journal (told_by x) (length journal) (suc x.preceding) a taken (sym (ap (told_as journal (told_by x)) is) ∙ sym (fresh_said w.base x fresh) ∙ behind_said w i x at behind))
    | inr can ↦ can
  ]

  is_behind : answer journal (told_by x) ≡ answers.Behind → IsBehind w.base x
  is_behind is = elim (behind_or_not w.base x up fresh) [
    | inl behind ↦ behind
    | inr can ↦ absurd (taken_not_behind w i x at can is)
  ]

  heard : IsBehind w.base x → (len number : ℕ) → IsStep limits bounds w (Deliver i) (Behind len number) (record w { base = epoch_heard w.base x })
  heard behind len number =
      let P : Option (Message Entry) → Type 0 = λ o. OnItem o (λ m. OnShipment m (λ y. IsBehind w.base y × (record w { base = epoch_heard w.base x } ≡ record w { base = epoch_heard w.base y }))) in
      (register, subst P (sym at) (behind, refl))

  done : CanStore w.base x → WorldStep {Q = List ℕ} (due_after limits) bounds w (Deliver i) (record w { base = delivered w.base (Ships x) })
  done can =
      let P : Option (Message Entry) → Type 0 = λ o. OnItem o (λ m. CanDeliver w.base m × (delivered w.base (Ships x) ≡ delivered w.base m)) in
      (register, subst P (sym at) (can, refl), refl)

  failed : CanStore w.base x → (d : _) → IsStep limits bounds w (Deliver i) (Failed d) (write_failed w (other x.sender) (journal_stored w.base x))
  failed can d =
      let u = write_failed w (other x.sender) (journal_stored w.base x) in
      let P : Option (Message Entry) → Type 0 = λ o. OnItem o (λ m. OnShipment m (λ y. FailsToStore w y u)) in
      (register, subst P (sym at) (inr (can, refl)))

  pub shipment_steps : (before now : Counts) (made : ℕ) (told : Told) (v : World Entry) (a : Answer Entry) → answer journal (told_by x) ≡ a
      → Gives before now Failed w (answer_row limits w x made (record w { base = delivered w.base (Ships x) }) a) told v
      → IsStep limits bounds w (Deliver i) told v
  shipment_steps before now made told v answers.Behind is g =
      step_like limits bounds w (Deliver i) told _ v _ g.0 g.1 (heard (is_behind is) (length journal) (suc x.preceding))
  shipment_steps before now made told v (answers.Cut left) is (inl g) =
      step_like limits bounds w (Deliver i) told _ v _ g.0 g.1 (failed (can_store (answers.Cut left) tt is) (disk_of (other x.sender)))
  shipment_steps before now made told v (answers.Cut left) is (inr g) =
      step_like limits bounds w (Deliver i) told _ v _ g.0 g.1 (done (can_store (answers.Cut left) tt is))
  shipment_steps before now made told v (answers.Stored frame) is (inl g) =
      step_like limits bounds w (Deliver i) told _ v _ g.0 g.1 (failed (can_store (answers.Stored frame) tt is) (disk_of (other x.sender)))
  shipment_steps before now made told v (answers.Stored frame) is (inr g) =
      step_like limits bounds w (Deliver i) told _ v _ g.0 g.1 (done (can_store (answers.Stored frame) tt is))
  shipment_steps before now made told v answers.Have is g =
      step_like limits bounds w (Deliver i) told _ v _ g.0 g.1 (done (can_store answers.Have tt is))
  shipment_steps before now made told v answers.Have_end is g =
      step_like limits bounds w (Deliver i) told _ v _ g.0 g.1 (done (can_store answers.Have_end tt is))

module _ (limits : Limits) (bounds : Bounds) (before now : Counts) (w v : World Entry) (i : ℕ) (told : Told) where
  -- the acknowledgement of a frame or of the end
  acked : (b : Bool) (number epoch : ℕ) (u : World Entry) → WorldStep {Q = List ℕ} (due_after limits) bounds w (Deliver i) u
      → IsStep limits bounds w (Deliver i) (if b then Acked_end number epoch else Acked number epoch) u
  acked true number epoch u step = step
  acked false number epoch u step = step

  ack_steps : (ack : Ack) → item_at w.base.messages i ≡ Some (Acks ack) → (w.register_up ≡ true) × CanDeliver w.base (Acks ack)
      → (told ≡ acked_told limits w ack) × (v ≡ record w { base = delivered w.base (Acks ack) }) → IsStep limits bounds w (Deliver i) told v
  ack_steps ack at can g =
      let P : Option (Message Entry) → Type 0 = λ o. OnItem o (λ m. CanDeliver w.base m × (delivered w.base (Acks ack) ≡ delivered w.base m)) in
      step_like limits bounds w (Deliver i) told _ v _ g.0 g.1 (acked ack.end (suc ack.preceding) ack.epoch _ (can.0, subst P (sym at) (can.1, refl), refl))

  pub deliver_steps : Gives before now Failed w (deliver_row limits w i) told v → IsStep limits bounds w (Deliver i) told v
  deliver_steps gives = by_item (item_at w.base.messages i) refl gives
    where
      by_item : (o : Option (Message Entry)) → item_at w.base.messages i ≡ o → Gives before now Failed w (message_row limits w i o) told v → IsStep limits bounds w (Deliver i) told v
      by_item None at g = step_like limits bounds w (Deliver i) told (Refused (No_message i (length w.base.messages))) v w g.0 g.1 refl
      by_item (Some (Ships x)) at g = elim (items_give before now (state_of limits w) w _ (refusals.message_row w i (Some (Ships x))) told v g) [
        | inl one ↦ refusal_steps limits bounds w (Deliver i) told v one
        | inr rest ↦
            let can = shipment_exact (due_after limits) w i x rest.0 in
            shipment_steps limits bounds w i x at can.0 can.1 can.3 before now (suc (length w.base.messages)) told v
            (answer (journal_at w (other x.sender)) (told_by x)) refl rest.1
      ]
      by_item (Some (Acks ack)) at g = elim (items_give before now (state_of limits w) w (Success (acked_told limits w ack) (record w { base = delivered w.base (Acks ack) })) (refusals.message_row w i (Some (Acks ack))) told v g) [
        | inl one ↦ refusal_steps limits bounds w (Deliver i) told v one
        | inr rest ↦ ack_steps ack at (ack_exact (due_after limits) w i ack rest.0) rest.1
      ]
