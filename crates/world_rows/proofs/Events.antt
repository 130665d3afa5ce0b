-- What the row of a write gives is a step of the world.
use Rattle.std.proofs.Common.{◌≡◌, suc, inl, inr, true, not, List, [], ◌∷◌, length, refl, sym, subst}
use Rattle.ali_base.specs.declared.duty.Mode.TheVariants.{Both}
use Rattle.ali_base.specs.declared.names.DiskName.TheVariants as disk
use Rattle.ali_base.specs.declared.names.NodeName.{NodeName}
use Rattle.office_entry.specs.Entries.{IsEntry}
use Rattle.office_entry.specs.declared.entry.Entry.{Entry}
use Rattle.office_state.specs.declared.limits.Limits.{Limits}
use Rattle.pair_world.specs.Changes.{journal_written, written, read_failed, write_failed}
use Rattle.pair_world.specs.Refusals as refusals
use Rattle.pair_world.specs.Refusals.{Item, Test, Next, disk_of}
use Rattle.pair_world.specs.Step.{Bounds, Write, Pair_up, CanWrite, CanPair}
use Rattle.pair_world.specs.World.{World, is_node, node_at, holder_journal, is_up}
use Rattle.pair_world.proofs.ExactRows.{write_exact, pair_exact}
use Rattle.pair_world.proofs.RowTests.{passed, not_false, up_passed}
use Rattle.pair_world.proofs.Terms.{same_node}
use Rattle.world_rows.specs.Counts.{Counts}
use Rattle.world_rows.specs.Histories.{due_after, state_of, IsLawful}
use Rattle.world_rows.specs.Rows.{Row, MayFail, Success, Gives}
use Rattle.world_rows.specs.Told.{Told, Refused, Not_due, Failed, Written}
use Rattle.world_rows.specs.WorldRows.{unless, write_row, duty_row, pair_row}
use Rattle.world_rows.specs.WorldSteps.{OfficeEvent, IsStep}
use Rattle.world_rows.proofs.Items.{ArePassed, IsRefusal, items_give, passed_is_due}

module _ (limits : Limits) (bounds : Bounds) (w : World Entry) (event : OfficeEvent) where
  -- a step, told and left as this one is
  pub step_like : (told one : Told) (v u : World Entry) → told ≡ one → v ≡ u → IsStep limits bounds w event one u → IsStep limits bounds w event told v
  step_like told one v u same left step =
      subst (λ (t : Told). IsStep limits bounds w event t v) (sym same) (subst (λ (z : World Entry). IsStep limits bounds w event one z) (sym left) step)

  -- a refusal is a step, which changes nothing
  pub refusal_steps : (told : Told) (v : World Entry) → IsRefusal w told v → IsStep limits bounds w event told v
  refusal_steps told v (inl refused, same) = step_like told (Refused refused.0) v w refused.1 same refl
  refusal_steps told v (inr fault, same) = step_like told (Not_due fault.0) v w fault.1 same refl

module _ (limits : Limits) (bounds : Bounds) (before now : Counts) (w v : World Entry) (node : NodeName) (entry : Entry) (told : Told) where
  pub write_steps : IsLawful limits bounds w → IsEntry entry → Gives before now Failed w (write_row limits w bounds node entry) told v → IsStep limits bounds w (Write entry) told v
  write_steps lawful good gives = elim (items_give before now (state_of limits w) w (MayFail (disk_of h) (read_failed w h) late) early told v gives) [
    | inl one ↦ refusal_steps limits bounds w (Write entry) told v one
    | inr rest ↦ read rest.0 rest.1
  ]
    where
      h : NodeName
      h = w.base.duty.holder

      early : List (Item Entry)
      early = Test (refusals.duty_is_down w) ∷ Test (refusals.node_is_down w node) ∷ Test (refusals.not_holder w node) ∷ Test (refusals.in_flight w) ∷ []

      done : Row Told (World Entry)
      done =
          MayFail (disk_of h) (write_failed w h (journal_written w.base entry))
          (Success (Written (suc (length (holder_journal w.base))) w.base.duty.epoch) (record w { base = written w.base entry }))

      late : Row Told (World Entry)
      late = unless (state_of limits w) (Next entry ∷ Test (refusals.full w bounds) ∷ []) done

      wrote : (w.register_up ≡ true) × (node ≡ h) × CanWrite (due_after limits) bounds w.base entry → Gives before now Failed w done told v → IsStep limits bounds w (Write entry) told v
      wrote can (inl failed) = step_like limits bounds w (Write entry) told (Failed (disk_of h)) v (write_failed w h (journal_written w.base entry)) failed.0 failed.1 (can.0, inr (can.2, refl))
      wrote can (inr success) = step_like limits bounds w (Write entry) told _ v _ success.0 success.1 (can.0, (can.2, refl), refl)

      read : ArePassed (state_of limits w) early → Gives before now Failed w (MayFail (disk_of h) (read_failed w h) late) told v → IsStep limits bounds w (Write entry) told v
      read (register, (up, (own, (free, end)))) (inl failed) =
          let holds = same_node node h (not_false (is_node node h) (passed (not (is_node node h)) _ own)) in
          let holder_up = subst (is_up w.base) holds (up_passed (node_at w.base.nodes node).up _ up) in
          step_like limits bounds w (Write entry) told (Failed (disk_of h)) v (read_failed w h) failed.0 failed.1 (up_passed w.register_up _ register, inl (holder_up, refl))
      read (register, (up, (own, (free, end)))) (inr gives) = elim (items_give before now (state_of limits w) w done (Next entry ∷ Test (refusals.full w bounds) ∷ []) told v gives) [
        | inl one ↦ refusal_steps limits bounds w (Write entry) told v one
        | inr rest ↦ wrote (write_exact (due_after limits) w bounds node entry lawful.sound (register, (up, (own, (free, ((good, passed_is_due (state_of limits w) entry rest.0.0), (rest.0.1.0, tt))))))) rest.1
      ]

module _ (limits : Limits) (bounds : Bounds) (before now : Counts) (w v : World Entry) (told : Told) where
  pub pair_steps : IsLawful limits bounds w → Gives before now Failed w (pair_row limits w bounds) told v → IsStep limits bounds w Pair_up told v
  pair_steps lawful gives = elim (items_give before now (state_of limits w) w (duty_row limits w h Both w.base.booked) (refusals.pair_row w bounds) told v gives) [
    | inl one ↦ refusal_steps limits bounds w Pair_up told v one
    | inr rest ↦ changed (pair_exact (due_after limits) w bounds lawful.sound rest.0) rest.1
  ]
    where
      h : NodeName
      h = w.base.duty.holder

      changed : (w.register_up ≡ true) × CanPair bounds w.base → Gives before now Failed w (duty_row limits w h Both w.base.booked) told v → IsStep limits bounds w Pair_up told v
      changed can (inl failed) = step_like limits bounds w Pair_up told (Failed disk.Duty) v _ failed.0 failed.1 (can.0, can.1, refl)
      changed can (inr success) = step_like limits bounds w Pair_up told _ v _ success.0 success.1 (can.0, (can.1, refl), refl)
