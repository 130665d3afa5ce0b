-- The rows of events of the world: what such a row gives in the machine, it gives in the world; and each order is a step of the world.
use Rattle.std.proofs.Common.{◌≡◌, inl, inr, ℕ, suc, ◌<◌, Bool, [], ◌∷◌, length, refl, sym, Option, Some, None, option_map}
use Rattle.ali_base.specs.declared.duty.Mode.TheVariants.{Alone}
use Rattle.ali_base.specs.declared.names.DiskName.{DiskName}
use Rattle.ali_base.specs.declared.names.DiskName.TheVariants as disk
use Rattle.ali_base.specs.declared.names.NodeName.{NodeName}
use Rattle.office_entry.specs.declared.entry.Entry.{Entry}
use Rattle.office_state.specs.declared.limits.Limits.{Limits}
use Rattle.pair_world.specs.Changes.{read_failed, booked_next, shipped, stopped, started, register_started}
use Rattle.pair_world.specs.Refusals as refusals
use Rattle.pair_world.specs.Refusals.{Test, disk_of}
use Rattle.pair_world.specs.Step.{Bounds, Book, Ship, Take, Go_alone, Stop, Start, Start_duty}
use Rattle.pair_world.specs.World.{World, node_at, pending}
use Rattle.pair_world.proofs.ExactRows.{book_exact, ship_exact, take_exact}
use Rattle.pair_world.proofs.Items.{some_is, none_some}
use Rattle.pair_world.proofs.RowTests.{passed, up_passed}
use Rattle.world_rows.specs.Counts.{Counts}
use Rattle.world_rows.specs.Histories.{due_after, state_of}
use Rattle.world_rows.specs.Rows.{Row, Unless, MayFail, Always, Success, Gives, row_in}
use Rattle.world_rows.specs.Told.{Told, Failed, Booked, Sent, Stopped, Started, Started_duty, Told_status}
use Rattle.world_rows.specs.WorldRows.{unless, journal_at, book_row, stop_row, start_row, ship_row, take_row, alone_row, start_duty_row, status_row, duty_row, verdict_of, report}
use Rattle.world_rows.specs.WorldSteps.{OfficeEvent, IsStep}
use Rattle.world_rows.proofs.Events.{step_like, refusal_steps}
use Rattle.world_rows.proofs.Items.{items_give}

none_of : {R S : Type 0} (told : R → S) (o : Option R) → option_map told o ≡ None → o ≡ None
none_of told None is = refl
none_of told (Some r) is = absurd (none_some (told r) (sym is))

-- What a row in a larger place gives comes from its own place.
pub record GivenBy {R S W M : Type 0} (told : R → S) (put : W → M) (before now : Counts) (failure : DiskName → R) (w : W) (row : Row R W) (s : S) (x : M) : Type 0 where
  pub reply : R
  pub left : W
  pub told_is : s ≡ told reply
  pub left_is : x ≡ put left
  pub gives : Gives before now failure w row reply left

module _ {R S W M : Type 0} (told : R → S) (put : W → M) (before now : Counts) (failure : DiskName → R) (w : W) where
  pub gives_out : (row : Row R W) (s : S) (x : M) → Gives before now (λ disk. told (failure disk)) (put w) (row_in told put row) s x → GivenBy told put before now failure w row s x
  gives_out (Unless None row) s x (inl g) = absurd (none_some s g.0)
  gives_out (Unless (Some r) row) s x (inl g) = record { reply = r; left = w; told_is = sym (some_is (told r) s g.0); left_is = g.1; gives = inl (refl, refl) }
  gives_out (Unless refusal row) s x (inr g) =
      let rest = gives_out row s x g.1 in
      record { reply = rest.reply; left = rest.left; told_is = rest.told_is; left_is = rest.left_is; gives = inr (none_of told refusal g.0, rest.gives) }
  gives_out (MayFail disk left row) s x (inl g) = record { reply = failure disk; left = left; told_is = g.0; left_is = g.1; gives = inl (refl, refl, g.2) }
  gives_out (MayFail disk left row) s x (inr g) =
      let rest = gives_out row s x g in
      record { reply = rest.reply; left = rest.left; told_is = rest.told_is; left_is = rest.left_is; gives = inr rest.gives }
  gives_out (Always refusal) s x g = record { reply = refusal; left = w; told_is = g.0; left_is = g.1; gives = (refl, refl) }
  gives_out (Success done left) s x g = record { reply = done; left = left; told_is = g.0; left_is = g.1; gives = (refl, refl) }

module _ (limits : Limits) (bounds : Bounds) (before now : Counts) (w v : World Entry) (told : Told) where
  abbrev GivesIn : Row Told (World Entry) → Type 0
  GivesIn row = Gives before now Failed w row told v

  abbrev StepsBy : OfficeEvent → Type 0
  StepsBy event = IsStep limits bounds w event told v

  -- what is left of each row behind its refusals

  abbrev booking : Row Told (World Entry)
  booking =
      MayFail (disk_of w.base.duty.holder) (read_failed w w.base.duty.holder)
      (Success (Booked (suc (length w.base.booked)) (verdict_of (state_of limits w) (pending w.base))) (record w { base = booked_next w.base }))

  abbrev shipping : ℕ → Row Told (World Entry)
  shipping k =
      MayFail (disk_of w.base.duty.holder) (read_failed w w.base.duty.holder)
      (Success (Sent (suc (length w.base.messages))) (record w { base = shipped w.base k }))

  abbrev stopping : NodeName → Row Told (World Entry)
  stopping n = Success (Stopped n) (record w { base = stopped w.base n })

  abbrev starting : NodeName → Bool → Row Told (World Entry)
  starting n lasted = Success (Started n (length (journal_at (started w n lasted) n)) w.base.duty.epoch) (started w n lasted)

  abbrev reading : NodeName → Bool → Row Told (World Entry)
  reading n lasted = MayFail (disk_of n) w (unless (state_of limits w) (Test (refusals.short w n (journal_at (started w n lasted) n)) ∷ []) (starting n lasted))

  abbrev duty_starting : Bool → Row Told (World Entry)
  duty_starting lasted = MayFail disk.Duty w (Success (Started_duty (register_started w lasted).base.duty) (register_started w lasted))

  pub book_steps : GivesIn (book_row limits w) → StepsBy Book
  book_steps gives = elim (items_give before now (state_of limits w) w booking (refusals.book_row w) told v gives) [
    | inl one ↦ refusal_steps limits bounds w Book told v one
    | inr rest ↦ (
        let can = book_exact (due_after limits) w rest.0 in
        elim rest.1 [
          | inl failed ↦ step_like limits bounds w Book told _ v _ failed.0 failed.1 (can.0, can.1.up, refl)
          | inr done ↦ step_like limits bounds w Book told _ v _ done.0 done.1 (can.0, (can.1, refl), refl)
        ])
  ]

  pub ship_steps : (n : NodeName) (k : ℕ) → 0 < k → GivesIn (ship_row limits w n k) → StepsBy (Ship k)
  ship_steps n k low gives = elim (items_give before now (state_of limits w) w (shipping k) (refusals.ship_row w n k) told v gives) [
    | inl one ↦ refusal_steps limits bounds w (Ship k) told v one
    | inr rest ↦ (
        let can = ship_exact (due_after limits) w n k low rest.0 in
        elim rest.1 [
          | inl failed ↦ step_like limits bounds w (Ship k) told _ v _ failed.0 failed.1 (can.0, can.2.up, refl)
          | inr done ↦ step_like limits bounds w (Ship k) told _ v _ done.0 done.1 (can.0, (can.2, refl), refl)
        ])
  ]

  pub take_steps : (n : NodeName) → GivesIn (take_row limits w bounds n) → StepsBy (Take n)
  take_steps n gives = elim (items_give before now (state_of limits w) w (duty_row limits w n Alone (journal_at w n)) (refusals.take_row w bounds n) told v gives) [
    | inl one ↦ refusal_steps limits bounds w (Take n) told v one
    | inr rest ↦ (
        let can = take_exact (due_after limits) w bounds n rest.0 in
        elim rest.1 [
          | inl failed ↦ step_like limits bounds w (Take n) told _ v _ failed.0 failed.1 (can.0, inr (can.1, refl))
          | inr done ↦ step_like limits bounds w (Take n) told _ v _ done.0 done.1 (can.0, (can.1, refl), refl)
        ])
  ]

  pub alone_steps : GivesIn (alone_row limits w bounds) → StepsBy Go_alone
  alone_steps gives = elim (items_give before now (state_of limits w) w (duty_row limits w w.base.duty.holder Alone w.base.booked) (refusals.alone_row w bounds) told v gives) [
    | inl one ↦ refusal_steps limits bounds w Go_alone told v one
    | inr rest ↦ (
        let can = take_exact (due_after limits) w bounds w.base.duty.holder rest.0 in
        elim rest.1 [
          | inl failed ↦ step_like limits bounds w Go_alone told _ v _ failed.0 failed.1 (can.0, can.1, refl)
          | inr done ↦ step_like limits bounds w Go_alone told _ v _ done.0 done.1 (can.0, (can.1, refl), refl)
        ])
  ]

  pub stop_steps : (n : NodeName) → GivesIn (stop_row limits w n) → StepsBy (Stop n)
  stop_steps n gives = elim (items_give before now (state_of limits w) w (stopping n) (refusals.stop_row w n) told v gives) [
    | inl one ↦ refusal_steps limits bounds w (Stop n) told v one
    | inr rest ↦ step_like limits bounds w (Stop n) told _ v _ rest.1.0 rest.1.1 ((up_passed (node_at w.base.nodes n).up _ rest.0.0, refl), refl)
  ]

  pub start_steps : (n : NodeName) (lasted : Bool) → GivesIn (start_row limits w n lasted) → StepsBy (Start n)
  start_steps n lasted gives = elim (items_give before now (state_of limits w) w (reading n lasted) (Test (refusals.duty_is_down w) ∷ Test (refusals.node_is_up w n) ∷ []) told v gives) [
    | inl one ↦ refusal_steps limits bounds w (Start n) told v one
    | inr rest ↦ (
        let register = up_passed w.register_up _ rest.0.0 in
        let down = passed (node_at w.base.nodes n).up _ rest.0.1.0 in
        elim rest.1 [
          | inl failed ↦ step_like limits bounds w (Start n) told _ v _ failed.0 failed.1 (register, down, refl)
          | inr read ↦ (elim (items_give before now (state_of limits w) w (starting n lasted) (Test (refusals.short w n (journal_at (started w n lasted) n)) ∷ []) told v read) [
            | inl one ↦ refusal_steps limits bounds w (Start n) told v one
            | inr done ↦ step_like limits bounds w (Start n) told _ v _ done.1.0 done.1.1 (lasted, register, down, refl)
          ])
        ])
  ]

  pub start_duty_steps : (lasted : Bool) → GivesIn (start_duty_row limits w lasted) → StepsBy Start_duty
  start_duty_steps lasted gives = elim (items_give before now (state_of limits w) w (duty_starting lasted) (refusals.start_duty_row w) told v gives) [
    | inl one ↦ refusal_steps limits bounds w Start_duty told v one
    | inr rest ↦ (
        let down = passed w.register_up _ rest.0.0 in
        elim rest.1 [
          | inl failed ↦ step_like limits bounds w Start_duty told _ v _ failed.0 failed.1 (down, inl refl)
          | inr done ↦ step_like limits bounds w Start_duty told _ v _ done.0 done.1 (lasted, down, refl)
        ])
  ]

  -- how things stand changes nothing
  pub status_stays : GivesIn (status_row limits w) → v ≡ w
  status_stays gives = elim (items_give before now (state_of limits w) w (Success (Told_status (report limits w)) w) (refusals.status_row w) told v gives) [
    | inl one ↦ one.1
    | inr rest ↦ rest.1.1
  ]
