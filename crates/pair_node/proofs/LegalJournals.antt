-- What of the holder's journal is legal.
use Rattle.std.proofs.Common.{◌≡◌, ℕ, suc, ◌≤◌, ◌⊎◌, inl, inr, List, [], ◌∷◌, ◌++◌, length, take, sym, ap, subst, ◌∙◌, refl, Option, Some, None}
use Rattle.std.specs.Prelude.{slice_get}
use Rattle.std.proofs.lemmas.List.{take_all}
use Rattle.office_entry.specs.declared.entry.Entry.{Entry}
use Rattle.office_state.specs.declared.limits.Limits.{Limits}
use Rattle.pair_world.specs.Frames.{Frame, Legal}
use Rattle.pair_world.specs.SoundWorld.{IsBooked}
use Rattle.pair_world.specs.World.{Resolved, holder_journal}
use Rattle.pair_world.proofs.Items.{nth_more, slice_none}
use Rattle.pair_world.proofs.Lists.{Legal-push}
use Rattle.world_rows.specs.Histories.{due_after}

-- the journal is the booked history, or has one frame more
longer : (xs : List (Frame Entry)) (n : ℕ) → length xs ≤ suc n → (length xs ≤ n) ⊎ ((f : Frame Entry) × (slice_get xs n ≡ Some f) × (xs ≡ take n xs ++ f ∷ []))
longer xs n le = by_item (slice_get xs n) refl
  where
    by_item : (o : Option (Frame Entry)) → slice_get xs n ≡ o → (length xs ≤ n) ⊎ ((f : Frame Entry) × (slice_get xs n ≡ Some f) × (xs ≡ take n xs ++ f ∷ []))
    by_item None is = inl (slice_none xs n is)
    by_item (Some f) is =
        let more = nth_more xs n f is in
        inr (f, is, sym (take_all (suc n) xs le) ∙ more.1)

-- all of the holder's journal is legal
pub journal_legal : (limits : Limits) (w : Resolved Entry) → IsBooked (due_after limits) w → Legal (due_after limits) (holder_journal w)
journal_legal limits w parts = by_length (longer (holder_journal w) (length w.booked) parts.one_more)
  where
    front : take (length w.booked) (holder_journal w) ≡ w.booked
    front = parts.begins.front

    by_length : (length (holder_journal w) ≤ length w.booked) ⊎ ((f : Frame Entry) × (slice_get (holder_journal w) (length w.booked) ≡ Some f) × (holder_journal w ≡ take (length w.booked) (holder_journal w) ++ f ∷ []))
        → Legal (due_after limits) (holder_journal w)
    by_length (inl short) = subst (Legal (due_after limits)) (sym front ∙ take_all (length w.booked) (holder_journal w) short) parts.legal
    by_length (inr (f, at, is)) =
        subst (Legal (due_after limits)) (sym (is ∙ ap (λ (xs : List (Frame Entry)). xs ++ f ∷ []) front)) (Legal-push (due_after limits) w.booked f (parts.pending_due f at) parts.legal)
