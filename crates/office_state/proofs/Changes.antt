-- What one entry more does to a row of a legal history, and what any entries do to the ids of ranges.
use Rattle.std.proofs.Common.{◌≡◌, ℕ, ◌<◌, ◌≤◌, List, [], ◌∷◌, ◌++◌, Option, Some, None, IsSome, is_none, true, false, refl, ap, sym, ◌∙◌, subst, arith}
use Rattle.std.specs.List.{fold}
use Rattle.std.specs.FinMap.{get}
use Rattle.std.specs.Option.{unwrap_or}
use Rattle.std.proofs.lemmas.List.Elements.{All-contains}
use Rattle.line_booking.proofs.LineRows.{unlocks, new_locked}
use Rattle.msag_edits.specs.Edits.{edit_verdict}
use Rattle.msag_edits.proofs.EditedRows.{rows_kept, numbers_kept}
use Rattle.msag_edits.proofs.Ranges.{live}
use Rattle.msag_edits.proofs.RangeIds.{IsGone, ids_gone, next_kept}
use Rattle.msag_ranges.specs.StreetGuide.{range_of}
use Rattle.msag_ranges.specs.declared.range.Range.{Range}
use Rattle.number_life.specs.declared.row.Row.{Row}
use Rattle.office_entry.specs.declared.entry.Entry.{Entry}
use Rattle.office_entry.specs.declared.entry.Entry.TheVariants.{Open, Line, Edit}
use Rattle.office_state.specs.declared.limits.Limits.{Limits}
use Rattle.office_state.specs.OfficeState.{State}
use Rattle.office_state.specs.Unlocks.{IsOwnersUnlock}
use Rattle.office_state.specs.Verdict.{after}
use Rattle.office_state.specs.History.{IsLegal, state}
use Rattle.office_state.proofs.Histories.{state_more}
use Rattle.office_state.proofs.SoundHistories.{IsSoundState, sound_legal}

-- ---- rows

same_row : (old new : Row) → Some old ≡ Some new → new.unlocked ≡ old.unlocked
same_row old new h = ap (λ (o : Option Row). (unwrap_or o old).unlocked) (sym h)

no_row : (new : Row) → None ≡ Some new → ⊥
no_row new h = cc

unlocked_by : (s : State) (e : Entry) (tn : List ℕ) (old new : Row) → IsSoundState s → get s.table tn ≡ Some old → let later = after s e in get later.table tn ≡ Some new
    → (new.unlocked ≡ old.unlocked → ⊥) → IsSome new.unlocked → IsOwnersUnlock e tn old new
unfolding after
unlocked_by s (Open company cycle count day digest) tn old new sound has then differ some = absurd (differ (same_row old new (sym has ∙ then)))
unlocked_by s (Line company cycle line bytes) tn old new sound has then differ some = record {
  company = company;
  cycle = cycle;
  line = line;
  bytes = bytes;
  entry = refl;
  unlocks = unlocks s.guide.ranges s.table s.most_numbers company bytes tn old has new then differ some;
}
unlocked_by s (Edit editor serial edit) tn old new sound has then differ some = absurd (differ (rows_kept s.guide s.table edit sound.sound tn old new has then).lock)

locked_new : (s : State) (e : Entry) (tn : List ℕ) (new : Row) → get s.table tn ≡ None → let later = after s e in get later.table tn ≡ Some new → new.unlocked ≡ None
unfolding after
locked_new s (Open company cycle count day digest) tn new none then = absurd (no_row new (sym none ∙ then))
locked_new s (Line company cycle line bytes) tn new none then = new_locked s.guide.ranges s.table s.most_numbers company bytes tn new none then
locked_new s (Edit editor serial edit) tn new none then =
    absurd (let h : true ≡ false = sym (ap is_none none) ∙ sym (numbers_kept s.guide s.table edit (edit_verdict s.guide s.table edit).code tn) ∙ ap is_none then in cc h)

one_more : (limits : Limits) (history : List Entry) (e : Entry) (tn : List ℕ) (row : Row) → get (state limits (history ++ e ∷ [])).table tn ≡ Some row → let later = after (state limits history) e in get later.table tn ≡ Some row
one_more limits history e tn row then = subst (λ (s : State). get s.table tn ≡ Some row) (state_more limits history (e ∷ [])) then

-- a row gets a day of unlocking by its owner's unlock alone
pub owner_unlocks : (limits : Limits) (history : List Entry) (e : Entry) (tn : List ℕ) (old new : Row) → IsLegal limits history → get (state limits history).table tn ≡ Some old → get (state limits (history ++ e ∷ [])).table tn ≡ Some new
    → (new.unlocked ≡ old.unlocked → ⊥) → IsSome new.unlocked → IsOwnersUnlock e tn old new
owner_unlocks limits history e tn old new legal has then differ some =
    unlocked_by (state limits history) e tn old new (sound_legal limits history legal) has (one_more limits history e tn new then) differ some

-- a number that had no row gets a locked one
pub new_is_locked : (limits : Limits) (history : List Entry) (e : Entry) (tn : List ℕ) (new : Row) → get (state limits history).table tn ≡ None → get (state limits (history ++ e ∷ [])).table tn ≡ Some new → new.unlocked ≡ None
new_is_locked limits history e tn new none then = locked_new (state limits history) e tn new none (one_more limits history e tn new then)

-- ---- ids of ranges

gone_after : (s : State) (e : Entry) (id : ℕ) → id < s.guide.next → IsGone s.guide.ranges id → let later = after s e in (id < later.guide.next) × IsGone later.guide.ranges id
unfolding after
gone_after s (Open company cycle count day digest) id less gone = (less, gone)
gone_after s (Line company cycle line bytes) id less gone = (less, gone)
gone_after s (Edit editor serial edit) id less gone =
    let code = (edit_verdict s.guide s.table edit).code in
    (omega (arith, less, next_kept s.guide edit code), ids_gone s.guide edit code id less gone)

gone_fold : (s : State) (more : List Entry) (id : ℕ) → id < s.guide.next → IsGone s.guide.ranges id → let later = fold after s more in IsGone later.guide.ranges id
gone_fold s [] id less gone = gone
gone_fold s (e ∷ more) id less gone = let h = gone_after s e id less gone in gone_fold (after s e) more id h.0 h.1

next_after : (s : State) (e : Entry) → let later = after s e in s.guide.next ≤ later.guide.next
unfolding after
next_after s (Open company cycle count day digest) = omega arith
next_after s (Line company cycle line bytes) = omega arith
next_after s (Edit editor serial edit) = next_kept s.guide edit (edit_verdict s.guide s.table edit).code

next_fold : (s : State) (more : List Entry) → let later = fold after s more in s.guide.next ≤ later.guide.next
next_fold s [] = omega arith
next_fold s (e ∷ more) = omega (arith, next_after s e, next_fold (after s e) more)

-- an id that is gone stays gone
pub stays_gone : (limits : Limits) (history more : List Entry) (id : ℕ) → id < (state limits history).guide.next → IsGone (state limits history).guide.ranges id → IsGone (state limits (history ++ more)).guide.ranges id
stays_gone limits history more id less gone = subst (λ (s : State). IsGone s.guide.ranges id) (sym (state_more limits history more)) (gone_fold (state limits history) more id less gone)

-- the next id never falls
pub next_rises : (limits : Limits) (history more : List Entry) → (state limits history).guide.next ≤ (state limits (history ++ more)).guide.next
next_rises limits history more = omega (arith, ap (λ (s : State). s.guide.next) (state_more limits history more), next_fold (state limits history) more)

found_below : (s : State) (id : ℕ) (o : Option Range) → IsSoundState s → range_of s.guide.ranges id ≡ o → IsSome o → id < s.guide.next
found_below s id None sound e some = absurd (cc some)
found_below s id (Some r) sound e some =
    let there = live s.guide.ranges id r e in
    omega (arith, there.1, All-contains (λ t. t.id < s.guide.next) s.guide.ranges r sound.sound.known there.0)

-- the ids that ranges have are below it
pub below_next : (limits : Limits) (history : List Entry) (id : ℕ) → IsLegal limits history → IsSome (range_of (state limits history).guide.ranges id) → id < (state limits history).guide.next
below_next limits history id legal some = found_below (state limits history) id (range_of (state limits history).guide.ranges id) (sound_legal limits history legal) refl some
