-- The law of disks, of a disk with a record of its calls.
use Rattle.std.specs.Prelude.{◌≡◌, ℕ, zero, suc, ◌+◌, ◌-◌, ◌<◌, ◌≤◌, true, false, List, [], ◌∷◌, ◌++◌, length, take, drop, replicate, slice_index, get_or}
use Rattle.std.proofs.Common.{inl, inr, refl, sym, ◌∙◌, ap, subst, arith, length-append, length-drop}
use Rattle.std.proofs.lemmas.List.{get_or-drop, get_or-append_right}
use Rattle.std.proofs.lemmas.Option.{same_Some}
use Rattle.crash_disk.specs.DiskState.{IsSound}
use Rattle.crash_disk.specs.CrashOutcomes.{Torn, written}
use Rattle.crash_disk.specs.CallRecord.{DiskCall, Looked, Wrote, Synced, content, MayLeave, LeftSince, recorded_state}

-- nothing is torn
pub untorn : (at n : ℕ) (f : List ℕ) → Torn at n f f
untorn at n f = record { no_shorter = omega arith; below = λ i short low. refl; above = λ i short high. refl }

-- a write tears no more than its range
from_start : (n : ℕ) (bytes f : List ℕ) → length bytes ≤ n → Torn 0 n f (bytes ++ drop (length bytes) f)
from_start n bytes f few = record {
  no_shorter = omega (arith, length-append bytes (drop (length bytes) f), length-drop (length bytes) f);
  below = λ i short low. absurd (omega (arith, low));
  above = λ i short high.
      let back : length bytes + (i - length bytes) ≡ i = omega (arith, few, high) in
      get_or-append_right bytes (drop (length bytes) f) (length bytes) i 0 refl (omega (arith, few, high)) ∙ get_or-drop (length bytes) f (i - length bytes) 0 ∙ ap (λ (j : ℕ). get_or f j 0) back;
}

at_start : (bytes f : List ℕ) → written 0 bytes f ≡ bytes ++ drop (length bytes) f
at_start bytes f =
    let gap : 0 - length f ≡ 0 = omega arith in
    let size : 0 + length bytes ≡ length bytes = omega arith in
    λ i. [] ++ replicate (gap i) 0 ++ bytes ++ drop (size i) f

at_next : (at : ℕ) (bytes : List ℕ) (x : ℕ) (f : List ℕ) → written (suc at) bytes (x ∷ f) ≡ x ∷ written at bytes f
at_next at bytes x f =
    let gap : suc at - length (x ∷ f) ≡ at - length f = omega arith in
    let size : suc at + length bytes ≡ suc (at + length bytes) = omega arith in
    λ i. x ∷ take at f ++ replicate (gap i) 0 ++ bytes ++ drop (size i) (x ∷ f)

-- one byte more in front of the range
pub torn_behind : (at n x : ℕ) (f g : List ℕ) → Torn at n f g → Torn (suc at) n (x ∷ f) (x ∷ g)
torn_behind at n x f g torn = record { no_shorter = omega (arith, torn.no_shorter); below = before; above = past }
  where
    before : (i : ℕ) → i < length (x ∷ f) → i < suc at → slice_index (x ∷ g) i ≡ slice_index (x ∷ f) i
    before zero short low = refl
    before (suc i) short low = torn.below i (omega (arith, short)) (omega (arith, low))

    past : (i : ℕ) → i < length (x ∷ f) → suc at + n ≤ i → slice_index (x ∷ g) i ≡ slice_index (x ∷ f) i
    past zero short high = refl
    past (suc i) short high = torn.above i (omega (arith, short)) (omega (arith, high))

pub written_is_torn : (at n : ℕ) (bytes f : List ℕ) → length bytes ≤ n → Torn at n f (written at bytes f)
written_is_torn at n bytes [] few = record { no_shorter = omega arith; below = λ i short low. absurd (omega (arith, short)); above = λ i short high. absurd (omega (arith, short)) }
written_is_torn zero n bytes (x ∷ f) few = subst (Torn 0 n (x ∷ f)) (sym (at_start bytes (x ∷ f))) (from_start n bytes (x ∷ f) few)
written_is_torn (suc at) n bytes (x ∷ f) few =
    subst (Torn (suc at) n (x ∷ f)) (sym (at_next at bytes x f)) (torn_behind at n x f (written at bytes f) (written_is_torn at n bytes f few))

-- a crash may leave what a read gives
pub as_read : (start : List ℕ) (calls : List DiskCall) → MayLeave start calls (content start calls)
as_read start [] = refl
as_read start (Looked ∷ calls) = as_read start calls
as_read start (Wrote at piece true ∷ calls) = (content start calls, as_read start calls, written_is_torn at (length piece) piece (content start calls) (omega arith))
as_read start (Wrote at piece false ∷ calls) = (content start calls, as_read start calls, untorn at (length piece) (content start calls))
as_read start (Synced ∷ calls) = refl

counts_now : (start : List ℕ) (calls : List DiskCall) (t : ℕ) (image : List ℕ) → MayLeave start calls image → LeftSince start calls t image
counts_now start [] t image now = now
counts_now start (call ∷ calls) t image now = inl now

only_now : (start : List ℕ) (calls : List DiskCall) (t : ℕ) (image : List ℕ) → length calls ≤ t → LeftSince start calls t image → MayLeave start calls image
only_now start [] t image none left = left
only_now start (call ∷ calls) t image none (inl now) = now
only_now start (call ∷ calls) t image none (inr before) = absurd (omega (arith, none, before.0))

pub recorded_sound : (start : List ℕ) (calls : List DiskCall) (faults : ℕ) → IsSound (recorded_state start calls faults)
recorded_sound start calls faults = record {
  counts_now = λ t image le now. counts_now start calls t image now;
  only_now = λ image left. only_now start calls (length calls) image (omega arith) left;
  as_read = λ f told. subst (MayLeave start calls) (same_Some _ _ told) (as_read start calls);
}
