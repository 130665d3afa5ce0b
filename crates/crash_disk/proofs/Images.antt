-- Bytes that are written again and filled: call by call, how long they become, and that a crash may leave them.
use Rattle.std.proofs.Common.{◌≡◌, ℕ, zero, suc, ◌+◌, ◌-◌, ◌<◌, ◌≤◌, min, max, Bool, true, false, List, [], ◌∷◌, ◌++◌, length, take, drop, replicate, get_or, refl, sym, ◌∙◌, ap, subst, arith, length-append, length-take, length-drop}
use Rattle.std.specs.Prelude.{slice_index}
use Rattle.std.proofs.lemmas.List.{length-replicate, append-nil, get_or-drop, get_or-append_right, get_or_append_left}
use Rattle.crash_disk.specs.CrashOutcomes.{Torn, written}
use Rattle.crash_disk.specs.CallRecord.{DiskCall, Looked, Wrote, Synced, content, MayLeave}
use Rattle.crash_disk.specs.CrashImages.{up_to_sync, since_sync, filled_range, filled_write, filled, crash_image}
use Rattle.crash_disk.specs.declared.kept.Kept.{Kept}
use Rattle.crash_disk.specs.declared.kept.Kept.TheVariants.{Old, New, Fill}
use Rattle.crash_disk.specs.RecordedSound.{untorn, torn_behind, as_read}

-- one call more is one call on what was there
pub content_more : (start : List ℕ) (call : DiskCall) (earlier : List DiskCall) → content start (call ∷ earlier) ≡ content (content start earlier) (call ∷ [])
content_more start Looked earlier = refl
content_more start (Wrote at piece true) earlier = refl
content_more start (Wrote at piece false) earlier = refl
content_more start Synced earlier = refl

pub filled_more : (byte : ℕ) (f : List ℕ) (call : DiskCall) (earlier : List DiskCall) → filled byte f (call ∷ earlier) ≡ filled byte (filled byte f earlier) (call ∷ [])
filled_more byte f Looked earlier = refl
filled_more byte f (Wrote at piece done) earlier = refl
filled_more byte f Synced earlier = refl

-- how many bytes there are
pub length_written : (at : ℕ) (bytes f : List ℕ) → length (written at bytes f) ≡ max (length f) (at + length bytes)
length_written at bytes f = omega (
  arith,
  length-append (take at f ++ replicate (at - length f) 0 ++ bytes) (drop (at + length bytes) f),
  length-append (take at f ++ replicate (at - length f) 0) bytes,
  length-append (take at f) (replicate (at - length f) 0),
  length-take at f,
  length-replicate {A = ℕ} (at - length f) 0,
  length-drop (at + length bytes) f,
)

pub length_filled_range : (byte at n : ℕ) (f : List ℕ) → length (filled_range byte at n f) ≡ length f
length_filled_range byte at n f = omega (
  arith,
  length-append (take at f ++ replicate (min n (length f - at)) byte) (drop (at + n) f),
  length-append (take at f) (replicate (min n (length f - at)) byte),
  length-take at f,
  length-replicate {A = ℕ} (min n (length f - at)) byte,
  length-drop (at + n) f,
)

pub length_filled_done : (byte at n : ℕ) (f : List ℕ) → length (filled_write byte at n true f) ≡ max (length f) (at + n)
length_filled_done byte at n f = omega (
  arith,
  length_filled_range byte at n (f ++ replicate (at + n - length f) byte),
  length-append f (replicate (at + n - length f) byte),
  length-replicate {A = ℕ} (at + n - length f) byte,
)

content_step : (start : List ℕ) (call : DiskCall) (earlier : List DiskCall) → length (content start earlier) ≤ length (content start (call ∷ earlier))
content_step start Looked earlier = omega arith
content_step start (Wrote at piece true) earlier = omega (arith, length_written at piece (content start earlier))
content_step start (Wrote at piece false) earlier = omega arith
content_step start Synced earlier = omega arith

pub content_grows : (start : List ℕ) (later earlier : List DiskCall) → length (content start earlier) ≤ length (content start (later ++ earlier))
content_grows start [] earlier = omega arith
content_grows start (call ∷ later) earlier = omega (arith, content_grows start later earlier, content_step start call (later ++ earlier))

filled_step : (byte : ℕ) (f : List ℕ) (call : DiskCall) (earlier : List DiskCall) → length (filled byte f earlier) ≤ length (filled byte f (call ∷ earlier))
filled_step byte f Looked earlier = omega arith
filled_step byte f (Wrote at piece true) earlier = omega (arith, length_filled_done byte at (length piece) (filled byte f earlier))
filled_step byte f (Wrote at piece false) earlier = omega (arith, length_filled_range byte at (length piece) (filled byte f earlier))
filled_step byte f Synced earlier = omega arith

pub filled_grows : (byte : ℕ) (f : List ℕ) (later earlier : List DiskCall) → length (filled byte f earlier) ≤ length (filled byte f (later ++ earlier))
filled_grows byte f [] earlier = omega arith
filled_grows byte f (call ∷ later) earlier = omega (arith, filled_grows byte f later earlier, filled_step byte f call (later ++ earlier))

pub start_no_longer : (start : List ℕ) (calls : List DiskCall) → length start ≤ length (content start calls)
start_no_longer start [] = omega arith
start_no_longer start (call ∷ calls) = omega (arith, start_no_longer start calls, content_step start call calls)

pub synced_no_longer : (start : List ℕ) (calls : List DiskCall) → length (content start (up_to_sync calls)) ≤ length (content start calls)
synced_no_longer start [] = omega arith
synced_no_longer start (Looked ∷ calls) = synced_no_longer start calls
synced_no_longer start (Wrote at piece done ∷ calls) = omega (arith, synced_no_longer start calls, content_step start (Wrote at piece done) calls)
synced_no_longer start (Synced ∷ calls) = omega arith

-- filled bytes are as many as a read gives
pub as_long : (byte : ℕ) (start : List ℕ) (calls : List DiskCall) → length (filled byte (content start (up_to_sync calls)) (since_sync calls)) ≡ length (content start calls)
as_long byte start [] = refl
as_long byte start (Looked ∷ calls) = as_long byte start calls
as_long byte start (Wrote at piece true ∷ calls) = omega (
  arith,
  as_long byte start calls,
  length_filled_done byte at (length piece) (filled byte (content start (up_to_sync calls)) (since_sync calls)),
  length_written at piece (content start calls),
)
as_long byte start (Wrote at piece false ∷ calls) = omega (
  arith,
  as_long byte start calls,
  length_filled_range byte at (length piece) (filled byte (content start (up_to_sync calls)) (since_sync calls)),
)
as_long byte start (Synced ∷ calls) = refl

-- filling tears no more than the range
from_start : (byte n : ℕ) (f more : List ℕ) → Torn 0 n f (filled_range byte 0 n (f ++ more))
from_start byte n f more = record {
  no_shorter = omega (arith, length_filled_range byte 0 n (f ++ more), length-append f more);
  below = λ i short low. absurd (omega (arith, low));
  above = λ i short high. past i short high;
}
  where
    g : List ℕ
    g = f ++ more

    past : (i : ℕ) → i < length f → 0 + n ≤ i → slice_index (filled_range byte 0 n g) i ≡ slice_index f i
    past i short high =
        let long : length (replicate (min n (length g - 0)) byte) ≡ n = omega (arith, length-replicate {A = ℕ} (min n (length g - 0)) byte, length-append f more, short, high) in
        let back : 0 + n + (i - n) ≡ i = omega (arith, high) in
        get_or-append_right (replicate (min n (length g - 0)) byte) (drop (0 + n) g) n i 0 long (omega (arith, high))
        ∙ get_or-drop (0 + n) g (i - n) 0
        ∙ ap (λ (j : ℕ). get_or g j 0) back
        ∙ get_or_append_left f more 0 i short

at_next : (byte at n x : ℕ) (f : List ℕ) → filled_range byte (suc at) n (x ∷ f) ≡ x ∷ filled_range byte at n f
at_next byte at n x f =
    let count : min n (length (x ∷ f) - suc at) ≡ min n (length f - at) = omega arith in
    let size : suc at + n ≡ suc (at + n) = omega arith in
    λ i. x ∷ take at f ++ replicate (count i) byte ++ drop (size i) (x ∷ f)

pub filled_is_torn : (byte at n : ℕ) (f more : List ℕ) → Torn at n f (filled_range byte at n (f ++ more))
filled_is_torn byte at n [] more = record { no_shorter = omega arith; below = λ i short low. absurd (omega (arith, short)); above = λ i short high. absurd (omega (arith, short)) }
filled_is_torn byte zero n (x ∷ f) more = from_start byte n (x ∷ f) more
filled_is_torn byte (suc at) n (x ∷ f) more =
    subst (Torn (suc at) n (x ∷ f)) (sym (at_next byte at n x (f ++ more))) (torn_behind at n x f (filled_range byte at n (f ++ more)) (filled_is_torn byte at n f more))

filled_write_is_torn : (byte at n : ℕ) (done : Bool) (f : List ℕ) → Torn at n f (filled_write byte at n done f)
filled_write_is_torn byte at n true f = filled_is_torn byte at n f (replicate (at + n - length f) byte)
filled_write_is_torn byte at n false f = subst (λ l. Torn at n f (filled_range byte at n l)) (append-nil f) (filled_is_torn byte at n f [])

-- the old bytes are allowed, and so are filled ones
old_allowed : (start : List ℕ) (calls : List DiskCall) → MayLeave start calls (content start (up_to_sync calls))
old_allowed start [] = refl
old_allowed start (Looked ∷ calls) = old_allowed start calls
old_allowed start (Wrote at piece done ∷ calls) =
    let old = content start (up_to_sync calls) in
    (old, old_allowed start calls, untorn at (length piece) old)
old_allowed start (Synced ∷ calls) = refl

fill_allowed : (byte : ℕ) (start : List ℕ) (calls : List DiskCall) → MayLeave start calls (filled byte (content start (up_to_sync calls)) (since_sync calls))
fill_allowed byte start [] = refl
fill_allowed byte start (Looked ∷ calls) = fill_allowed byte start calls
fill_allowed byte start (Wrote at piece done ∷ calls) =
    let before = filled byte (content start (up_to_sync calls)) (since_sync calls) in
    (before, fill_allowed byte start calls, filled_write_is_torn byte at (length piece) done before)
fill_allowed byte start (Synced ∷ calls) = refl

pub allowed : (kept : Kept) (start : List ℕ) (calls : List DiskCall) → MayLeave start calls (crash_image kept start calls)
allowed Old start calls = old_allowed start calls
allowed New start calls = as_read start calls
allowed (Fill byte) start calls = fill_allowed byte start calls
