-- The record as it is kept: a call more, and a part of the calls.
use Rattle.std.proofs.Common.{◌≡◌, ℕ, ◌+◌, ◌<◌, ◌≤◌, Bool, true, false, List, [], ◌∷◌, ◌++◌, length, take, drop, map, reverse, get_or, suc, refl, sym, ◌∙◌, ap, arith, length-drop}
use Rattle.std.proofs.lemmas.List.{take-append-le, drop-append-le, take_all, drop_at, map-append, reverse-append, take-append-drop, take_more}
use Rattle.crash_disk.specs.CallRecord.{DiskCall, Wrote}
use Rattle.crash_disk.specs.CrashImages.{up_to_sync, since_sync}
use Rattle.crash_disk.specs.Recording.{told, recorded, piece_end, is_sync, AllWithin}
use Rattle.crash_disk.specs.declared.calls.Call.{Call}
use Rattle.crash_disk.specs.declared.calls.Call.TheVariants as Stored

-- pieces of later calls play no part
told_before : (pieces more : List ℕ) (call : Call) → piece_end call ≤ length pieces → told (pieces ++ more) call ≡ told pieces call
told_before pieces more Stored.Looked within = refl
told_before pieces more (Stored.Wrote at from count done) within =
    ap (λ l. Wrote at l done) (ap (λ l. take count l) (drop-append-le from pieces more (omega (arith, within))) ∙ take-append-le count (drop from pieces) more (omega (arith, within, length-drop from pieces)))
told_before pieces more Stored.Synced within = refl

all_told_before : (pieces more : List ℕ) (calls : List Call) → AllWithin (length pieces) calls → map (told (pieces ++ more)) calls ≡ map (told pieces) calls
all_told_before pieces more [] within = refl
all_told_before pieces more (call ∷ calls) within =
    let first : piece_end call ≤ length pieces = within 0 call (omega arith) in
    let others = all_told_before pieces more calls (λ k d short. within (suc k) d (omega (arith, short))) in
    λ i. told_before pieces more call first i ∷ others i

-- the last call is the newest
pub recorded_more : (pieces : List ℕ) (calls : List Call) (call : Call) → recorded pieces (calls ++ call ∷ []) ≡ told pieces call ∷ recorded pieces calls
recorded_more pieces calls call = ap reverse (map-append (told pieces) calls (call ∷ [])) ∙ reverse-append (map (told pieces) calls) (told pieces call ∷ [])

-- a write, of which the piece stands behind the others
pub recorded_write : (pieces piece : List ℕ) (calls : List Call) (at from : ℕ) (done : Bool) → AllWithin (length pieces) calls → from ≡ length pieces
    → recorded (pieces ++ piece) (calls ++ Stored.Wrote at from (length piece) done ∷ []) ≡ Wrote at piece done ∷ recorded pieces calls
recorded_write pieces piece calls at from done within is =
    recorded_more (pieces ++ piece) calls (Stored.Wrote at from (length piece) done)
    ∙ (λ i. Wrote at (own i) done ∷ reverse (all_told_before pieces piece calls within i))
  where
    own : take (length piece) (drop from (pieces ++ piece)) ≡ piece
    own = ap (λ l. take (length piece) l) (drop_at pieces piece from (sym is)) ∙ take_all (length piece) piece (omega arith)

-- a part of the calls is recorded before the rest
pub recorded_parts : (pieces : List ℕ) (first rest : List Call) → recorded pieces (first ++ rest) ≡ recorded pieces rest ++ recorded pieces first
recorded_parts pieces first rest = ap reverse (map-append (told pieces) first rest) ∙ reverse-append (map (told pieces) first) (map (told pieces) rest)

pub recorded_split : (pieces : List ℕ) (n : ℕ) (calls : List Call) → recorded pieces calls ≡ recorded pieces (drop n calls) ++ recorded pieces (take n calls)
recorded_split pieces n calls = ap (recorded pieces) (sym (take-append-drop n calls)) ∙ recorded_parts pieces (take n calls) (drop n calls)

-- the first calls, and the one behind them
pub recorded_next : (pieces : List ℕ) (n : ℕ) (calls : List Call) (d : Call) → n < length calls → recorded pieces (take (n + 1) calls) ≡ told pieces (get_or calls n d) ∷ recorded pieces (take n calls)
recorded_next pieces n calls d within = ap (recorded pieces) (take_more calls n d within) ∙ recorded_more pieces (take n calls) (get_or calls n d)

-- the last sync, looked for from the newest call on
pub up_to_here : (pieces : List ℕ) (call : Call) (earlier : List DiskCall) → is_sync call ≡ true → up_to_sync (told pieces call ∷ earlier) ≡ told pieces call ∷ earlier
up_to_here pieces Stored.Looked earlier is = absurd (cc)
up_to_here pieces (Stored.Wrote at from count done) earlier is = absurd (cc)
up_to_here pieces Stored.Synced earlier is = refl

pub since_here : (pieces : List ℕ) (call : Call) (earlier : List DiskCall) → is_sync call ≡ true → since_sync (told pieces call ∷ earlier) ≡ []
since_here pieces Stored.Looked earlier is = absurd (cc)
since_here pieces (Stored.Wrote at from count done) earlier is = absurd (cc)
since_here pieces Stored.Synced earlier is = refl

pub up_to_before : (pieces : List ℕ) (call : Call) (earlier : List DiskCall) → is_sync call ≡ false → up_to_sync (told pieces call ∷ earlier) ≡ up_to_sync earlier
up_to_before pieces Stored.Looked earlier is = refl
up_to_before pieces (Stored.Wrote at from count done) earlier is = refl
up_to_before pieces Stored.Synced earlier is = absurd (cc)

pub since_before : (pieces : List ℕ) (call : Call) (earlier : List DiskCall) → is_sync call ≡ false → since_sync (told pieces call ∷ earlier) ≡ told pieces call ∷ since_sync earlier
since_before pieces Stored.Looked earlier is = refl
since_before pieces (Stored.Wrote at from count done) earlier is = refl
since_before pieces Stored.Synced earlier is = absurd (cc)
