-- Calls that are made again one by one: none makes the bytes longer than all of them do.
use Rattle.std.proofs.Common.{◌≡◌, ℕ, ◌+◌, ◌<◌, ◌≤◌, List, [], ◌∷◌, ◌++◌, length, take, drop, get_or, sym, ◌∙◌, ap, subst}
use Rattle.crash_disk.specs.CallRecord.{DiskCall, content}
use Rattle.crash_disk.specs.CrashImages.{filled}
use Rattle.crash_disk.specs.Recording.{recorded, told}
use Rattle.crash_disk.specs.declared.calls.Call.{Call}
use Rattle.crash_disk.proofs.Images.{content_more, content_grows, filled_more, filled_grows}
use Rattle.crash_disk.proofs.RecordedCalls.{recorded_split, recorded_next}

module _ (pieces : List ℕ) (calls : List Call) (n : ℕ) (d : Call) (within : n < length calls) where
  abbrev later : List DiskCall
  later = recorded pieces (drop (n + 1) calls)

  split : recorded pieces calls ≡ later ++ (told pieces (get_or calls n d) ∷ recorded pieces (take n calls))
  split = recorded_split pieces (n + 1) calls ∙ ap (λ l. later ++ l) (recorded_next pieces n calls d within)

  pub replay_room : (start : List ℕ) → length (content (content start (recorded pieces (take n calls))) (told pieces (get_or calls n d) ∷ [])) ≤ length (content start (recorded pieces calls))
  replay_room start =
      let here = content_more start (told pieces (get_or calls n d)) (recorded pieces (take n calls)) in
      subst (λ l. length l ≤ length (content start (recorded pieces calls))) here
      (subst (λ l. length (content start (told pieces (get_or calls n d) ∷ recorded pieces (take n calls))) ≤ length (content start l)) (sym split)
      (content_grows start later (told pieces (get_or calls n d) ∷ recorded pieces (take n calls))))

  pub fill_room : (byte : ℕ) (f : List ℕ) → length (filled byte (filled byte f (recorded pieces (take n calls))) (told pieces (get_or calls n d) ∷ [])) ≤ length (filled byte f (recorded pieces calls))
  fill_room byte f =
      let here = filled_more byte f (told pieces (get_or calls n d)) (recorded pieces (take n calls)) in
      subst (λ l. length l ≤ length (filled byte f (recorded pieces calls))) here
      (subst (λ l. length (filled byte f (told pieces (get_or calls n d) ∷ recorded pieces (take n calls))) ≤ length (filled byte f l)) (sym split)
      (filled_grows byte f later (told pieces (get_or calls n d) ∷ recorded pieces (take n calls))))
