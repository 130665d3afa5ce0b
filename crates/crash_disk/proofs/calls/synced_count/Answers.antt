use Rattle.std.proofs.Common.{◌≡◌, ℕ, ◌+◌, ◌-◌, ◌<◌, ◌≤◌, true, false, List, [], ◌∷◌, ◌++◌, length, take, drop, get_or, sym, ◌∙◌, ap, arith, append_assoc}
use Rattle.std.proofs.lemmas.List.{append-nil, drop_more}
use Rattle.crash_disk.specs.CrashImages.{up_to_sync, since_sync}
use Rattle.crash_disk.specs.Recording.{recorded, told, is_sync}
use Rattle.crash_disk.specs.declared.calls.Call.{Call}
use Rattle.crash_disk.proofs.RecordedCalls.{recorded_next, recorded_parts, up_to_here, since_here, up_to_before, since_before}
use Rattle.crash_disk.proofs.calls.synced_count.Goals as goal

-- the newest of the first n calls
module _ (pieces : List ℕ) (calls : List Call) (n : ℕ) (d : Call) (some : 0 < n) (within : n ≤ length calls) where
  abbrev last : Call
  last = get_or calls (n - 1) d

  newest : recorded pieces (take n calls) ≡ told pieces last ∷ recorded pieces (take (n - 1) calls)
  newest =
      let next : n ≡ n - 1 + 1 = omega (arith, some) in
      ap (λ k. recorded pieces (take k calls)) next ∙ recorded_next pieces (n - 1) calls d (omega (arith, some, within))

  up_to_last : is_sync last ≡ true → up_to_sync (recorded pieces (take n calls)) ≡ recorded pieces (take n calls)
  up_to_last is = ap up_to_sync newest ∙ up_to_here pieces last (recorded pieces (take (n - 1) calls)) is ∙ sym newest

  since_last : is_sync last ≡ true → since_sync (recorded pieces (take n calls)) ≡ []
  since_last is = ap since_sync newest ∙ since_here pieces last (recorded pieces (take (n - 1) calls)) is

  up_to_other : is_sync last ≡ false → up_to_sync (recorded pieces (take n calls)) ≡ up_to_sync (recorded pieces (take (n - 1) calls))
  up_to_other is = ap up_to_sync newest ∙ up_to_before pieces last (recorded pieces (take (n - 1) calls)) is

  since_other : is_sync last ≡ false → recorded pieces (drop n calls) ++ since_sync (recorded pieces (take n calls)) ≡ recorded pieces (drop (n - 1) calls) ++ since_sync (recorded pieces (take (n - 1) calls))
  since_other is =
      let next : n - 1 + 1 ≡ n = omega (arith, some) in
      let more : drop (n - 1) calls ≡ last ∷ drop n calls = drop_more calls (n - 1) d (omega (arith, some, within)) ∙ ap (λ k. last ∷ drop k calls) next in
      let earlier = since_sync (recorded pieces (take (n - 1) calls)) in
      ap (λ l. recorded pieces (drop n calls) ++ since_sync l) newest
      ∙ ap (λ l. recorded pieces (drop n calls) ++ l) (since_before pieces last (recorded pieces (take (n - 1) calls)) is)
      ∙ sym (append_assoc (recorded pieces (drop n calls)) (told pieces last ∷ []) earlier)
      ∙ ap (λ l. l ++ earlier) (sym (recorded_parts pieces (last ∷ []) (drop n calls)))
      ∙ ap (λ l. recorded pieces l ++ earlier) (sym more)

pub returns-then-is_sync : goal.returns-then-is_sync
returns-then-is_sync c =
    let calls = c.args.calls.now in
    let n = c.loop-count.count in
    let held = c.loop-count.invariant in
    let is = sym c.is_sync.ensures ∙ c.if-is_sync.true in
    record {
      within = held.within;
      up_to = λ pieces. sym (held.up_to pieces ∙ up_to_last pieces calls n _ c.loop-count-test.true held.within is);
      since = λ pieces.
          let none = since_last pieces calls n _ c.loop-count-test.true held.within is in
          sym (held.since pieces ∙ ap (λ l. recorded pieces (drop n calls) ++ l) none ∙ append-nil _);
    }

pub loop-count-preserved : goal.loop-count-preserved
loop-count-preserved c =
    let calls = c.args.calls.now in
    let n = c.loop-count.count in
    let held = c.loop-count.invariant in
    let is : is_sync (get_or calls (n - 1) _) ≡ false = sym c.is_sync.ensures ∙ c.if-is_sync.false in
    record {
      within = omega (arith, held.within);
      up_to = λ pieces. held.up_to pieces ∙ up_to_other pieces calls n _ c.loop-count-test.true held.within is;
      since = λ pieces. held.since pieces ∙ since_other pieces calls n _ c.loop-count-test.true held.within is;
    }

pub returns : goal.returns
returns c =
    let calls = c.args.calls.now in
    let n = c.loop-count.count in
    let held = c.loop-count.invariant in
    let none : n ≡ 0 = omega (arith, c.loop-count-test.false) in
    record {
      within = held.within;
      up_to = λ pieces. ap (λ k. recorded pieces (take k calls)) none ∙ sym (held.up_to pieces ∙ ap (λ k. up_to_sync (recorded pieces (take k calls))) none);
      since = λ pieces. sym (held.since pieces ∙ ap (λ k. recorded pieces (drop n calls) ++ since_sync (recorded pieces (take k calls))) none ∙ append-nil _);
    }
