-- Runs of consecutive cycles.
use Rattle.std.proofs.Common.{◌≡◌, ℕ, zero, suc, ◌+◌, ◌-◌, ◌<◌, ◌≤◌, true, false, List, [], ◌∷◌, ◌++◌, length, drop, set, get_or, slice_get, length-append, length-drop, refl, ap, sym, ◌∙◌, arith, Less, Equal}
use Rattle.std.specs.List.{AllByRecursion, All}
use Rattle.std.specs.List.Sorted.{IsStrictlySortedBy}
use Rattle.std.proofs.lemmas.List.Elements.{All-cons, All-head, All-tail, All-nil}
use Rattle.std.proofs.lemmas.Bool.Decides.{nat_tests}
use Rattle.sequence_once.specs.KeptCycles.{CycleRecord, company_order, cycle_order, newest, is_finished, is_last_finished, IsFollowed, IsRun, last_eight, note_last}
use Rattle.sequence_once.specs.CycleStanding.{last_number}
use Rattle.sequence_once.proofs.Lists.{each_weaker}
use Rattle.sequence_once.proofs.Order.{by_bytes, same_company}
use Rattle.sequence_once.proofs.Companies.{AllOf}
use Rattle.sequence_once.specs.declared.cycles.TheConstants.{KEPT_CYCLES}

pub newest_more : (x y : CycleRecord) (rest : List CycleRecord) → newest (x ∷ y ∷ rest) ≡ newest (y ∷ rest)
newest_more x y rest =
    let e : length (x ∷ y ∷ rest) - 1 ≡ suc (length (y ∷ rest) - 1) = omega arith in
    ap (λ n. slice_get (x ∷ y ∷ rest) n) e

-- the next cycle goes to the end of a run whose last cycle is finished
pub run_push : (xs : List CycleRecord) (k : CycleRecord) → IsRun xs → is_last_finished (newest xs) ≡ true → k.cycle ≡ last_number (newest xs) + 1 → IsRun (xs ++ k ∷ [])
run_push [] k run finished next = (tt, tt)
run_push (x ∷ []) k run finished next = ((next, finished), (tt, tt))
run_push (x ∷ y ∷ rest) k run finished next =
    let e = newest_more x y rest in
    (run.0, run_push (y ∷ rest) k run.1 (ap is_last_finished (sym e) ∙ finished) (next ∙ ap (λ o. last_number o + 1) e))

-- the later cycles of a run are a run
pub run_drop : (n : ℕ) (xs : List CycleRecord) → IsRun xs → IsRun (drop n xs)
run_drop zero xs run = run
run_drop (suc n) [] run = tt
run_drop (suc n) (x ∷ xs) run = run_drop n xs run.1

pub each_drop : (P : CycleRecord → Type 0) (n : ℕ) (xs : List CycleRecord) → AllByRecursion P xs → AllByRecursion P (drop n xs)
each_drop P zero xs h = h
each_drop P (suc n) [] h = tt
each_drop P (suc n) (x ∷ xs) h = each_drop P n xs h.1

pub last_eight_few : (xs : List CycleRecord) → length (last_eight xs) ≤ KEPT_CYCLES
last_eight_few xs = omega (arith, length-drop (length xs - KEPT_CYCLES) xs)

-- the numbers of a run rise
pub rising : (x : CycleRecord) (rest : List CycleRecord) → IsRun (x ∷ rest) → AllByRecursion (λ y. x.cycle < y.cycle) rest
rising x [] run = tt
rising x (y ∷ rest) run = (omega (arith, run.0.0), each_weaker _ _ (λ z h. omega (arith, run.0.0, h)) rest (rising y rest run.1))

own_order : (c : List ℕ) (x y : CycleRecord) → company_order x c ≡ Equal → company_order y c ≡ Equal → x.cycle < y.cycle → cycle_order x y ≡ Less
own_order c x y h k l =
    let same : y.company ≡ c = same_company _ _ k in
    let e : by_bytes x.company y.company ≡ Equal = rw same h in
    rw e (grind (arith, nat_tests))

own_behind : (c : List ℕ) (x : CycleRecord) (rest : List CycleRecord) → company_order x c ≡ Equal → AllOf c rest → AllByRecursion (λ y. x.cycle < y.cycle) rest → AllByRecursion (λ y. cycle_order x y ≡ Less) rest
own_behind c x [] h own l = tt
own_behind c x (y ∷ rest) h own l = (own_order c x y h own.0 l.0, own_behind c x rest h own.1 l.1)

-- a company's run is in order
pub sorted_run : (c : List ℕ) (xs : List CycleRecord) → IsRun xs → AllOf c xs → IsStrictlySortedBy cycle_order xs
unfolding IsStrictlySortedBy
sorted_run c [] run own = tt
sorted_run c (x ∷ xs) run own = (own_behind c x xs own.0 own.1 (rising x xs run), sorted_run c xs run.1 own.1)

-- a code is noted at the end
pub note_last_length : (code : ℕ) (xs : List CycleRecord) → length (note_last code xs) ≡ length xs
note_last_length code [] = refl
note_last_length code (k ∷ []) = refl
note_last_length code (k ∷ j ∷ rest) = ap suc (note_last_length code (j ∷ rest))

pub note_last_own : (c : List ℕ) (code : ℕ) (xs : List CycleRecord) → AllOf c xs → AllOf c (note_last code xs)
note_last_own c code [] h = tt
note_last_own c code (k ∷ []) h = h
note_last_own c code (k ∷ j ∷ rest) h = (h.0, note_last_own c code (j ∷ rest) h.1)

followed_note : (code : ℕ) (k : CycleRecord) (xs : List CycleRecord) → IsFollowed k xs → IsFollowed k (note_last code xs)
followed_note code k [] h = tt
followed_note code k (j ∷ []) h = h
followed_note code k (j ∷ i ∷ rest) h = h

pub run_note : (code : ℕ) (xs : List CycleRecord) → IsRun xs → IsRun (note_last code xs)
run_note code [] run = tt
run_note code (k ∷ []) run = (tt, tt)
run_note code (k ∷ j ∷ rest) run = (followed_note code k (j ∷ rest) run.0, run_note code (j ∷ rest) run.1)

-- no more codes than lines
abbrev pub HasRoom : CycleRecord → Type 0
HasRoom k = length k.codes ≤ k.count

-- there was room for one code more
pub room_left : (k : CycleRecord) → length k.codes ≤ k.count → is_finished k ≡ false → length k.codes < k.count
room_left k h undone = grind (arith, nat_tests)

pub counts_note : (code : ℕ) (xs : List CycleRecord) → All HasRoom xs → is_last_finished (newest xs) ≡ false → All HasRoom (note_last code xs)
counts_note code [] h undone = h
counts_note code (k ∷ []) h undone =
    let room : length k.codes < k.count = room_left k (All-head HasRoom k [] h) undone in
    let after : CycleRecord = record k { codes = k.codes ++ code ∷ [] } in
    let fits : length after.codes ≤ after.count = omega (arith, length-append k.codes (code ∷ [])) in
    All-cons HasRoom after [] fits (All-nil HasRoom)
counts_note code (k ∷ j ∷ rest) h undone =
    let e = newest_more k j rest in
    All-cons HasRoom k (note_last code (j ∷ rest)) (All-head HasRoom k (j ∷ rest) h) (counts_note code (j ∷ rest) (All-tail HasRoom k (j ∷ rest) h) (ap is_last_finished (sym e) ∙ undone))

-- it is written over the last cycle
pub note_last_set : (code : ℕ) (xs : List CycleRecord) (d : CycleRecord) → 0 < length xs → let k = get_or xs (length xs - 1) d in note_last code xs ≡ set xs (length xs - 1) (record k { codes = k.codes ++ code ∷ [] })
note_last_set code [] d some = absurd (omega arith)
note_last_set code (k ∷ []) d some = refl
note_last_set code (k ∷ j ∷ rest) d some =
    let e : length (k ∷ j ∷ rest) - 1 ≡ suc (length (j ∷ rest) - 1) = omega arith in
    rw e (ap (λ ys. k ∷ ys) (note_last_set code (j ∷ rest) d (omega arith)))
