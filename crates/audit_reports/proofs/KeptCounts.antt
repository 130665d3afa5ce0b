-- No more cycles are kept than openings were booked.
use Rattle.std.proofs.Common.{◌≡◌, ℕ, ◌+◌, ◌-◌, ◌≤◌, List, [], ◌∷◌, ◌++◌, length, drop, filter, fold, refl, ap, sym, ◌∙◌, arith, length-append}
use Rattle.std.specs.declared.cmp.Ordering.{Ordering}
use Rattle.std.specs.declared.cmp.Ordering.TheVariants.{Less, Equal, Greater}
use Rattle.std.proofs.lemmas.List.{length-drop}
use Rattle.sequence_once.specs.KeptCycles.{CycleRecord, CyclesState, company_order, of_company, before_company, after_company, with_company, last_eight, opened, after_open, note_last, after_note}
use Rattle.office_entry.specs.declared.entry.Entry.{Entry}
use Rattle.office_entry.specs.declared.entry.Entry.TheVariants.{Open, Line, Edit}
use Rattle.office_state.specs.declared.limits.Limits.{Limits}
use Rattle.office_state.specs.OfficeState as office
use Rattle.office_state.specs.OfficeState.{empty_state}
use Rattle.office_state.specs.History.{state}
use Rattle.office_state.specs.Verdict.{after, code_in}

-- the cycles of a company, those before it and those after it are all
parted : (c : List ℕ) (xs : List CycleRecord) → length (before_company c xs) + length (of_company c xs) + length (after_company c xs) ≡ length xs
parted c [] = refl
parted c (x ∷ xs) = step (parted c xs) (company_order x c) refl
  where
    step : length (before_company c xs) + length (of_company c xs) + length (after_company c xs) ≡ length xs → (o : Ordering) → company_order x c ≡ o → length (before_company c (x ∷ xs)) + length (of_company c (x ∷ xs)) + length (after_company c (x ∷ xs)) ≡ length (x ∷ xs)
    step rest Less e = rw e (omega (arith, rest))
    step rest Equal e = rw e (omega (arith, rest))
    step rest Greater e = rw e (omega (arith, rest))

replaced : (c : List ℕ) (cycles xs : List CycleRecord) → length (with_company c cycles xs) + length (of_company c xs) ≡ length xs + length cycles
replaced c cycles xs =
    omega (arith, parted c xs, length-append (before_company c xs) (cycles ++ after_company c xs), length-append cycles (after_company c xs))

noted_length : (code : ℕ) (xs : List CycleRecord) → length (note_last code xs) ≡ length xs
noted_length code [] = refl
noted_length code (k ∷ []) = refl
noted_length code (k ∷ j ∷ rest) = omega (arith, noted_length code (j ∷ rest))

opened_length : (s : CyclesState) (company : List ℕ) (cycle count : ℕ) (digest : List ℕ) → length (after_open s company cycle count digest).kept ≤ length s.kept + 1
unfolding after_open
opened_length s company cycle count digest =
    let mine = of_company company s.kept in
    let more = mine ++ opened company cycle count digest ∷ [] in
    omega (arith, replaced company (last_eight more) s.kept, length-drop (length more - 8) more, length-append mine (opened company cycle count digest ∷ []))

line_length : (s : CyclesState) (company : List ℕ) (code : ℕ) → length (after_note s company code).kept ≡ length s.kept
unfolding after_note
line_length s company code =
    let mine = of_company company s.kept in
    omega (arith, replaced company (note_last code mine) s.kept, noted_length code mine)

entry_length : (s : office.State) (e : Entry) → length (after s e).cycles.kept ≤ length s.cycles.kept + 1
unfolding after
entry_length s (Open company cycle count day digest) = opened_length s.cycles company cycle count digest
entry_length s (Line company cycle line bytes) = omega (arith, line_length s.cycles company (code_in s company bytes))
entry_length s (Edit editor serial edit) = omega arith

all_length : (s : office.State) (entries : List Entry) → length (fold after s entries).cycles.kept ≤ length s.cycles.kept + length entries
all_length s [] = omega arith
all_length s (e ∷ entries) = omega (arith, all_length (after s e) entries, entry_length s e)

pub kept_length : (limits : Limits) (history : List Entry) → length (state limits history).cycles.kept ≤ length history
kept_length limits history = omega (arith, all_length (empty_state limits) history)
