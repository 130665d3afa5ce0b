-- Counts, entry by entry.
use Rattle.std.proofs.Common.{◌≡◌, ◌==◌, ℕ, ◌+◌, ◌<◌, ◌≤◌, nat_lt, Bool, true, false, cond, List, [], ◌∷◌, ◌++◌, length, replicate, slice_index, refl, ap, sym, ◌∙◌, arith, append-nil}
use Rattle.std.specs.List.{count_by}
use Rattle.std.proofs.lemmas.Bool.Decides.{nat_tests}
use Rattle.std.proofs.lemmas.Grind.{get_or-set_at}
use Rattle.std.proofs.lemmas.List.{length-replicate, length-set, get_or-replicate, get_or_past, get_or-set_other, append_assoc}
use Rattle.std.proofs.lemmas.List.Sums.{sum_by-append}
use Rattle.office_entry.specs.declared.entry.Entry.{Entry}
use Rattle.office_entry.specs.declared.entry.Entry.TheVariants.{Open, Line, Edit}
use Rattle.office_state.specs.declared.counts.Counts.{Counts}
use Rattle.office_state.specs.declared.counts.TheConstants.{CODES}
use Rattle.office_state.specs.declared.limits.Limits.{Limits}
use Rattle.office_state.specs.Counted.{no_codes, no_counts, with_code, counted, AreSoundCounts}
use Rattle.office_state.specs.OfficeState.{State}
use Rattle.office_state.specs.States.{state}
use Rattle.office_state.specs.Tallies.{Place, places, places_behind, is_opening, is_line, is_edit, gets_code, times_of, AreCounts}
use Rattle.office_state.specs.Verdict.{verdict}
use Rattle.office_state.proofs.SmallCodes.{line_small, edit_small}

-- ---- codes

zeros : (n i : ℕ) → slice_index (replicate n 0) i ≡ 0
zeros n i =
    elim (nat_lt i n) as (λ b. nat_lt i n ≡ b → slice_index (replicate n 0) i ≡ 0) [
      | true ↦ λ t. get_or-replicate n i 0 0 (grind (arith, nat_tests))
      | false ↦ λ t. get_or_past (replicate n 0) i 0 (let h : n ≤ i = grind (arith, nat_tests) in omega (arith, h, length-replicate {A = ℕ} n 0))
    ] refl

-- a code more is one more of it, and none of any other
code_more : (codes : List ℕ) (code other : ℕ) → code < length codes → slice_index (with_code codes code) other ≡ slice_index codes other + cond (code == other) 1 0
code_more codes code other within =
    elim (code == other) as (λ b. (code == other) ≡ b → slice_index (with_code codes code) other ≡ slice_index codes other + cond b 1 0) [
      | true ↦ λ t. grind (arith, nat_tests, get_or-set_at)
      | false ↦ λ t. grind (arith, nat_tests, get_or-set_other)
    ] refl

one_or_none : (b : Bool) → cond b 1 0 ≤ 1
one_or_none true = omega arith
one_or_none false = omega arith

-- the code of an entry
pub verdict_small : (s : State) (e : Entry) → (verdict s e).code < 1000
verdict_small s (Open company cycle count day digest) = omega arith
verdict_small s (Line company cycle line bytes) = line_small s.guide.ranges s.table s.most_numbers company bytes
verdict_small s (Edit editor serial edit) = edit_small s.guide s.table edit

-- ---- sound counts

pub sound_none : AreSoundCounts no_counts 0
unfolding no_codes
sound_none = record { places = length-replicate {A = ℕ} CODES 0; kinds = refl; codes = λ code. omega (arith, zeros CODES code) }

pub sound_counted : (counts : Counts) (e : Entry) (code entries : ℕ) → code < CODES → AreSoundCounts counts entries → AreSoundCounts (counted counts e code) (entries + 1)
sound_counted counts (Open company cycle count day digest) code entries small was = record {
  places = was.places;
  kinds = omega (arith, was.kinds);
  codes = λ other. omega (arith, was.codes other);
}
sound_counted counts (Line company cycle line bytes) code entries small was = record {
  places = length-set counts.codes code _ ∙ was.places;
  kinds = omega (arith, was.kinds);
  codes = λ other. omega (arith, was.codes other, code_more counts.codes code other (omega (arith, small, was.places)), one_or_none (code == other));
}
sound_counted counts (Edit editor serial edit) code entries small was = record {
  places = length-set counts.codes code _ ∙ was.places;
  kinds = omega (arith, was.kinds);
  codes = λ other. omega (arith, was.codes other, code_more counts.codes code other (omega (arith, small, was.places)), one_or_none (code == other));
}

-- ---- counts of a history

count_more : {X : Type 0} (p : X → Bool) (xs : List X) (x : X) → count_by p (xs ++ x ∷ []) ≡ count_by p xs + cond (p x) 1 0
count_more p xs x = omega (arith, sum_by-append (λ y. cond (p y) 1 0) xs (x ∷ []))

-- the last place of a longer history
place_more : (before history : List Entry) (e : Entry) → places_behind before (history ++ e ∷ []) ≡ places_behind before history ++ record { before = before ++ history; entry = e } ∷ []
place_more before [] e = ap (λ (front : List Entry). let p : Place = record { before = front; entry = e } in p ∷ []) (sym (append-nil before))
place_more before (d ∷ history) e =
    let first : Place = record { before = before; entry = d } in
    ap (λ (ps : List Place). first ∷ ps) (place_more (before ++ d ∷ []) history e
    ∙ ap (λ (front : List Entry). let p : Place = record { before = front; entry = e } in places_behind (before ++ d ∷ []) history ++ p ∷ []) (append_assoc before (d ∷ []) history))

times_more : (limits : Limits) (history : List Entry) (e : Entry) (code : ℕ) → times_of limits (history ++ e ∷ []) code ≡ times_of limits history code + cond (gets_code limits code (record { before = history; entry = e })) 1 0
times_more limits history e code = ap (λ (ps : List Place). count_by (gets_code limits code) ps) (place_more [] history e) ∙ count_more (gets_code limits code) (places history) (record { before = history; entry = e })

pub counts_none : (limits : Limits) → AreCounts limits [] no_counts
unfolding no_codes
counts_none limits = record { opens = refl; lines = refl; edits = refl; places = length-replicate {A = ℕ} CODES 0; codes = zeros CODES }

pub counts_more : (limits : Limits) (history : List Entry) (e : Entry) (counts : Counts) → AreCounts limits history counts → AreCounts limits (history ++ e ∷ []) (counted counts e (verdict (state limits history) e).code)
counts_more limits history (Open company cycle count day digest) counts are =
    let e = Open company cycle count day digest in record {
      opens = omega (arith, are.opens, count_more is_opening history e);
      lines = omega (arith, are.lines, count_more is_line history e);
      edits = omega (arith, are.edits, count_more is_edit history e);
      places = are.places;
      codes = λ other. omega (arith, are.codes other, times_more limits history e other);
    }
counts_more limits history (Line company cycle line bytes) counts are =
    let e = Line company cycle line bytes in
    let code = (verdict (state limits history) e).code in record {
      opens = omega (arith, are.opens, count_more is_opening history e);
      lines = omega (arith, are.lines, count_more is_line history e);
      edits = omega (arith, are.edits, count_more is_edit history e);
      places = length-set counts.codes code _ ∙ are.places;
      codes = λ other. code_more counts.codes code other (omega (arith, verdict_small (state limits history) e, are.places)) ∙ ap (λ (n : ℕ). n + cond (code == other) 1 0) (are.codes other) ∙ sym (times_more limits history e other);
    }
counts_more limits history (Edit editor serial edit) counts are =
    let e = Edit editor serial edit in
    let code = (verdict (state limits history) e).code in record {
      opens = omega (arith, are.opens, count_more is_opening history e);
      lines = omega (arith, are.lines, count_more is_line history e);
      edits = omega (arith, are.edits, count_more is_edit history e);
      places = length-set counts.codes code _ ∙ are.places;
      codes = λ other. code_more counts.codes code other (omega (arith, verdict_small (state limits history) e, are.places)) ∙ ap (λ (n : ℕ). n + cond (code == other) 1 0) (are.codes other) ∙ sym (times_more limits history e other);
    }
