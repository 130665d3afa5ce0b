-- Positions in a history: of a company its last cycle, and how many codes that has; of an editor its last serial. A position rises with each entry of its company or editor, so no cycle is opened, no line booked and no serial used twice.
use Rattle.std.proofs.Common.{◌≡◌, ℕ, ◌+◌, ◌≤◌, List, [], ◌∷◌, ◌++◌, length, Option, Some, None, length-append, refl, sym, ◌∙◌, subst, arith, ◌⊎◌, inl, inr}
use Rattle.std.specs.List.{AllByRecursion, AllPairs}
use Rattle.std.proofs.lemmas.List.Elements.{All-from_recursion}
use Rattle.std.proofs.lemmas.List.Kept.{AllPairs-cons}
use Rattle.ali_base.specs.CivilDay.{CivilDay}
use Rattle.sequence_once.specs.KeptCycles.{CycleRecord, IsSound, newest, last_of}
use Rattle.sequence_once.specs.CycleStanding.{last_number}
use Rattle.sequence_once.specs.SerialStanding.{last_edit, last_serial}
use Rattle.sequence_once.proofs.KeptFiles.{opening_means}
use Rattle.sequence_once.proofs.Sound.{sound_empty}
use Rattle.office_entry.specs.Entries.{IsEntry}
use Rattle.office_entry.specs.declared.entry.Entry.{Entry}
use Rattle.office_entry.specs.declared.entry.Entry.TheVariants.{Open, Line, Edit}
use Rattle.office_state.specs.declared.limits.Limits.{Limits}
use Rattle.office_state.specs.OfficeState.{State, empty_state}
use Rattle.office_state.specs.Due.{IsDue}
use Rattle.office_state.specs.Verdict.{after, code_in}
use Rattle.office_state.specs.History.{AreDue, IsLegal, Repeats}
use Rattle.office_state.proofs.Steps.{company_of, one_or_two, line_means, sound_after, others_after, last_opened, last_noted, editors_after, serial_noted, serials_rise}

-- how many codes the last cycle has
abbrev noted : Option CycleRecord → ℕ
noted None = 0
noted (Some k) = length k.codes

-- the last cycle is at or after a line of a cycle
record IsAt (last : Option CycleRecord) (cycle line : ℕ) : Type 0 where
  low : cycle ≤ last_number last
  within : cycle ≡ last_number last → line ≤ noted last

-- or at or after where another stands
abbrev IsBehind : Option CycleRecord → Option CycleRecord → Type 0
IsBehind old new = IsAt new (last_number old) (noted old)

-- an entry's company or editor is at or after it
abbrev IsPast : Entry → State → Type 0
IsPast (Open company cycle count day digest) s = IsAt (last_of company s.cycles.kept) cycle 0
IsPast (Line company cycle line bytes) s = IsAt (last_of company s.cycles.kept) cycle line
IsPast (Edit editor serial edit) s = serial ≤ last_serial (last_edit editor s.edits)

behind_itself : (last : Option CycleRecord) → IsBehind last last
behind_itself last = record { low = omega arith; within = λ e. omega arith }

at_behind : (cycle line : ℕ) (old new : Option CycleRecord) → IsBehind old new → IsAt old cycle line → IsAt new cycle line
at_behind cycle line old new more past =
    let far = past.low in
    let up = more.low in
    record {
      low = omega arith;
      within = λ same.
          let first : cycle ≡ last_number old = omega arith in
          let second : last_number old ≡ last_number new = omega arith in
          omega (arith, past.within first, more.within second);
    }

-- where a company stands before and after its entry, an opening or a line of a cycle
record IsPassed (cycle line : ℕ) (old new : Option CycleRecord) : Type 0 where
  before : IsAt old cycle line → ⊥
  behind : IsBehind old new
  past : IsAt new cycle line

open_passed : (s : State) → IsSound s.cycles → (company : List ℕ) (cycle count : ℕ) (day : CivilDay) (digest : List ℕ) → let e = Open company cycle count day digest in IsDue s e → let later = after s e in IsPassed cycle 0 (last_of company s.cycles.kept) (last_of company later.cycles.kept)
open_passed s sound company cycle count day digest due =
    let old = last_of company s.cycles.kept in
    let next : cycle ≡ last_number old + 1 = (opening_means s.cycles company cycle digest due).0 in
    subst (λ (new : Option CycleRecord). IsPassed cycle 0 old new) (sym (last_opened s sound company cycle count day digest)) (record {
      before = λ past. let low = past.low in omega arith;
      behind = record { low = omega arith; within = λ same. absurd (omega arith) };
      past = record { low = omega arith; within = λ same. omega arith };
    })

line_passed : (s : State) (company : List ℕ) (cycle line : ℕ) (bytes : List ℕ) → let e = Line company cycle line bytes in IsDue s e → let later = after s e in IsPassed cycle line (last_of company s.cycles.kept) (last_of company later.cycles.kept)
line_passed s company cycle line bytes due =
    let means = line_means (last_of company s.cycles.kept) cycle line due in
    let k = means.kept in
    let code = code_in s company bytes in
    let number = means.number in
    let next = means.next in
    let long = length-append k.codes (code ∷ []) in
    let step : IsPassed cycle line (Some k) (Some (record k { codes = k.codes ++ code ∷ [] })) = record {
      before = λ past. omega (arith, past.within (sym number));
      behind = record { low = omega arith; within = λ same. omega arith };
      past = record { low = omega arith; within = λ same. omega arith };
    } in
    let later = after s (Line company cycle line bytes) in
    subst (λ (old : Option CycleRecord). IsPassed cycle line old (last_of company later.cycles.kept)) (sym means.is_last) (subst (λ (new : Option CycleRecord). IsPassed cycle line (Some k) new) (sym (last_noted s company cycle line bytes k means.is_last)) step)

-- what holds of every state of a legal history: its cycles are sound, and each editor has a place
record IsKept (s : State) : Type 0 where
  cycles : IsSound s.cycles
  editors : length s.edits ≡ 64

kept_after : (s : State) (e : Entry) → IsKept s → IsDue s e → IsKept (after s e)
kept_after s e kept due = record { cycles = sound_after s e kept.cycles due; editors = editors_after s e ∙ kept.editors }

-- an entry that is due is not yet past, and is past once it is booked
not_past : (s : State) (e : Entry) → IsKept s → IsDue s e → IsPast e s → ⊥
not_past s (Open company cycle count day digest) kept due = (open_passed s kept.cycles company cycle count day digest due).before
not_past s (Line company cycle line bytes) kept due = (line_passed s company cycle line bytes due).before
not_past s (Edit editor serial edit) kept due = λ past. omega (arith, due, past)

past_after : (s : State) (e : Entry) → IsKept s → IsEntry e → IsDue s e → IsPast e (after s e)
past_after s (Open company cycle count day digest) kept entry due = (open_passed s kept.cycles company cycle count day digest due).past
past_after s (Line company cycle line bytes) kept entry due = (line_passed s company cycle line bytes due).past
past_after s (Edit editor serial edit) kept entry due = omega (arith, serial_noted s editor serial edit kept.editors entry.0)

-- no company goes back
own_on : (s : State) (e : Entry) → IsSound s.cycles → IsDue s e → let later = after s e in IsBehind (last_of (company_of e) s.cycles.kept) (last_of (company_of e) later.cycles.kept)
unfolding after
own_on s (Open company cycle count day digest) sound due = (open_passed s sound company cycle count day digest due).behind
own_on s (Line company cycle line bytes) sound due = (line_passed s company cycle line bytes due).behind
own_on s (Edit editor serial edit) sound due = behind_itself _

goes_on : (s : State) (e : Entry) → IsSound s.cycles → IsDue s e → (d : List ℕ) → let later = after s e in IsBehind (last_of d s.cycles.kept) (last_of d later.cycles.kept)
goes_on s e sound due d = at (one_or_two d (company_of e))
  where
    at : d ≡ company_of e ⊎ (d ≡ company_of e → ⊥) → let later = after s e in IsBehind (last_of d s.cycles.kept) (last_of d later.cycles.kept)
    at (inl same) = subst (λ (c : List ℕ). let later = after s e in IsBehind (last_of c s.cycles.kept) (last_of c later.cycles.kept)) (sym same) (own_on s e sound due)
    at (inr differ) = subst (λ (own : List CycleRecord). IsBehind (last_of d s.cycles.kept) (newest own)) (sym (others_after s e sound d differ)) (behind_itself (last_of d s.cycles.kept))

-- an entry stays past
stays_past : (s : State) (e f : Entry) → IsKept s → IsEntry f → IsDue s f → IsPast e s → IsPast e (after s f)
stays_past s (Open company cycle count day digest) f kept entry due past = at_behind cycle 0 _ _ (goes_on s f kept.cycles due company) past
stays_past s (Line company cycle line bytes) f kept entry due past = at_behind cycle line _ _ (goes_on s f kept.cycles due company) past
stays_past s (Edit editor serial edit) f kept entry due past = omega (arith, past, serials_rise s f kept.editors entry due editor)

-- an entry that repeats a past one is past too
both_past : (s : State) (e f : Entry) → Repeats e f → IsPast e s → IsPast f s
both_past s (Open c n count day digest) (Open d m count' day' digest') same past = rw (same.0, same.1) at past
both_past s (Line c n line bytes) (Line d m line' bytes') same past = rw (same.0, same.1, same.2) at past
both_past s (Edit c n edit) (Edit d m edit') same past = rw (same.0, same.1) at past
both_past s (Open c n count day digest) (Line d m line bytes) same past = absurd same
both_past s (Open c n count day digest) (Edit d m edit) same past = absurd same
both_past s (Line c n line bytes) (Open d m count day digest) same past = absurd same
both_past s (Line c n line bytes) (Edit d m edit) same past = absurd same
both_past s (Edit c n edit) (Open d m count day digest) same past = absurd same
both_past s (Edit c n edit) (Line d m line bytes) same past = absurd same

-- an entry that is past is not repeated
never_again : (s : State) (e : Entry) (history : List Entry) → IsKept s → IsPast e s → AreDue s history → AllByRecursion (λ f. Repeats e f → ⊥) history
never_again s e [] kept past due = tt
never_again s e (f ∷ history) kept past due =
    (λ same. not_past s f kept due.1 (both_past s e f same past), never_again (after s f) e history (kept_after s f kept due.1) (stays_past s e f kept due.0 due.1 past) due.2)

once_from : (s : State) (history : List Entry) → IsKept s → AreDue s history → AllPairs (λ e f. Repeats e f → ⊥) history
once_from s [] kept due = λ i j d lt less. absurd (omega arith)
once_from s (e ∷ history) kept due =
    let kept_then = kept_after s e kept due.1 in
    AllPairs-cons (λ e f. Repeats e f → ⊥) e history (All-from_recursion (λ f. Repeats e f → ⊥) history (never_again (after s e) e history kept_then (past_after s e kept due.0 due.1) due.2)) (once_from (after s e) history kept_then due.2)

-- in a legal history no entry is repeated
pub once : (limits : Limits) (history : List Entry) → IsLegal limits history → AllPairs (λ e f. Repeats e f → ⊥) history
once limits history legal = once_from (empty_state limits) history (record { cycles = sound_empty limits.companies; editors = refl }) legal
