-- An opening and a line, as they are made in the list.
use Rattle.std.proofs.Common.{◌≡◌, ℕ, ◌+◌, ◌-◌, ◌<◌, ◌≤◌, ◌==◌, true, false, List, [], ◌∷◌, ◌++◌, length, set, get_or, length-append, length-drop, refl, ap, sym, ◌∙◌, subst, arith, Ok, Some, if◌then◌else◌}
use Rattle.std.specs.List.{insert, remove}
use Rattle.std.proofs.lemmas.List.Elements.{All-get_or}
use Rattle.std.proofs.lemmas.Bool.Decides.{nat_tests}
use Rattle.sequence_once.specs.KeptCycles.{CycleRecord, CyclesState, of_company, before_company, with_company, last_of, is_last_finished, known_companies, last_eight, opened, after_open, note_last, after_note, IsSound}
use Rattle.sequence_once.specs.CycleStanding.{standing_of}
use Rattle.sequence_once.specs.declared.standing.Standing.TheVariants.{New}
use Rattle.sequence_once.proofs.Companies.{AllOf, all_of_company, known_some}
use Rattle.sequence_once.proofs.Runs.{HasRoom, room_left, note_last_length, note_last_own, each_drop}
use Rattle.sequence_once.proofs.Sound.{new_means, own_push, room_for, sound_noted, sound_opened, undone_some}
use Rattle.sequence_once.proofs.Laws.{last_after_open, others_after_open, others_after_note}
use Rattle.sequence_once.proofs.Places.{opened_list, noted_at, read_at, place_in_range}
use Rattle.sequence_once.specs.declared.cycles.TheConstants.{KEPT_CYCLES}

module _ (s : CyclesState) (sound : IsSound s) (c : List ℕ) where
  -- the list is the one after the opening
  pub open_makes : (cycle count : ℕ) (digest : List ℕ) (k : CycleRecord) (from to : ℕ) (list : List CycleRecord) → k ≡ opened c cycle count digest → from ≡ length (before_company c s.kept) → to ≡ length (before_company c s.kept) + length (of_company c s.kept) → list ≡ (if to - from == 8 then remove (insert s.kept to k) from else insert s.kept to k) → record s { kept = list } ≡ after_open s c cycle count digest
  unfolding after_open
  open_makes cycle count digest k from to list e f g h =
      let made = opened_list c s.kept sound.sorted k from to f g (sound.eight c) in
      let kept : list ≡ with_company c (last_eight (of_company c s.kept ++ opened c cycle count digest ∷ [])) s.kept = subst (λ (x : CycleRecord). list ≡ with_company c (last_eight (of_company c s.kept ++ x ∷ [])) s.kept) e (h ∙ made) in
      ap (λ (xs : List CycleRecord). let state : CyclesState = record s { kept = xs } in state) kept

  -- and it has one company more where the company was new
  pub open_known : (cycle count : ℕ) (digest : List ℕ) (from to : ℕ) → from ≡ length (before_company c s.kept) → to ≡ length (before_company c s.kept) + length (of_company c s.kept) → let after = after_open s c cycle count digest in known_companies after.kept ≡ known_companies s.kept + (if to - from == 0 then 1 else 0)
  unfolding after_open
  open_known cycle count digest from to f g =
      let own : AllOf c (last_eight (of_company c s.kept ++ opened c cycle count digest ∷ [])) = each_drop _ _ _ (own_push s sound c (opened c cycle count digest) refl) in
      let few : to - from ≡ length (of_company c s.kept) = omega (arith, f, g) in
      let some : 0 < length (last_eight (of_company c s.kept ++ opened c cycle count digest ∷ [])) = omega (arith, length-drop (length (of_company c s.kept ++ opened c cycle count digest ∷ []) - KEPT_CYCLES) (of_company c s.kept ++ opened c cycle count digest ∷ []), length-append (of_company c s.kept) (opened c cycle count digest ∷ [])) in
      rw few (known_some c (last_eight (of_company c s.kept ++ opened c cycle count digest ∷ [])) s.kept sound.sorted own some)

  -- a new company is within the limit
  pub open_room : (cycle : ℕ) (digest : List ℕ) (from to : ℕ) → standing_of s c cycle digest ≡ Ok New → from ≡ length (before_company c s.kept) → to ≡ length (before_company c s.kept) + length (of_company c s.kept) → to - from ≡ 0 → known_companies s.kept + 1 ≤ s.limit
  open_room cycle digest from to new f g none =
      let few : length (of_company c s.kept) ≡ 0 = omega (arith, f, g, none) in
      let room = room_for s c sound (new_means s c cycle digest new).1 in
      let one : (length (of_company c s.kept) == 0) ≡ true = grind (arith, nat_tests, few) in
      rw one at room

  -- there is room for a code in the last cycle
  pub note_room : (i : ℕ) (k : CycleRecord) → is_last_finished (last_of c s.kept) ≡ false → i ≡ length (before_company c s.kept) + length (of_company c s.kept) - 1 → k ≡ get_or s.kept i k → length k.codes < k.count
  note_room i k undone e read =
      let some = undone_some (of_company c s.kept) undone in
      let in_range : i < length s.kept = omega (arith, place_in_range c s.kept sound.sorted, e, some) in
      let fits : HasRoom k = subst HasRoom (sym read) (All-get_or HasRoom s.kept i k in_range sound.counts) in
      let last : last_of c s.kept ≡ Some k = read_at c s.kept sound.sorted i k e some read in
      room_left k fits (ap is_last_finished (sym last) ∙ undone)

  -- the list is the one after the line
  pub note_makes : (i code : ℕ) (v k : CycleRecord) → is_last_finished (last_of c s.kept) ≡ false → i ≡ length (before_company c s.kept) + length (of_company c s.kept) - 1 → k ≡ get_or s.kept i k → v ≡ record k { codes = k.codes ++ code ∷ [] } → record s { kept = set s.kept i v } ≡ after_note s c code
  unfolding after_note
  note_makes i code v k undone e read new =
      let some = undone_some (of_company c s.kept) undone in
      ap (λ (xs : List CycleRecord). let state : CyclesState = record s { kept = xs } in state) (noted_at c s.kept sound.sorted i code v k e some read new)

  -- and has the same companies
  pub note_known : (code : ℕ) → is_last_finished (last_of c s.kept) ≡ false → let after = after_note s c code in known_companies after.kept ≡ known_companies s.kept
  unfolding after_note
  note_known code undone =
      let some = undone_some (of_company c s.kept) undone in
      let length_same = note_last_length code (of_company c s.kept) in
      let known = known_some c (note_last code (of_company c s.kept)) s.kept sound.sorted (note_last_own c code _ (all_of_company c s.kept)) (omega (arith, some, length_same)) in
      let no : (length (of_company c s.kept) == 0) ≡ false = grind (arith, nat_tests) in
      rw no at known ∙ omega arith

-- the cycles before and after an opening
pub record AfterOpen (now new : CyclesState) (c : List ℕ) (cycle count : ℕ) (digest : List ℕ) : Type 0 where
  pub same : new ≡ after_open now c cycle count digest
  pub last : last_of c new.kept ≡ Some (opened c cycle count digest)
  pub others : (d : List ℕ) → (d ≡ c → ⊥) → of_company d new.kept ≡ of_company d now.kept
  pub sound : IsSound new
  pub known : known_companies new.kept ≡ known_companies now.kept + (if length (of_company c now.kept) == 0 then 1 else 0)

open_facts : (s : CyclesState) (sound : IsSound s) (c : List ℕ) (cycle count : ℕ) (digest : List ℕ) (k : CycleRecord) (from to : ℕ) (list : List CycleRecord) → standing_of s c cycle digest ≡ Ok New → k ≡ opened c cycle count digest → from ≡ length (before_company c s.kept) → to ≡ length (before_company c s.kept) + length (of_company c s.kept) → list ≡ (if to - from == 8 then remove (insert s.kept to k) from else insert s.kept to k) → AfterOpen s (record s { kept = list }) c cycle count digest
open_facts s sound c cycle count digest k from to list new e f g h =
    let made = open_makes s sound c cycle count digest k from to list e f g h in
    let few : to - from ≡ length (of_company c s.kept) = omega (arith, f, g) in
    record {
      same = made;
      last = ap (λ (t : CyclesState). last_of c t.kept) made ∙ last_after_open s sound c cycle count digest;
      others = λ d differ. ap (λ (t : CyclesState). of_company d t.kept) made ∙ others_after_open s sound c cycle count digest d differ;
      sound = subst IsSound (sym made) (sound_opened s sound c cycle count digest new);
      known = ap (λ (t : CyclesState). known_companies t.kept) made ∙ rw few at (open_known s sound c cycle count digest from to f g);
    }

-- from the fields s, of which the value is `now`
pub opened_list_facts : (s now : CyclesState) → s ≡ now → (sound : IsSound s) (c : List ℕ) (cycle count : ℕ) (digest : List ℕ) (k : CycleRecord) (from to : ℕ) (list : List CycleRecord) → standing_of now c cycle digest ≡ Ok New → k ≡ opened c cycle count digest → from ≡ length (before_company c now.kept) → to ≡ length (before_company c now.kept) + length (of_company c now.kept) → list ≡ (if to - from == 8 then remove (insert s.kept to k) from else insert s.kept to k) → AfterOpen now (record s { kept = list }) c cycle count digest
opened_list_facts s now view sound c cycle count digest k from to list new e f g h =
    let new_s : standing_of s c cycle digest ≡ Ok New = rw view new in
    let from_s : from ≡ length (before_company c s.kept) = rw view f in
    let to_s : to ≡ length (before_company c s.kept) + length (of_company c s.kept) = rw view g in
    subst (λ (t : CyclesState). AfterOpen t (record s { kept = list }) c cycle count digest) view (open_facts s sound c cycle count digest k from to list new_s e from_s to_s h)

-- the cycles before and after a line
pub record AfterNote (now new : CyclesState) (c : List ℕ) (code : ℕ) : Type 0 where
  pub same : new ≡ after_note now c code
  pub others : (d : List ℕ) → (d ≡ c → ⊥) → of_company d new.kept ≡ of_company d now.kept
  pub sound : IsSound new
  pub known : known_companies new.kept ≡ known_companies now.kept

note_facts : (s : CyclesState) (sound : IsSound s) (c : List ℕ) (i code : ℕ) (v k : CycleRecord) → is_last_finished (last_of c s.kept) ≡ false → i ≡ length (before_company c s.kept) + length (of_company c s.kept) - 1 → k ≡ get_or s.kept i k → v ≡ record k { codes = k.codes ++ code ∷ [] } → AfterNote s (record s { kept = set s.kept i v }) c code
note_facts s sound c i code v k undone e read new =
    let made = note_makes s sound c i code v k undone e read new in
    record {
      same = made;
      others = λ d differ. ap (λ (t : CyclesState). of_company d t.kept) made ∙ others_after_note s c code d differ;
      sound = subst IsSound (sym made) (sound_noted s sound c code undone);
      known = ap (λ (t : CyclesState). known_companies t.kept) made ∙ note_known s sound c code undone;
    }

pub noted_list_facts : (s now : CyclesState) → s ≡ now → (sound : IsSound s) (c : List ℕ) (to code : ℕ) (v k : CycleRecord) → is_last_finished (last_of c now.kept) ≡ false → to ≡ length (before_company c now.kept) + length (of_company c now.kept) → k ≡ get_or s.kept (to - 1) k → v ≡ record k { codes = k.codes ++ code ∷ [] } → AfterNote now (record s { kept = set s.kept (to - 1) v }) c code
noted_list_facts s now view sound c to code v k undone e read new =
    let undone_s : is_last_finished (last_of c s.kept) ≡ false = rw view undone in
    let to_s : to - 1 ≡ length (before_company c s.kept) + length (of_company c s.kept) - 1 = rw view (ap (λ n. n - 1) e) in
    subst (λ (t : CyclesState). AfterNote t (record s { kept = set s.kept (to - 1) v }) c code) view (note_facts s sound c (to - 1) code v k undone_s to_s read new)
