-- The standing of a company's file after its opening and after each of its lines.
use Rattle.std.proofs.Common.{◌≡◌, ℕ, ◌+◌, ◌<◌, ◌≤◌, ◌==◌, Bool, false, List, [], ◌∷◌, ◌++◌, length, Some, Result, Ok, length-append, refl, ap, sym, ◌∙◌, subst, arith, if◌then◌else◌, option_map}
use Rattle.std.specs.Str.{bytes_eq}
use Rattle.std.proofs.lemmas.Slice.Eq.{bytes_eq-Decides}
use Rattle.std.proofs.lemmas.Bool.Decides.{nat_tests}
use Rattle.sequence_once.specs.KeptCycles.{CycleRecord, CyclesState, IsSound, of_company, last_of, is_finished, is_last_finished, opened, after_open, after_note, count_of}
use Rattle.sequence_once.specs.CycleStanding.{standing_of}
use Rattle.sequence_once.specs.declared.standing.Standing.{Standing}
use Rattle.sequence_once.specs.declared.standing.Standing.TheVariants.{New, Resume, Complete}
use Rattle.sequence_once.specs.declared.standing.CycleFault.{CycleFault}
use Rattle.sequence_once.proofs.CycleRuns.{found_number, found_unfinished}
use Rattle.sequence_once.proofs.KeptFiles.{kept_file, resumed_means, repeats, count_of_last, standing_of_last, room_of_last}
use Rattle.sequence_once.proofs.Laws.{last_after_open, last_after_note}
use Rattle.sequence_once.proofs.Runs.{room_left}
use Rattle.sequence_once.proofs.Sound.{sound_opened, sound_noted}

-- complete, or resumed at this line
abbrev pub complete_or : Bool → ℕ → Result Standing CycleFault
complete_or done line = if done then Ok Complete else Ok (Resume line)

-- after an opening that was new
module _ (s : CyclesState) (sound : IsSound s) (company : List ℕ) (cycle count : ℕ) (digest : List ℕ) (new : standing_of s company cycle digest ≡ Ok New) where
  later : CyclesState
  later = after_open s company cycle count digest

  sound_later : IsSound later
  unfolding later
  sound_later = sound_opened s sound company cycle count digest new

  last_later : last_of company later.kept ≡ Some (opened company cycle count digest)
  unfolding later
  last_later = last_after_open s sound company cycle count digest

  -- the file is complete where it has no lines, and resumed at line 1 otherwise
  standing_later : standing_of later company cycle digest ≡ complete_or (count == 0) 1
  standing_later =
      let k = opened company cycle count digest in
      let none : (0 == count) ≡ (count == 0) = grind (arith, nat_tests) in
      standing_of_last later sound_later company k last_later digest ∙ repeats k digest refl ∙ ap (λ b. complete_or b 1) none

  pub standing_opened : standing_of (after_open s company cycle count digest) company cycle digest ≡ complete_or (count == 0) 1
  unfolding later
  standing_opened = standing_later

  -- its lines are counted
  pub count_opened : let after = after_open s company cycle count digest in count_of company cycle after.kept ≡ Some count
  unfolding later
  count_opened = count_of_last later sound_later company (opened company cycle count digest) last_later

-- the kept cycle of a file that is resumed at a line: it is its company's last
pub record ResumedFile (s : CyclesState) (company : List ℕ) (cycle : ℕ) (digest : List ℕ) (line : ℕ) : Type 0 where
  pub kept : CycleRecord
  pub is_last : last_of company s.kept ≡ Some kept
  pub number : kept.cycle ≡ cycle
  pub same : kept.digest ≡ digest
  pub next : length kept.codes + 1 ≡ line
  pub room : line ≤ kept.count
  pub undone : is_finished kept ≡ false
  pub count : count_of company cycle s.kept ≡ Some kept.count

-- a file that is resumed has such a cycle
pub resumed_file : (s : CyclesState) → IsSound s → (company : List ℕ) (cycle : ℕ) (digest : List ℕ) (line : ℕ) → standing_of s company cycle digest ≡ Ok (Resume line) → ResumedFile s company cycle digest line
resumed_file s sound company cycle digest line e =
    let file = kept_file s company cycle digest (Resume line) (λ h. cc) e in
    let k = file.kept in
    let facts = resumed_means (bytes_eq k.digest digest) (is_finished k) (length k.codes + 1) line k.digest digest file.stands in
    let last : last_of company s.kept ≡ Some k = found_unfinished cycle (of_company company s.kept) k (sound.runs company) file.there facts.1 in
    let free : length k.codes < k.count = room_left k (room_of_last s sound company k last) facts.1 in
    let next : length k.codes + 1 ≡ line = facts.2 in
    record {
      kept = k;
      is_last = last;
      number = found_number cycle (of_company company s.kept) k file.there;
      same = (bytes_eq-Decides k.digest digest).0 facts.0;
      next = next;
      room = omega (arith, free, next);
      undone = facts.1;
      count = ap (option_map (λ (j : CycleRecord). j.count)) file.there;
    }

-- a line's code is noted under that cycle
abbrev noted : CycleRecord → ℕ → CycleRecord
noted k code = record k { codes = k.codes ++ code ∷ [] }

-- the noted cycle, by its number and digest, before it is told of the file
module _ (s : CyclesState) (sound : IsSound s) (company digest : List ℕ) (k : CycleRecord) (line code : ℕ) (last : last_of company s.kept ≡ Some k) (undone : is_finished k ≡ false) (same : k.digest ≡ digest) (next : length k.codes + 1 ≡ line) where
  sound_then : IsSound (after_note s company code)
  sound_then = sound_noted s sound company code (ap is_last_finished last ∙ undone)

  full : length (k.codes ++ code ∷ []) ≡ line
  full = omega (arith, next, length-append k.codes (code ∷ []))

  last_then : let after = after_note s company code in last_of company after.kept ≡ Some (noted k code)
  last_then = last_after_note s company code k last

  count_then : let after = after_note s company code in count_of company k.cycle after.kept ≡ Some k.count
  count_then = count_of_last (after_note s company code) sound_then company (noted k code) last_then

  standing_then : standing_of (after_note s company code) company k.cycle digest ≡ complete_or (line == k.count) (line + 1)
  standing_then =
      standing_of_last (after_note s company code) sound_then company (noted k code) last_then digest
      ∙ repeats (noted k code) digest same
      ∙ ap (λ (n : ℕ). complete_or (n == k.count) (n + 1)) full

-- after a line at which the file was resumed
module _ (s : CyclesState) (sound : IsSound s) (company : List ℕ) (cycle : ℕ) (digest : List ℕ) (line code : ℕ) (stands : standing_of s company cycle digest ≡ Ok (Resume line)) where
  -- its count is the same
  pub count_noted : let after = after_note s company code in count_of company cycle after.kept ≡ count_of company cycle s.kept
  count_noted =
      let file = resumed_file s sound company cycle digest line stands in
      let after = after_note s company code in
      subst (λ (n : ℕ). count_of company n after.kept ≡ Some file.kept.count) file.number (count_then s sound company digest file.kept line code file.is_last file.undone file.same file.next) ∙ sym file.count

  -- the file is complete after its last line, and resumed at the next one otherwise
  pub standing_noted : (count : ℕ) → count_of company cycle s.kept ≡ Some count → standing_of (after_note s company code) company cycle digest ≡ complete_or (line == count) (line + 1)
  standing_noted count e =
      let file = resumed_file s sound company cycle digest line stands in
      let lines : file.kept.count ≡ count = (let h = file.count in cc) in
      subst (λ (n : ℕ). standing_of (after_note s company code) company n digest ≡ complete_or (line == file.kept.count) (line + 1)) file.number (standing_then s sound company digest file.kept line code file.is_last file.undone file.same file.next)
      ∙ ap (λ (n : ℕ). complete_or (line == n) (line + 1)) lines
