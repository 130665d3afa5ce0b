-- The standing of a company's file after an opening and after a line, in the state of the office.
use Rattle.std.proofs.Common.{◌≡◌, ℕ, ◌+◌, ◌≤◌, ◌==◌, nat_lt, true, List, length, Option, Some, Ok, refl, arith}
use Rattle.std.proofs.lemmas.Bool.Decides.{nat_tests}
use Rattle.ali_base.specs.CivilDay.{CivilDay}
use Rattle.sequence_once.specs.KeptCycles.{CycleRecord, IsSound, last_of, codes_of, count_of}
use Rattle.sequence_once.specs.CycleStanding.{standing_of}
use Rattle.sequence_once.specs.declared.standing.Standing.TheVariants.{New, Resume, Complete}
use Rattle.sequence_once.proofs.KeptFiles.{complete_codes as codes_counted}
use Rattle.sequence_once.proofs.FileSteps.{complete_or, resumed_file, count_opened, standing_opened, count_noted, standing_noted}
use Rattle.office_entry.specs.declared.entry.Entry.TheVariants.{Open, Line}
use Rattle.office_state.specs.OfficeState.{State}
use Rattle.office_state.specs.Due.{due_line, line_of_last}
use Rattle.office_state.specs.Verdict.{after, code_in}

-- after an opening that was new
module _ (s : State) (sound : IsSound s.cycles) (company : List ℕ) (cycle count : ℕ) (day : CivilDay) (digest : List ℕ) (new : standing_of s.cycles company cycle digest ≡ Ok New) where
  -- the file is complete where it has no lines, and resumed at line 1 otherwise
  pub standing_after_open : let later = after s (Open company cycle count day digest) in standing_of later.cycles company cycle digest ≡ complete_or (count == 0) 1
  unfolding after
  standing_after_open = standing_opened s.cycles sound company cycle count digest new

  -- its lines are counted
  pub count_after_open : let later = after s (Open company cycle count day digest) in count_of company cycle later.cycles.kept ≡ Some count
  unfolding after
  count_after_open = count_opened s.cycles sound company cycle count digest new

due_of_last : (o : Option CycleRecord) (k : CycleRecord) (cycle line : ℕ) → o ≡ Some k → k.cycle ≡ cycle → length k.codes + 1 ≡ line → line ≤ k.count → line_of_last o ≡ Some (cycle, line)
due_of_last o k cycle line last number next room =
    let yes : nat_lt (length k.codes) k.count ≡ true = grind (arith, nat_tests, next, room) in
    rw (last, yes, number, next) refl

-- the kept cycle of a file that is resumed at a line, and the line is due
pub record Resumed (s : State) (company : List ℕ) (cycle : ℕ) (digest : List ℕ) (line : ℕ) : Type 0 where
  pub kept : CycleRecord
  pub next : length kept.codes + 1 ≡ line
  pub room : line ≤ kept.count
  pub count : count_of company cycle s.cycles.kept ≡ Some kept.count
  pub due : due_line s company ≡ Some (cycle, line)

pub resumed : (s : State) → IsSound s.cycles → (company : List ℕ) (cycle : ℕ) (digest : List ℕ) (line : ℕ) → standing_of s.cycles company cycle digest ≡ Ok (Resume line) → Resumed s company cycle digest line
resumed s sound company cycle digest line stands =
    let file = resumed_file s.cycles sound company cycle digest line stands in
    record {
      kept = file.kept;
      next = file.next;
      room = file.room;
      count = file.count;
      due = due_of_last (last_of company s.cycles.kept) file.kept cycle line file.is_last file.number file.next file.room;
    }

-- after a line at which the file was resumed
module _ (s : State) (sound : IsSound s.cycles) (company : List ℕ) (cycle : ℕ) (digest : List ℕ) (line : ℕ) (bytes : List ℕ) (stands : standing_of s.cycles company cycle digest ≡ Ok (Resume line)) where
  -- its count is the same
  pub count_after_line : let later = after s (Line company cycle line bytes) in count_of company cycle later.cycles.kept ≡ count_of company cycle s.cycles.kept
  unfolding after
  count_after_line = count_noted s.cycles sound company cycle digest line (code_in s company bytes) stands

  -- it is complete after its last line, and resumed at the next one otherwise
  pub standing_after_line : (count : ℕ) → count_of company cycle s.cycles.kept ≡ Some count → let later = after s (Line company cycle line bytes) in standing_of later.cycles company cycle digest ≡ complete_or (line == count) (line + 1)
  unfolding after
  standing_after_line count e = standing_noted s.cycles sound company cycle digest line (code_in s company bytes) stands count e

-- the codes of a finished cycle are as many as its lines
pub complete_codes : (s : State) (company : List ℕ) (cycle : ℕ) (digest : List ℕ) → standing_of s.cycles company cycle digest ≡ Ok Complete → (count : ℕ) → count_of company cycle s.cycles.kept ≡ Some count → (codes : List ℕ) × (codes_of company cycle s.cycles.kept ≡ Some codes) × (length codes ≡ count)
complete_codes s company cycle digest complete count has = codes_counted s.cycles company cycle digest complete count has
