-- What the standing of a carrier's file says of its kept cycle, and what it is after the file's opening and after a line.
use Rattle.std.proofs.Common.{◌≡◌, ℕ, suc, ◌+◌, ◌-◌, ◌<◌, ◌≤◌, ◌==◌, not, Bool, true, false, List, [], ◌∷◌, ◌++◌, length, length-append, drop, get_or, Option, Some, None, option_map, unwrap_or, Result, Ok, Err, refl, ap, sym, ◌∙◌, subst, arith, if◌then◌else◌}
use Rattle.std.proofs.Math.Seq.{drop-cons}
use Rattle.std.proofs.lemmas.List.{drop_all, get_or_append_left}
use Rattle.std.proofs.lemmas.List.Elements.{All-get_or, All-tail}
use Rattle.std.proofs.lemmas.Bool.Decides.{nat_tests}
use Rattle.sha2.specs.Sha256.{sha256}
use Rattle.batch_frame.specs.CarrierFile.{CarrierFile, IsRecord, separator_of, piece_size}
use Rattle.batch_frame.specs.FrameFault.{frame_fault, file_of, found}
use Rattle.batch_frame.proofs.Cutting.{records_in-length}
use Rattle.batch_frame.proofs.Readings.{file_of_read}
use Rattle.sequence_once.specs.KeptCycles.{CycleRecord, IsSound, codes_of, count_of}
use Rattle.sequence_once.specs.CycleStanding.{standing_of}
use Rattle.sequence_once.specs.declared.standing.Standing.{Standing}
use Rattle.sequence_once.specs.declared.standing.Standing.TheVariants.{New, Resume, Complete}
use Rattle.sequence_once.specs.declared.standing.CycleFault.{CycleFault}
use Rattle.office_state.specs.OfficeState.{State}
use Rattle.office_state.specs.Due.{due_line}
use Rattle.office_state.specs.Verdict.{after}
use Rattle.sequence_once.proofs.KeptFiles.{kept_file}
use Rattle.office_state.proofs.Standings.{resumed, complete_codes, standing_after_open, count_after_open, standing_after_line, count_after_line}
use Rattle.batch_desk.specs.FileJobs.{is_other_count, with_count, file_standing, opening, line_entry, line_entries, lines_from}
use Rattle.batch_desk.specs.JobReplies.{kept_codes}

-- the parts of any bytes are as many records as their count
pub as_many : (bytes : List ℕ) → let file = file_of bytes in file.count ≡ length file.records
unfolding file_of
as_many bytes = sym (records_in-length (separator_of bytes) (found bytes) (drop (piece_size (separator_of bytes)) bytes))

-- and each record of a file without a fault has 512 bytes
pub record_width : (bytes : List ℕ) (line : ℕ) → frame_fault bytes ≡ None → 1 ≤ line → let file = file_of bytes in line ≤ length file.records → length (get_or file.records (line - 1) []) ≡ 512
record_width bytes line framed low high =
    let file = file_of bytes in
    let parts = (file_of_read bytes framed).parts in
    let there : line - 1 < length file.records = omega arith in
    let among : line - 1 < length (file.records ++ file.trailer ∷ []) = omega (arith, length-append file.records (file.trailer ∷ [])) in
    subst IsRecord (get_or_append_left file.records (file.trailer ∷ []) [] (line - 1) there) (All-get_or IsRecord (file.records ++ file.trailer ∷ []) (line - 1) [] among (All-tail IsRecord file.header (file.records ++ file.trailer ∷ []) parts.widths))

-- a new file is one by its digest alone
new_alone : (other : Bool) (digest : List ℕ) (r : Result Standing CycleFault) → with_count other digest r ≡ Ok New → r ≡ Ok New
new_alone other digest (Err f) e = cc
new_alone other digest (Ok New) e = refl
new_alone true digest (Ok (Resume line)) e = cc
new_alone false digest (Ok (Resume line)) e = cc
new_alone true digest (Ok Complete) e = cc
new_alone false digest (Ok Complete) e = cc

-- any other has the count that is kept
old_alone : (other : Bool) (digest : List ℕ) (r : Result Standing CycleFault) (standing : Standing) → (New ≡ standing → ⊥) → with_count other digest r ≡ Ok standing → (other ≡ false) × (r ≡ Ok standing)
old_alone other digest (Err f) standing old e = cc
old_alone other digest (Ok New) standing old e = absurd (old cc)
old_alone true digest (Ok (Resume line)) standing old e = cc
old_alone false digest (Ok (Resume line)) standing old e = (refl, e)
old_alone true digest (Ok Complete) standing old e = cc
old_alone false digest (Ok Complete) standing old e = (refl, e)

with_own : (digest : List ℕ) (r : Result Standing CycleFault) → with_count false digest r ≡ r
with_own digest (Err f) = refl
with_own digest (Ok New) = refl
with_own digest (Ok (Resume line)) = refl
with_own digest (Ok Complete) = refl

same_count : (kept count : ℕ) → not (kept == count) ≡ false → kept ≡ count
same_count kept count e = grind (arith, nat_tests)

own_count : (count : ℕ) → not (count == count) ≡ false
own_count count = grind (arith, nat_tests)

kept_count : (o : Option ℕ) (kept count : ℕ) → o ≡ Some kept → is_other_count o count ≡ false → o ≡ Some count
kept_count None kept count e f = cc
kept_count (Some n) kept count e f = ap (λ (m : ℕ). Some m) (same_count n count f)

-- a new file has a new cycle
pub new_file : (s : State) (bytes : List ℕ) → file_standing s bytes ≡ Ok New → let file = file_of bytes in standing_of s.cycles file.company file.cycle (sha256 bytes) ≡ Ok New
unfolding file_standing
new_file s bytes e = new_alone _ _ _ e

-- the cycle of a file that is resumed or complete stands as the file does, and is kept with its count
pub record OldFile (s : State) (bytes : List ℕ) (standing : Standing) : Type 0 where
  pub stands : let file = file_of bytes in standing_of s.cycles file.company file.cycle (sha256 bytes) ≡ Ok standing
  pub counted : let file = file_of bytes in count_of file.company file.cycle s.cycles.kept ≡ Some file.count

-- as a standing other than new says
pub old_file : (s : State) (bytes : List ℕ) (standing : Standing) → (New ≡ standing → ⊥) → file_standing s bytes ≡ Ok standing → OldFile s bytes standing
unfolding file_standing
old_file s bytes standing old e =
    let file = file_of bytes in
    let facts = old_alone _ _ _ standing old e in
    let there = kept_file s.cycles file.company file.cycle (sha256 bytes) standing old facts.1 in
    record {
      stands = facts.1;
      counted = kept_count (count_of file.company file.cycle s.cycles.kept) _ file.count (ap (option_map (λ (k : CycleRecord). k.count)) there.there) facts.0;
    }

-- a file whose cycle is kept with its count stands as its cycle does
pub by_cycle : (s : State) (bytes : List ℕ) → let file = file_of bytes in count_of file.company file.cycle s.cycles.kept ≡ Some file.count → file_standing s bytes ≡ standing_of s.cycles file.company file.cycle (sha256 bytes)
unfolding file_standing
by_cycle s bytes e =
    let file = file_of bytes in
    let none : is_other_count (count_of file.company file.cycle s.cycles.kept) file.count ≡ false = ap (λ (o : Option ℕ). is_other_count o file.count) e ∙ own_count file.count in
    ap (λ (other : Bool). with_count other (sha256 bytes) (standing_of s.cycles file.company file.cycle (sha256 bytes))) none ∙ with_own (sha256 bytes) (standing_of s.cycles file.company file.cycle (sha256 bytes))

-- after its opening a file is complete where it has no lines, and resumed at line 1 otherwise
pub after_opening : (s : State) (bytes : List ℕ) → IsSound s.cycles → file_standing s bytes ≡ Ok New → let file = file_of bytes in file_standing (after s (opening bytes)) bytes ≡ (if file.count == 0 then Ok Complete else Ok (Resume 1))
after_opening s bytes sound e =
    let file = file_of bytes in
    let new = new_file s bytes e in
    by_cycle (after s (opening bytes)) bytes (count_after_open s sound file.company file.cycle file.count file.day (sha256 bytes) new)
    ∙ standing_after_open s sound file.company file.cycle file.count file.day (sha256 bytes) new

-- after a line it is complete where the line was its last, and resumed at the next line otherwise
pub after_line : (s : State) (bytes : List ℕ) (line : ℕ) → IsSound s.cycles → file_standing s bytes ≡ Ok (Resume line) → let file = file_of bytes in file_standing (after s (line_entry file line)) bytes ≡ (if line == file.count then Ok Complete else Ok (Resume (line + 1)))
after_line s bytes line sound e =
    let file = file_of bytes in
    let record_here = get_or file.records (line - 1) [] in
    let old = old_file s bytes (Resume line) (λ h. cc) e in
    by_cycle (after s (line_entry file line)) bytes (count_after_line s sound file.company file.cycle (sha256 bytes) line record_here old.stands ∙ old.counted)
    ∙ standing_after_line s sound file.company file.cycle (sha256 bytes) line record_here old.stands file.count old.counted

-- a line at which a file is resumed is one of its lines
pub line_within : (s : State) (bytes : List ℕ) (line : ℕ) → IsSound s.cycles → file_standing s bytes ≡ Ok (Resume line) → let file = file_of bytes in (1 ≤ line) × (line ≤ file.count)
line_within s bytes line sound e =
    let file = file_of bytes in
    let old = old_file s bytes (Resume line) (λ h. cc) e in
    let open_at = resumed s sound file.company file.cycle (sha256 bytes) line old.stands in
    let next = open_at.next in
    let room = open_at.room in
    let counts : Some open_at.kept.count ≡ Some file.count = sym open_at.count ∙ old.counted in
    let count : open_at.kept.count ≡ file.count = cc in
    (omega arith, omega arith)

-- and it is due
pub line_due : (s : State) (bytes : List ℕ) (line : ℕ) → IsSound s.cycles → file_standing s bytes ≡ Ok (Resume line) → let file = file_of bytes in due_line s file.company ≡ Some (file.cycle, line)
line_due s bytes line sound e =
    let file = file_of bytes in
    let old = old_file s bytes (Resume line) (λ h. cc) e in
    (resumed s sound file.company file.cycle (sha256 bytes) line old.stands).due

-- a complete file has as many codes as lines
pub complete_length : (s : State) (bytes : List ℕ) → file_standing s bytes ≡ Ok Complete → let file = file_of bytes in length (kept_codes s bytes) ≡ file.count
complete_length s bytes e =
    let file = file_of bytes in
    let old = old_file s bytes Complete (λ h. cc) e in
    let codes = complete_codes s file.company file.cycle (sha256 bytes) old.stands file.count old.counted in
    ap (λ (o : Option (List ℕ)). length (unwrap_or o [])) codes.1 ∙ codes.2

-- a complete file is complete as long as its cycle is kept with these codes
pub stays_file : (s later : State) (bytes : List ℕ) → file_standing s bytes ≡ Ok Complete → let file = file_of bytes in standing_of later.cycles file.company file.cycle (sha256 bytes) ≡ Ok Complete
    → codes_of file.company file.cycle later.cycles.kept ≡ codes_of file.company file.cycle s.cycles.kept → file_standing later bytes ≡ Ok Complete
stays_file s later bytes e stands same =
    let file = file_of bytes in
    let old = old_file s bytes Complete (λ h. cc) e in
    let codes = complete_codes s file.company file.cycle (sha256 bytes) old.stands file.count old.counted in
    let kept = kept_file later.cycles file.company file.cycle (sha256 bytes) Complete (λ h. cc) stands in
    let counted = ap (option_map (λ (k : CycleRecord). k.count)) kept.there in
    let again = complete_codes later file.company file.cycle (sha256 bytes) stands kept.kept.count counted in
    let one : again.0 ≡ codes.0 = cc (again.1, same, codes.1) in
    let count : kept.kept.count ≡ file.count = omega (arith, again.2, codes.2, ap length one) in
    by_cycle later bytes (counted ∙ ap (λ (n : ℕ). Some n) count) ∙ stands

-- the lines of a file from this one on: this one, and those behind it
pub first_line : (file : CarrierFile) (line : ℕ) → 1 ≤ line → line ≤ length file.records → lines_from file line ≡ line_entry file line ∷ lines_from file (line + 1)
first_line file line low high =
    let suc_back : suc (line - 1) ≡ line + 1 - 1 = omega arith in
    let some : line - 1 < length file.records = omega arith in
    ap (line_entries file line) (drop-cons file.records (line - 1) [] some ∙ ap (λ (n : ℕ). get_or file.records (line - 1) [] ∷ drop n file.records) suc_back)

-- behind the last there are none
pub no_lines : (file : CarrierFile) (line : ℕ) → length file.records ≤ line → lines_from file (line + 1) ≡ []
no_lines file line past =
    let none : length file.records ≤ line + 1 - 1 = omega arith in
    ap (line_entries file (line + 1)) (drop_all (line + 1 - 1) file.records none)
