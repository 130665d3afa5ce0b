-- What an entry that is due says of the kept cycles and of the last edits.
use Rattle.std.proofs.Common.{◌≡◌, ℕ, ◌+◌, List, Option, Some, None, Result, Ok, Err, arith}
use Rattle.std.proofs.lemmas.Bool.Decides.{nat_tests}
use Rattle.sequence_once.specs.SerialStanding.{EditRecord, last_serial, serial_standing}
use Rattle.sequence_once.specs.declared.standing.Standing.{Standing}
use Rattle.sequence_once.specs.declared.standing.Standing.TheVariants.{New, Resume, Complete}
use Rattle.sequence_once.specs.declared.standing.CycleFault.{CycleFault}
use Rattle.office_state.specs.Due.{opening_due, line_due, edit_due}

-- an opening is of a new file
pub opens_new : (next : Option (ℕ × ℕ)) (r : Result Standing CycleFault) (u : Unit {0}) → opening_due next r ≡ Ok u → r ≡ Ok New
opens_new next (Ok New) u h = λ i. Ok New
opens_new next (Ok (Resume line)) u h = absurd (cc h)
opens_new next (Ok Complete) u h = absurd (cc h)
opens_new next (Err f) u h = absurd (cc h)

-- a line is the next one
pub is_next_line : (next : Option (ℕ × ℕ)) (cycle line : ℕ) (u : Unit {0}) → line_due next cycle line ≡ Ok u → next ≡ Some (cycle, line)
is_next_line None cycle line u h = absurd (cc h)
is_next_line (Some next) cycle line u h = grind (arith, nat_tests)

-- an edit is a new one
pub edits_new : (r : Result Standing CycleFault) (u : Unit {0}) → edit_due r ≡ Ok u → r ≡ Ok New
edits_new (Ok New) u h = λ i. Ok New
edits_new (Ok (Resume line)) u h = absurd (cc h)
edits_new (Ok Complete) u h = absurd (cc h)
edits_new (Err f) u h = absurd (cc h)

-- which has the serial after its editor's last
pub is_next_serial : (last : Option EditRecord) (serial : ℕ) (digest : List ℕ) → serial_standing last serial digest ≡ Ok New → serial ≡ last_serial last + 1
is_next_serial None serial digest h = grind (arith, nat_tests)
is_next_serial (Some e) serial digest h = grind (arith, nat_tests)
