-- What a carrier's file is to the kept cycles, by its company, its cycle and the digest of its bytes.
use Rattle.std.specs.Prelude.{◌≡◌, ℕ, ◌+◌, ◌<◌, ◌==◌, ◌&&◌, ◌||◌, Bool, not, nat_lt, nat_le, List, [], ◌∷◌, length, find, Option, Some, None, Result, Ok, Err, ◌↔◌, if◌then◌else◌}
use Rattle.std.specs.Str.{bytes_eq}
use Rattle.sequence_once.specs.KeptCycles.{CycleRecord, CyclesState, of_company, newest, is_finished, is_last_finished, is_known, known_companies}
use Rattle.sequence_once.specs.declared.standing.Standing.{Standing}
use Rattle.sequence_once.specs.declared.standing.Standing.TheVariants.{New, Resume, Complete}
use Rattle.sequence_once.specs.declared.standing.CycleFault.{CycleFault}
use Rattle.sequence_once.specs.declared.standing.CycleFault.TheVariants.{Gap, Differs, TooOld, CompaniesFull}

-- the number of a company's last cycle, 0 before its first file
abbrev pub last_number : Option CycleRecord → ℕ
last_number None = 0
last_number (Some k) = k.cycle

-- the oldest kept cycle of a company
abbrev pub oldest_number : List CycleRecord → ℕ
oldest_number [] = 0
oldest_number (k ∷ rest) = k.cycle

-- the cycle after the last, where the last is finished
abbrev pub is_next : Option CycleRecord → ℕ → Bool
is_next last cycle = (cycle == last_number last + 1) && is_last_finished last

-- above the next cycle, or above an unfinished last one
abbrev pub is_beyond : Option CycleRecord → ℕ → Bool
is_beyond last cycle = nat_lt (last_number last + 1) cycle || (not (is_last_finished last) && nat_lt (last_number last) cycle)

-- the cycle that is due: the last one while it is unfinished, and otherwise the one after it
abbrev pub due_number : Option CycleRecord → ℕ
due_number last = if is_last_finished last then last_number last + 1 else last_number last

-- a new company finds no room where the limit is reached
abbrev pub is_full : CyclesState → List ℕ → Bool
is_full s company = not (is_known company s.kept) && nat_le s.limit (known_companies s.kept)

-- a file whose cycle is kept: another digest; or resumed at the next line; or complete
abbrev pub repeated : CycleRecord → List ℕ → Result Standing CycleFault
repeated k digest =
    if bytes_eq k.digest digest
    then (if is_finished k then Ok Complete else Ok (Resume (length k.codes + 1)))
    else Err (Differs k.digest digest)

-- a file whose cycle is not above the last: kept, or below the oldest kept
abbrev pub earlier : Option CycleRecord → ℕ → List ℕ → Result Standing CycleFault
earlier (Some k) oldest digest = repeated k digest
earlier None oldest digest = Err (TooOld oldest)

-- the standing by the company's own cycles, where `full` says that a new cycle finds no room under this limit
abbrev pub standing_among : List CycleRecord → Bool → ℕ → ℕ → List ℕ → Result Standing CycleFault
standing_among cycles full limit cycle digest =
    if is_next (newest cycles) cycle
    then (if full then Err (CompaniesFull limit) else Ok New)
    else (if is_beyond (newest cycles) cycle
    then Err (Gap (due_number (newest cycles)))
    else earlier (find (λ k. k.cycle == cycle) cycles) (oldest_number cycles) digest)

-- the file is too old exactly where its cycle is below the company's oldest kept
abbrev pub IsTooOld : CyclesState → List ℕ → ℕ → Result Standing CycleFault → Type 0
IsTooOld s company cycle answer =
    let oldest = oldest_number (of_company company s.kept) in (answer ≡ Err (TooOld oldest)) ↔ (cycle < oldest)

-- the standing of a file
unfoldable pub standing_of : CyclesState → List ℕ → ℕ → List ℕ → Result Standing CycleFault
standing_of s company cycle digest = standing_among (of_company company s.kept) (is_full s company) s.limit cycle digest
