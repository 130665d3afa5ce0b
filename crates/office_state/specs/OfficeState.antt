-- The state of the office, which is all that the booked history makes of it.
use Rattle.std.specs.Prelude.{ℕ, List, [], Option}
use Rattle.msag_ranges.specs.StreetGuide.{StreetGuide}
use Rattle.sequence_once.specs.KeptCycles.{CyclesState}
use Rattle.sequence_once.specs.SerialStanding.{EditRecord, no_edits}
use Rattle.number_table.specs.NumberTable.{NumberTable, no_numbers}
use Rattle.office_state.specs.declared.counts.Counts.{Counts}
use Rattle.office_state.specs.declared.limits.Limits.{Limits}
use Rattle.office_state.specs.Counted.{no_counts}

-- the table of numbers and the most that it may hold, the street guide, the kept cycles of carriers' files, and the last edit of each editor
pub record State : Type 0 where
  pub table : NumberTable
  pub most_numbers : ℕ
  pub guide : StreetGuide
  pub cycles : CyclesState
  pub edits : List (Option EditRecord)

-- a guide as the state has it: how many ranges it has memory for is no part of the state, and stands as 0
abbrev pub without_spare : StreetGuide → StreetGuide
without_spare g = record g { spare = 0 }

-- a guide without ranges, which may hold at most so many
abbrev pub empty_guide : ℕ → StreetGuide
empty_guide limit = record { ranges = []; next = 1; limit = limit; spare = 0 }

-- nothing was booked yet
abbrev pub empty_state : Limits → State
empty_state limits = record {
  table = no_numbers;
  most_numbers = limits.numbers;
  guide = empty_guide limits.ranges;
  cycles = record { kept = []; limit = limits.companies };
  edits = no_edits;
}

-- the limits of the office that the program runs
abbrev pub office_limits : Limits
office_limits = record { companies = 64; numbers = 300_000; ranges = 100_000 }

-- the limits of a state
abbrev pub limits_of : State → Limits
limits_of s = record { companies = s.cycles.limit; numbers = s.most_numbers; ranges = s.guide.limit }

-- what an office keeps: the state, how many entries were booked, and what was counted of them
pub record OfficeState : Type 0 where
  pub state : State
  pub entries : ℕ
  pub counts : Counts

-- an office in which nothing was booked yet
abbrev pub empty_office : Limits → OfficeState
empty_office limits = record { state = empty_state limits; entries = 0; counts = no_counts }

-- the office of these parts
abbrev pub office_of : NumberTable → ℕ → StreetGuide → CyclesState → List (Option EditRecord) → ℕ → Counts → OfficeState
office_of table most guide cycles edits entries counts = record {
  state = record { table = table; most_numbers = most; guide = without_spare guide; cycles = cycles; edits = edits };
  entries = entries;
  counts = counts;
}
