-- What is counted of a history: at its places, each with the verdict in the state before it; and in the state after it.
use Rattle.std.specs.Prelude.{◌≡◌, ℕ, ◌==◌, ◌&&◌, Bool, true, false, not, List, [], ◌∷◌, ◌++◌, length, count_by, slice_index}
use Rattle.std.specs.FinMap.{len}
use Rattle.sequence_once.specs.KeptCycles.{known_companies}
use Rattle.number_table.specs.NumberTable.{unlocked_in}
use Rattle.office_entry.specs.declared.entry.Entry.{Entry}
use Rattle.office_entry.specs.declared.entry.Entry.TheVariants.{Open, Line, Edit}
use Rattle.office_state.specs.declared.counts.Counts.{Counts}
use Rattle.office_state.specs.declared.counts.TheConstants.{CODES}
use Rattle.office_state.specs.declared.limits.Limits.{Limits}
use Rattle.office_state.specs.declared.tally.Tally.{Tally}
use Rattle.office_state.specs.OfficeState.{OfficeState}
use Rattle.office_state.specs.States.{state}
use Rattle.office_state.specs.Verdict.{verdict}

-- ---- places

-- a place of a history: the entries before it, and the one that stands there
pub record Place : Type 0 where
  pub before : List Entry
  pub entry : Entry

-- the places of these entries, which stand behind others
abbrev pub places_behind : List Entry → List Entry → List Place
places_behind before [] = []
places_behind before (e ∷ entries) = record { before = before; entry = e } ∷ places_behind (before ++ e ∷ []) entries

-- each place of a history
abbrev pub places : List Entry → List Place
places history = places_behind [] history

-- ---- what stands there

abbrev pub is_opening : Entry → Bool
is_opening (Open company cycle count day digest) = true
is_opening (Line company cycle line bytes) = false
is_opening (Edit editor serial edit) = false

abbrev pub is_line : Entry → Bool
is_line (Open company cycle count day digest) = false
is_line (Line company cycle line bytes) = true
is_line (Edit editor serial edit) = false

abbrev pub is_edit : Entry → Bool
is_edit (Open company cycle count day digest) = false
is_edit (Line company cycle line bytes) = false
is_edit (Edit editor serial edit) = true

-- the code of the verdict at a place, in the state before it
abbrev pub code_at : Limits → Place → ℕ
code_at limits place = (verdict (state limits place.before) place.entry).code

-- a line or an edit stands there, and got this code
abbrev pub gets_code : Limits → ℕ → Place → Bool
gets_code limits code place = not (is_opening place.entry) && (code_at limits place == code)

-- ---- how many places

abbrev pub opens_of : List Entry → ℕ
opens_of history = count_by is_opening history

abbrev pub lines_of : List Entry → ℕ
lines_of history = count_by is_line history

abbrev pub edits_of : List Entry → ℕ
edits_of history = count_by is_edit history

-- how often a line or an edit got this code
abbrev pub times_of : Limits → List Entry → ℕ → ℕ
times_of limits history code = count_by (gets_code limits code) (places history)

-- ---- what an office and its tally have

-- the counts of an office are those of a history, and it has one for each code
pub record AreCounts (limits : Limits) (history : List Entry) (counts : Counts) : Type 0 where
  pub opens : counts.opens ≡ opens_of history
  pub lines : counts.lines ≡ lines_of history
  pub edits : counts.edits ≡ edits_of history
  pub places : length counts.codes ≡ CODES
  pub codes : (code : ℕ) → slice_index counts.codes code ≡ times_of limits history code

-- how often a tally has a code
abbrev pub count_in : Tally → ℕ → ℕ
count_in tally code = slice_index tally.codes code

-- the tally of a history: its places, and the state after it
pub record IsTally (limits : Limits) (history : List Entry) (tally : Tally) : Type 0 where
  pub entries : tally.entries ≡ length history
  pub opens : tally.opens ≡ opens_of history
  pub lines : tally.lines ≡ lines_of history
  pub edits : tally.edits ≡ edits_of history
  pub codes : (code : ℕ) → count_in tally code ≡ times_of limits history code
  pub numbers : tally.numbers ≡ len (state limits history).table
  pub unlocked : tally.unlocked ≡ unlocked_in (state limits history).table
  pub ranges : tally.ranges ≡ length (state limits history).guide.ranges
  pub companies : tally.companies ≡ known_companies (state limits history).cycles.kept

-- the tally of an office: what it has counted, and what its state has
abbrev pub tally_of : OfficeState → Tally
tally_of office = record {
  entries = office.entries;
  opens = office.counts.opens;
  lines = office.counts.lines;
  edits = office.counts.edits;
  numbers = len office.state.table;
  unlocked = unlocked_in office.state.table;
  ranges = length office.state.guide.ranges;
  companies = known_companies office.state.cycles.kept;
  codes = office.counts.codes;
}
