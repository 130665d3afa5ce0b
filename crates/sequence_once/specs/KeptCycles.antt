-- The kept cycles of carriers' files, as one list in the order of company and cycle.
use Rattle.std.specs.Prelude.{◌≡◌, ◌≢◌, ℕ, ◌+◌, ◌-◌, ◌≤◌, ◌==◌, Bool, true, not, List, [], ◌∷◌, ◌++◌, length, drop, filter, slice_get, All, find, option_map, Option, Some, None, if◌then◌else◌}
use Rattle.std.specs.declared.cmp.Ordering.{Ordering}
use Rattle.std.specs.Ordering.{ordering_then, nat_cmp, is_lt, is_eq, is_gt}
use Rattle.std.specs.Cmp.Lexicographic.{slice_cmp}
use Rattle.std.specs.List.Sorted.{IsStrictlySortedBy}
use Rattle.sequence_once.specs.declared.cycles.TheConstants.{KEPT_CYCLES}

-- a cycle of a company: how many lines its file has, the file's digest, and the codes of the lines that are done, in their order
pub record CycleRecord : Type 0 where
  pub company : List ℕ
  pub cycle : ℕ
  pub count : ℕ
  pub digest : List ℕ
  pub codes : List ℕ

-- the kept cycles of all companies, and the greatest number of companies
pub record CyclesState : Type 0 where
  pub kept : List CycleRecord
  pub limit : ℕ

-- how a cycle's company stands to a company, in the order of their bytes
abbrev pub company_order : CycleRecord → List ℕ → Ordering
company_order k company = slice_cmp nat_cmp k.company company

-- the cycles of one company, of those before it, and of those after it
abbrev pub of_company : List ℕ → List CycleRecord → List CycleRecord
of_company company kept = filter (λ k. is_eq (company_order k company)) kept

abbrev pub before_company : List ℕ → List CycleRecord → List CycleRecord
before_company company kept = filter (λ k. is_lt (company_order k company)) kept

abbrev pub after_company : List ℕ → List CycleRecord → List CycleRecord
after_company company kept = filter (λ k. is_gt (company_order k company)) kept

-- the list in which these take the place of one company's cycles
abbrev pub with_company : List ℕ → List CycleRecord → List CycleRecord → List CycleRecord
with_company company cycles kept = before_company company kept ++ (cycles ++ after_company company kept)

-- the last of a company's cycles
abbrev pub newest : List CycleRecord → Option CycleRecord
newest cycles = slice_get cycles (length cycles - 1)

abbrev pub last_of : List ℕ → List CycleRecord → Option CycleRecord
last_of company kept = newest (of_company company kept)

-- as many codes as the count
abbrev pub is_finished : CycleRecord → Bool
is_finished k = length k.codes == k.count

-- also before a company's first file
abbrev pub is_last_finished : Option CycleRecord → Bool
is_last_finished None = true
is_last_finished (Some k) = is_finished k

-- whether a company has a kept cycle
abbrev pub is_known : List ℕ → List CycleRecord → Bool
is_known company kept = not (length (of_company company kept) == 0)

-- how many companies have a kept cycle
abbrev pub known_companies : List CycleRecord → ℕ
known_companies [] = 0
known_companies (k ∷ rest) = (if is_known k.company rest then 0 else 1) + known_companies rest

-- the last eight of a company's cycles
abbrev pub last_eight : List CycleRecord → List CycleRecord
last_eight cycles = drop (length cycles - KEPT_CYCLES) cycles

-- an opened cycle, with no codes yet
abbrev pub opened : List ℕ → ℕ → ℕ → List ℕ → CycleRecord
opened company cycle count digest = record { company = company; cycle = cycle; count = count; digest = digest; codes = [] }

-- after an opening: the company has one more cycle, and its oldest goes where nine would stand
unfoldable pub after_open : CyclesState → List ℕ → ℕ → ℕ → List ℕ → CyclesState
after_open s company cycle count digest =
    record s { kept = with_company company (last_eight (of_company company s.kept ++ opened company cycle count digest ∷ [])) s.kept }

-- a code more for the last of these cycles
abbrev pub note_last : ℕ → List CycleRecord → List CycleRecord
note_last code [] = []
note_last code (k ∷ []) = record k { codes = k.codes ++ code ∷ [] } ∷ []
note_last code (k ∷ j ∷ rest) = k ∷ note_last code (j ∷ rest)

-- after a line: its code is noted under the company's last cycle
unfoldable pub after_note : CyclesState → List ℕ → ℕ → CyclesState
after_note s company code = record s { kept = with_company company (note_last code (of_company company s.kept)) s.kept }

-- the other companies' cycles stay
abbrev pub OthersStay : List ℕ → CyclesState → CyclesState → Type 0
OthersStay company s later = (other : List ℕ) → other ≢ company → of_company other later.kept ≡ of_company other s.kept

-- the codes of a company's cycle, where it is kept
abbrev pub codes_of : List ℕ → ℕ → List CycleRecord → Option (List ℕ)
codes_of company cycle kept = option_map (λ k. k.codes) (find (λ k. k.cycle == cycle) (of_company company kept))

-- how many lines the file of a company's cycle has, where it is kept
abbrev pub count_of : List ℕ → ℕ → List CycleRecord → Option ℕ
count_of company cycle kept = option_map (λ k. k.count) (find (λ k. k.cycle == cycle) (of_company company kept))

-- by company, and then by cycle
abbrev pub cycle_order : CycleRecord → CycleRecord → Ordering
cycle_order x y = ordering_then (company_order x y.company) (nat_cmp x.cycle y.cycle)

-- the next of a company's cycles is one higher, and stands only where this one is finished
abbrev pub IsFollowed : CycleRecord → List CycleRecord → Type 0
IsFollowed k [] = Unit {0}
IsFollowed k (next ∷ rest) = (next.cycle ≡ k.cycle + 1) × (is_finished k ≡ true)

-- consecutive cycles, of which all but the last are finished
abbrev pub IsRun : List CycleRecord → Type 0
IsRun [] = Unit {0}
IsRun (k ∷ rest) = IsFollowed k rest × IsRun rest

-- what holds of all kept cycles: they rise strictly by company and cycle; a company's cycles are consecutive, at most eight, and all but the last finished; no cycle has more codes than its count; the companies are within the limit
pub record IsSound (s : CyclesState) : Type 0 where
  pub sorted : IsStrictlySortedBy cycle_order s.kept
  pub runs : (company : List ℕ) → IsRun (of_company company s.kept)
  pub eight : (company : List ℕ) → length (of_company company s.kept) ≤ KEPT_CYCLES
  pub counts : All (λ k. length k.codes ≤ k.count) s.kept
  pub within : known_companies s.kept ≤ s.limit
