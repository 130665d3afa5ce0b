-- How the state of an office is stored as a value: as tuples of its parts. Nothing is said here of what it means.
use Rattle.std.specs.Prelude.{◌≡◌, ℕ, zero, suc, List, Option, refl}
use Rattle.std.specs.Coded.{Coded, code_by, coded_list, coded_ℕ, coded×, coded_option}
use Rattle.msag_ranges.specs.StreetGuide.{StreetGuide}
use Rattle.ali_base.specs.declared.parity.Parity.{Parity}
use Rattle.ali_base.specs.declared.parity.Parity.TheVariants.{Odd, Even, Both}
use Rattle.msag_ranges.specs.declared.range.Range.{Range}
use Rattle.ali_base.specs.declared.street_key.StreetKey.{StreetKey}
use Rattle.sequence_once.specs.KeptCycles.{CycleRecord, CyclesState}
use Rattle.sequence_once.specs.SerialStanding.{EditRecord}
use Rattle.number_table.specs.NumberTable.{NumberTable, coded_table}
use Rattle.office_state.specs.declared.counts.Counts.{Counts}
use Rattle.office_state.specs.OfficeState.{State, OfficeState}

abbrev pub coded_bytes : Coded (List ℕ)
coded_bytes = coded_list coded_ℕ

abbrev pub parity_number : Parity → ℕ
parity_number Odd = 0
parity_number Even = 1
parity_number Both = 2

abbrev pub numbered_parity : ℕ → Parity
numbered_parity zero = Odd
numbered_parity (suc zero) = Even
numbered_parity (suc (suc n)) = Both

pub parity_back : (p : Parity) → numbered_parity (parity_number p) ≡ p
parity_back Odd = refl
parity_back Even = refl
parity_back Both = refl

abbrev pub coded_parity : Coded Parity
coded_parity = code_by ℕ coded_ℕ parity_number numbered_parity parity_back

abbrev pub coded_key : Coded StreetKey
coded_key =
    code_by (List ℕ × (List ℕ × (List ℕ × (List ℕ × (List ℕ × List ℕ))))) (coded× coded_bytes (coded× coded_bytes (coded× coded_bytes (coded× coded_bytes (coded× coded_bytes coded_bytes)))))
    (λ k. (k.community, (k.state, (k.prefix, (k.name, (k.suffix, k.post))))))
    (λ p. record { community = p.0; state = p.1.0; prefix = p.1.1.0; name = p.1.1.1.0; suffix = p.1.1.1.1.0; post = p.1.1.1.1.1 }) (λ _. refl)

abbrev pub coded_range : Coded Range
coded_range =
    code_by (ℕ × (StreetKey × (ℕ × (ℕ × (Parity × ℕ))))) (coded× coded_ℕ (coded× coded_key (coded× coded_ℕ (coded× coded_ℕ (coded× coded_parity coded_ℕ)))))
    (λ r. (r.id, (r.key, (r.low, (r.high, (r.parity, r.esn))))))
    (λ p. record { id = p.0; key = p.1.0; low = p.1.1.0; high = p.1.1.1.0; parity = p.1.1.1.1.0; esn = p.1.1.1.1.1 }) (λ _. refl)

abbrev pub coded_guide : Coded StreetGuide
coded_guide =
    code_by (List Range × (ℕ × (ℕ × ℕ))) (coded× (coded_list coded_range) (coded× coded_ℕ (coded× coded_ℕ coded_ℕ)))
    (λ g. (g.ranges, (g.next, (g.limit, g.spare)))) (λ p. record { ranges = p.0; next = p.1.0; limit = p.1.1.0; spare = p.1.1.1 }) (λ _. refl)

abbrev pub coded_cycle : Coded CycleRecord
coded_cycle =
    code_by (List ℕ × (ℕ × (ℕ × (List ℕ × List ℕ)))) (coded× coded_bytes (coded× coded_ℕ (coded× coded_ℕ (coded× coded_bytes coded_bytes))))
    (λ k. (k.company, (k.cycle, (k.count, (k.digest, k.codes))))) (λ p. record { company = p.0; cycle = p.1.0; count = p.1.1.0; digest = p.1.1.1.0; codes = p.1.1.1.1 }) (λ _. refl)

abbrev pub coded_cycles : Coded CyclesState
coded_cycles = code_by (List CycleRecord × ℕ) (coded× (coded_list coded_cycle) coded_ℕ) (λ s. (s.kept, s.limit)) (λ p. record { kept = p.0; limit = p.1 }) (λ _. refl)

abbrev pub coded_edit : Coded EditRecord
coded_edit =
    code_by (ℕ × (List ℕ × (ℕ × ℕ))) (coded× coded_ℕ (coded× coded_bytes (coded× coded_ℕ coded_ℕ)))
    (λ e. (e.serial, (e.digest, (e.code, e.detail)))) (λ p. record { serial = p.0; digest = p.1.0; code = p.1.1.0; detail = p.1.1.1 }) (λ _. refl)

abbrev pub coded_state : Coded State
coded_state =
    code_by (NumberTable × (ℕ × (StreetGuide × (CyclesState × List (Option EditRecord))))) (coded× coded_table (coded× coded_ℕ (coded× coded_guide (coded× coded_cycles (coded_list (coded_option coded_edit))))))
    (λ s. (s.table, (s.most_numbers, (s.guide, (s.cycles, s.edits))))) (λ p. record { table = p.0; most_numbers = p.1.0; guide = p.1.1.0; cycles = p.1.1.1.0; edits = p.1.1.1.1 }) (λ _. refl)

abbrev pub coded_counts : Coded Counts
coded_counts =
    code_by (ℕ × (ℕ × (ℕ × List ℕ))) (coded× coded_ℕ (coded× coded_ℕ (coded× coded_ℕ coded_bytes)))
    (λ c. (c.opens, (c.lines, (c.edits, c.codes)))) (λ p. record { opens = p.0; lines = p.1.0; edits = p.1.1.0; codes = p.1.1.1 }) (λ _. refl)

abbrev pub coded_office : Coded OfficeState
coded_office =
    code_by (State × (ℕ × Counts)) (coded× coded_state (coded× coded_ℕ coded_counts))
    (λ o. (o.state, (o.entries, o.counts))) (λ p. record { state = p.0; entries = p.1.0; counts = p.1.1 }) (λ _. refl)
