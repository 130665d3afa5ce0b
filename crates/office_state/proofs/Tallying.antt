-- How long the guide of an office is.
use Rattle.std.proofs.Common.{◌≡◌, ℕ, zero, suc, ◌+◌, ◌<◌, ◌≤◌, List, [], ◌∷◌, length, get_or, All, AllPairs, arith}
use Rattle.msag_ranges.specs.StreetGuide.{IsSoundGuide}
use Rattle.msag_ranges.specs.declared.range.Range.{Range}

-- ids that rise from 1 are no less than their places
climbs : (ranges : List Range) (next : ℕ) (d : Range) → AllPairs (λ r s. r.id < s.id) ranges → All (λ r. (1 ≤ r.id) × (r.id < next)) ranges → (k : ℕ) → k < length ranges → k + 1 ≤ (get_or ranges k d).id
climbs ranges next d rising known zero within = (known 0 d within).0
climbs ranges next d rising known (suc k) within =
    omega (arith, climbs ranges next d rising known k (omega (arith, within)), rising k (suc k) d (omega arith) within)

-- there are fewer ranges than the next id
pub few_ranges : (ranges : List Range) (next limit : ℕ) → IsSoundGuide ranges next limit → length ranges + 1 ≤ next
few_ranges [] next limit sound = omega (arith, sound.first)
few_ranges (r ∷ rest) next limit sound =
    let last : length rest < length (r ∷ rest) = omega arith in
    omega (arith, climbs (r ∷ rest) next r sound.rising sound.known (length rest) last, (sound.known (length rest) r last).1)
