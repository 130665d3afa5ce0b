-- What a take does to what a source has left, and to its count of faults.
use Rattle.std.specs.Prelude.{ℕ, ◌<◌, ◌≤◌, List, length, take}
use Rattle.std.specs.Io.KnownBytes.{Consumes, IsAtEnd, Keeps}
use Rattle.std.specs.declared.option.Option.{Option}
use Rattle.ali_base.specs.Faults.{Rose}
use Rattle.ali_base.specs.declared.source.Taken.{Taken}
use Rattle.ali_base.specs.declared.source.Taken.TheVariants.{Took, End, Failed}

-- no more than the buffer holds, and something where it has room
abbrev pub TakesWithin : List ℕ → Taken → Type 0
TakesWithin buffer (Took n) = (n ≤ length buffer) × (0 < length buffer → 0 < n)
TakesWithin buffer End = Unit {0}
TakesWithin buffer Failed = Unit {0}

-- the bytes taken were the first of what was left; the end comes where nothing was left; a failure leaves all
abbrev pub TakesFrom : Option (List ℕ) → Option (List ℕ) → List ℕ → Taken → Type 0
TakesFrom old new buffer (Took n) = Consumes old new (take n buffer)
TakesFrom old new buffer End = IsAtEnd old × IsAtEnd new × Keeps old new
TakesFrom old new buffer Failed = Keeps old new

-- the count never falls, and it rises with each failure
abbrev pub TakeCause : ℕ → ℕ → Taken → Type 0
TakeCause before now (Took n) = before ≤ now
TakeCause before now End = before ≤ now
TakeCause before now Failed = (before ≤ now) × Rose before now
