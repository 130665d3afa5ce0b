-- What a put does to what a sink holds, and to its count of faults.
use Rattle.std.specs.Prelude.{◌≡◌, ℕ, ◌<◌, ◌≤◌, List, length, take}
use Rattle.std.specs.Io.KnownBytes.{Appends, Keeps}
use Rattle.std.specs.declared.option.Option.{Option}
use Rattle.ali_base.specs.Faults.{Rose}
use Rattle.ali_base.specs.declared.sink.Put.{Put}
use Rattle.ali_base.specs.declared.sink.Put.TheVariants.{Took, Failed}

-- no more than the piece
abbrev pub PutsWithin : List ℕ → Put → Type 0
PutsWithin piece (Took n) = n ≤ length piece
PutsWithin piece Failed = Unit {0}

-- the sink holds the piece's first bytes more; a failure leaves what it held
abbrev pub PutsTo : Option (List ℕ) → Option (List ℕ) → List ℕ → Put → Type 0
PutsTo old new piece (Took n) = Appends old new (take n piece)
PutsTo old new piece Failed = Keeps old new

-- the count never falls, and it rises with each failure and where nothing is taken of a piece that is not empty
abbrev pub PutCause : ℕ → ℕ → List ℕ → Put → Type 0
PutCause before now piece (Took n) = (before ≤ now) × (n ≡ 0 → 0 < length piece → Rose before now)
PutCause before now piece Failed = (before ≤ now) × Rose before now
