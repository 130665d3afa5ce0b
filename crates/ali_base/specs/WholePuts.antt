-- What putting a text does to what a sink holds.
use Rattle.std.specs.Prelude.{ℕ, ◌<◌, ◌≤◌, List, length, take, Result, OnOk, OnErr}
use Rattle.std.specs.Io.KnownBytes.{Appends}
use Rattle.std.specs.declared.option.Option.{Option}
use Rattle.ali_base.specs.Faults.{Rose}

-- a front of the text was put, and not all of it
abbrev pub AppendsPart : Option (List ℕ) → Option (List ℕ) → List ℕ → Type 0
AppendsPart old new text = (n : ℕ) × (n < length text) × Appends old new (take n text)

-- what putting a text into a sink does, by what a sink holds and its count of faults: all of it was put, or a part where the count rose; the count never falls
pub record Puts {S T E : Type 0} (contents : S → Option (List ℕ)) (faults : S → ℕ) (old new : S) (text : List ℕ) (result : Result T E) : Type 0 where
  pub whole : OnOk result (Appends (contents old) (contents new) text)
  pub part : OnErr result (AppendsPart (contents old) (contents new) text)
  pub later : faults old ≤ faults new
  pub cause : OnErr result (Rose (faults old) (faults new))
