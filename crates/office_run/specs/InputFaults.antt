-- Why the reading of a script stops.
use Rattle.std.specs.Prelude.{◌≡◌, ℕ, ◌+◌, ◌<◌, ◌≤◌, Bool, true, false, List, ◌++◌, length, Option}
use Rattle.std.specs.Io.KnownBytes.{Consumes, IsAtEnd, Keeps}
use Rattle.ali_base.specs.Faults.{Rose}
use Rattle.office_run.specs.ScriptInput.{TookPart, TookSome, TookTooMany}
use Rattle.office_run.specs.declared.input.TheConstants.{SCRIPT_LIMIT}
use Rattle.office_run.specs.declared.input.InputFault.{InputFault}
use Rattle.office_run.specs.declared.input.InputFault.TheVariants.{NoMemory, Failed, TooLong}

-- what was taken, and what shows the fault
abbrev pub InputStops : {S : Type 0} (left : S → Option (List ℕ)) (faults : S → ℕ) (old new : S) → InputFault → Type 0
InputStops left faults old new NoMemory = TookSome (left old) (left new)
InputStops left faults old new Failed = TookPart (left old) (left new) × Rose (faults old) (faults new)
InputStops left faults old new TooLong = TookTooMany (left old) (left new)

-- one piece more, within one byte past the limit, or the end
abbrev pub TakesPiece : Option (List ℕ) → Option (List ℕ) → List ℕ → List ℕ → Bool → Type 0
TakesPiece left left' old new true = (piece : List ℕ) × Consumes left left' piece × (new ≡ old ++ piece) × (0 < length piece) × (length new ≤ SCRIPT_LIMIT + 1)
TakesPiece left left' old new false = IsAtEnd left' × Keeps left left' × (new ≡ old)

-- of a piece after these bytes; where there was no memory for it, it was taken within one byte past the limit
abbrev pub PieceStops : {S : Type 0} (left : S → Option (List ℕ)) (faults : S → ℕ) (old new : S) → List ℕ → InputFault → Type 0
PieceStops left faults old new taken NoMemory =
    (piece : List ℕ) × Consumes (left old) (left new) piece × (length taken + length piece ≤ SCRIPT_LIMIT + 1)
PieceStops left faults old new taken Failed = Keeps (left old) (left new) × Rose (faults old) (faults new)
PieceStops left faults old new taken TooLong = ⊥
