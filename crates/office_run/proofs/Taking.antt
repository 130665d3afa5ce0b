-- What was taken of a source over several takes.
use Rattle.std.proofs.Common.{ℕ, ◌≤◌, List, ◌++◌, length, length-append, Option, arith}
use Rattle.std.specs.Io.KnownBytes.{Consumes}
use Rattle.std.proofs.KnownBytes.{Consumes-trans, Consumes-kept}
use Rattle.ali_base.specs.Faults.{Rose}
use Rattle.office_run.specs.declared.input.TheConstants.{SCRIPT_LIMIT}
use Rattle.office_run.specs.InputFaults.{InputStops, PieceStops}
use Rattle.office_run.specs.declared.input.InputFault.{InputFault}
use Rattle.office_run.specs.declared.input.InputFault.TheVariants.{NoMemory, Failed, TooLong}

Rose-later : (before mid now : ℕ) → before ≤ mid → Rose mid now → Rose before now
Rose-later before mid now h rose = omega arith

-- why a piece was not taken is why the reading stops
pub stops_after : {S : Type 0} (left : S → Option (List ℕ)) (faults : S → ℕ) (a b c : S) (bytes : List ℕ) (fault : InputFault) → Consumes (left a) (left b) bytes → length bytes ≤ SCRIPT_LIMIT → faults a ≤ faults b
    → PieceStops left faults b c bytes fault → InputStops left faults a c fault
stops_after left faults a b c bytes NoMemory taken within later h =
    record { bytes = bytes ++ h.0; taken = Consumes-trans (left a) (left b) (left c) bytes h.0 taken h.1; within = omega (arith, length-append bytes h.0, h.2) }
stops_after left faults a b c bytes Failed taken within later h =
    (record { bytes = bytes; taken = Consumes-kept (left a) (left b) (left c) bytes taken h.0; within = within }, Rose-later (faults a) (faults b) (faults c) later h.1)
stops_after left faults a b c bytes TooLong taken within later h = absurd h
