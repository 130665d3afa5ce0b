-- What putting an error file, or a reply with one, does to what a sink holds.
use Rattle.std.specs.Prelude.{ℕ, List, Result, Ok, Err}
use Rattle.std.specs.declared.option.Option.{Option}
use Rattle.ali_base.specs.WholePuts.{Puts}
use Rattle.error_files.specs.declared.writing.ErrorsEnd.{ErrorsEnd}
use Rattle.error_files.specs.declared.writing.ErrorsEnd.TheVariants.{Done, SinkFault}

-- an end as a result
abbrev pub result_of : ErrorsEnd → Result (Unit {0}) (Unit {0})
result_of Done = Ok tt
result_of SinkFault = Err tt

-- the whole text was put, or at a fault a front of it that is not all
abbrev pub PutsText : {S : Type 0} (contents : S → Option (List ℕ)) (faults : S → ℕ) (old new : S) → List ℕ → ErrorsEnd → Type 0
PutsText contents faults old new text end = Puts contents faults old new text (result_of end)
