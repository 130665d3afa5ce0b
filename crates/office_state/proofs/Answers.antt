-- What the answer to an entry says.
use Rattle.std.proofs.Common.{◌≡◌, ◌+◌, [], ◌∷◌, ap, Result, Ok, Err, OnOk, OnErr, IfOk, IfErr}
use Rattle.office_entry.specs.declared.entry.Entry.{Entry}
use Rattle.office_state.specs.declared.apply_fault.ApplyFault.{ApplyFault}
use Rattle.office_state.specs.declared.verdict.Verdict.{Verdict}
use Rattle.office_state.specs.OfficeState.{OfficeState}
use Rattle.office_state.specs.Booked.{IsBooked, IsAnswer}
use Rattle.office_state.specs.Due.{IsDue}
use Rattle.office_state.specs.History.{KeepsHistory}
use Rattle.office_state.specs.Refusals.{IsRefused}
use Rattle.office_state.specs.Verdict.{verdict, after}
use Rattle.office_state.proofs.Histories.{represents_more}

-- an entry that is booked goes behind the history
kept : (old new : OfficeState) (e : Entry) (v : Verdict) → IsBooked old new e v → KeepsHistory old new (e ∷ [])
kept old new e v is = λ limits history before.
    represents_more limits old new history e before is.entry is.due is.office

-- clause by clause
pub record Says (old new : OfficeState) (e : Entry) (r : Result Verdict ApplyFault) : Type 0 where
  pub due : OnOk r (IsDue old.state e)
  pub told : IfOk r (λ v. v ≡ verdict old.state e)
  pub state : OnOk r (new.state ≡ after old.state e)
  pub entries : OnOk r (new.entries ≡ old.entries + 1)
  pub history : OnOk r (KeepsHistory old new (e ∷ []))
  pub refused : IfErr r (IsRefused old.state e)
  pub err : OnErr r (new ≡ old)

pub says : (old new : OfficeState) (e : Entry) (r : Result Verdict ApplyFault) → IsAnswer old new e r → Says old new e r
says old new e (Ok v) is = record {
  due = is.due;
  told = is.told;
  state = ap (λ (o : OfficeState). o.state) is.office;
  entries = ap (λ (o : OfficeState). o.entries) is.office;
  history = kept old new e v is;
  refused = tt;
  err = tt;
}
says old new e (Err fault) is = record { due = tt; told = tt; state = tt; entries = tt; history = tt; refused = is.why; err = is.same }
