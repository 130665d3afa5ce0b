-- What an office answers to an entry, and what that leaves of it.
use Rattle.std.specs.Prelude.{◌≡◌, ◌+◌, Result, MatchResult}
use Rattle.office_entry.specs.Entries.{IsEntry}
use Rattle.office_entry.specs.declared.entry.Entry.{Entry}
use Rattle.office_state.specs.declared.apply_fault.ApplyFault.{ApplyFault}
use Rattle.office_state.specs.declared.verdict.Verdict.{Verdict}
use Rattle.office_state.specs.Counted.{counted}
use Rattle.office_state.specs.OfficeState.{OfficeState}
use Rattle.office_state.specs.Due.{IsDue}
use Rattle.office_state.specs.Refusals.{IsRefused}
use Rattle.office_state.specs.Verdict.{verdict, after}

-- the office with an entry more, which is counted by its code
abbrev pub with_entry : OfficeState → Entry → OfficeState
with_entry office e = record {
  state = after office.state e;
  entries = office.entries + 1;
  counts = counted office.counts e (verdict office.state e).code;
}

-- the entry was due and is booked, with this verdict
pub record IsBooked (old new : OfficeState) (e : Entry) (v : Verdict) : Type 0 where
  pub entry : IsEntry e
  pub due : IsDue old.state e
  pub told : v ≡ verdict old.state e
  pub office : new ≡ with_entry old e

-- the entry is refused, and nothing has changed
pub record IsNotBooked (old new : OfficeState) (e : Entry) (fault : ApplyFault) : Type 0 where
  pub why : IsRefused old.state e fault
  pub same : new ≡ old

-- either of the two, by the answer
abbrev pub IsAnswer : OfficeState → OfficeState → Entry → Result Verdict ApplyFault → Type 0
IsAnswer old new e answer = MatchResult answer (IsBooked old new e) (IsNotBooked old new e)
