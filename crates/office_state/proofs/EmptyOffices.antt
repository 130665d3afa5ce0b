-- Offices in which nothing is booked.
use Rattle.std.proofs.Common.{◌≡◌, [], ap, sym, ◌∙◌, subst}
use Rattle.office_state.specs.declared.counts.Counts.{Counts}
use Rattle.office_state.specs.declared.limits.Limits.{Limits}
use Rattle.office_state.specs.OfficeState.{OfficeState, empty_office, limits_of}
use Rattle.office_state.specs.History.{Represents, ForgetsHistory}
use Rattle.office_state.specs.Tallies.{AreCounts}
use Rattle.office_state.proofs.Counting.{counts_none}
use Rattle.office_state.proofs.SoundOffices.{limits_kept}

-- such an office represents the empty history
pub represents_none : (limits : Limits) (office : OfficeState) → office ≡ empty_office limits → Represents limits office []
represents_none limits office is = record {
  legal = tt;
  same = ap (λ (o : OfficeState). o.state) is;
  entries = ap (λ (o : OfficeState). o.entries) is;
  counts = subst (λ (c : Counts). AreCounts limits [] c) (sym (ap (λ (o : OfficeState). o.counts) is)) (counts_none limits);
}

-- and one with the limits of another forgot the history of that one
pub forgets : (old new : OfficeState) → new ≡ empty_office (limits_of old.state) → ForgetsHistory old new
forgets old new is = λ limits history before.
    represents_none limits new (is ∙ ap empty_office (ap limits_of before.same ∙ limits_kept limits history))
