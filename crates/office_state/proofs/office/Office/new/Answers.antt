use Rattle.std.proofs.Common.{ap}
use Rattle.office_state.specs.OfficeState.{without_spare}
use Rattle.office_state.proofs.EmptyOffices.{represents_none}
use Rattle.office_state.proofs.SoundOffices.{sound_empty, emptied}
use Rattle.office_state.proofs.office.Office.new.Goals as goal

pub invariant_of-result : goal.invariant_of-result
invariant_of-result c = sound_empty c.in_ok-new.field-0 _ _ c.args.limits.ranges _ _ _ (ap without_spare c.in_ok-new.ensures) c.new.ensures c.new-5.ensures

pub returns-clause-history : goal.returns-clause-history
returns-clause-history c =
    represents_none c.args.limits _
    (emptied c.in_ok-new.field-0 _ c.args.limits.numbers c.args.limits.ranges _ _ _ c.args.limits.companies (ap without_spare c.in_ok-new.ensures) c.new.ensures c.in_ok-new-2.ensures c.in_ok-new-3.ensures c.new-5.ensures)
