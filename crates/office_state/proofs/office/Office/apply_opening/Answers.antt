use Rattle.std.proofs.Common.{refl, sym}
use Rattle.office_state.proofs.Dues.{opens_new}
use Rattle.office_state.proofs.office.Office.apply_opening.Goals as goal

pub returns-in-Err : goal.returns-in-Err
returns-in-Err c = λ day. record { why = sym c.in-Err.ensures; same = refl }

pub open-requires-clause-new : goal.open-requires-clause-new
open-requires-clause-new c = opens_new _ _ _ (sym c.in_default.ensures)

pub returns-in-Ok : goal.returns-in-Ok
returns-in-Ok c = λ day. record { entry = tt; due = opens_new _ _ _ (sym c.in_default.ensures); told = refl; office = c.in-Ok.ensures.booked day }

pub returns-in-Err-open : goal.returns-in-Err-open
returns-in-Err-open c = λ day. record { why = tt; same = c.in-Err-open.ensures.err }
