use Rattle.std.proofs.Common.{[], sym, refl, subst}
use Rattle.ali_base.specs.Duties.{first_duty}
use Rattle.duty_register.proofs.Registers.{Newest, newest}
use Rattle.duty_register.proofs.laws.duties_are_counted.Goals as goal

pub returns : goal.returns
returns c image duties stands =
    let found = subst Newest (sym stands.begins) (newest first_duty [] stands.changes refl stands.counted) in
    (found.duty, found.past, found.listed, found.counted)
