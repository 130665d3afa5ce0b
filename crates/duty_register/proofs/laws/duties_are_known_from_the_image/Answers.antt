use Rattle.std.proofs.Common.{◌∷◌, List, map, sym, ap, ◌∙◌}
use Rattle.ali_base.specs.declared.duty.Duty.{Duty}
use Rattle.ali_base.specs.Duties.{first_duty}
use Rattle.duty_register.specs.DutyBytes.{body}
use Rattle.duty_register.specs.DutyImage.{first_block}
use Rattle.duty_register.proofs.Registers.{one_list}
use Rattle.duty_register.proofs.laws.duties_are_known_from_the_image.Goals as goal

pub returns : goal.returns
returns c image duties others one other =
    let same = one_list 1 one.changes other.changes one.counted other.counted
    (c.bodies_are_known_from_the_image.ensures first_block image (map body one.changes) (map body other.changes) one.logged other.logged) in
    one.begins ∙ ap (λ (l : List Duty). first_duty ∷ l) same ∙ sym other.begins
