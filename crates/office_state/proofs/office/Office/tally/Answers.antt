use Rattle.std.proofs.Common.{length, ap, arith}
use Rattle.office_state.specs.OfficeState.{OfficeState}
use Rattle.office_state.proofs.Tallying.{few_ranges}
use Rattle.office_state.proofs.office.Office.tally.Goals as goal

pub overflow_cast-result : goal.overflow_cast-result
overflow_cast-result c =
    let guide = c.self.inside.guide in
    omega (arith, ap length c.in_order.ensures.value, few_ranges guide.ranges guide.next guide.limit c.in_order.ensures.sound, c.self.invariant.ids, c.entries-entries.ensures, ap (λ (o : OfficeState). o.entries) c.self.view_is)
