use Rattle.office_state.specs.Verdict.{after}
use Rattle.line_booking.proofs.LineRows.{other_rows}
use Rattle.office_state.proofs.laws.lines_change_one_number.Goals as goal

pub returns : goal.returns
unfolding after
returns c = λ s company cycle line bytes tn differ.
    other_rows s.guide.ranges s.table s.most_numbers company bytes tn differ
