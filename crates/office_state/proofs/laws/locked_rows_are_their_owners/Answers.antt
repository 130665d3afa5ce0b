use Rattle.office_state.specs.Verdict.{after}
use Rattle.line_booking.proofs.LineRows.{locked_stays}
use Rattle.office_state.proofs.laws.locked_rows_are_their_owners.Goals as goal

pub returns : goal.returns
unfolding after
returns c = λ s tn row company cycle line bytes held locked differ.
    locked_stays s.guide.ranges s.table s.most_numbers company bytes tn row held locked differ
