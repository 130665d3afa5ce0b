use Rattle.msag_edits.proofs.PartsAndShifts.{empty-says, lower-holds, upper-holds, lower-ends, upper-ends}
use Rattle.msag_edits.proofs.laws.parts_of_a_split.Goals as goal

pub returns-clause-empty : goal.returns-clause-empty
returns-clause-empty c = empty-says c.args.range.now c.args.at c.requires

pub returns-clause-lower : goal.returns-clause-lower
returns-clause-lower c = λ h n. lower-holds c.args.range.now c.args.at n c.requires h

pub returns-clause-upper : goal.returns-clause-upper
returns-clause-upper c = λ h n. upper-holds c.args.range.now c.args.id c.args.at c.args.esn n c.requires h

pub returns-clause-lower_ends : goal.returns-clause-lower_ends
returns-clause-lower_ends c = λ h. lower-ends c.args.range.now c.args.at c.requires h

pub returns-clause-upper_ends : goal.returns-clause-upper_ends
returns-clause-upper_ends c = λ h. upper-ends c.args.range.now c.args.id c.args.at c.args.esn c.requires h
