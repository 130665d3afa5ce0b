use Rattle.std.proofs.Common.{true}
use Rattle.msag_ranges.proofs.IndexKept.{both_taken, still_there}
use Rattle.msag_ranges.proofs.entries.take_range.Goals as goal

pub take_class-requires-2-clause-there : goal.take_class-requires-2-clause-there
take_class-requires-2-clause-there c = λ h. still_there c.args.index.now.items c.take_class.new.index.items c.args.range.now c.take_class.ensures.among (c.requires.there true h)

pub returns-clause-among : goal.returns-clause-among
returns-clause-among c = both_taken c.args.index.now.items c.take_class.new.index.items c.take_class-2.new.index.items c.args.range.now c.take_class.ensures.among c.take_class-2.ensures.among
