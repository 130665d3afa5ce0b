use Rattle.msag_ranges.proofs.IndexKept.{class_taken}
use Rattle.msag_ranges.proofs.entries.take_class.Goals as goal

pub returns-in-Some-clause-among : goal.returns-in-Some-clause-among
returns-in-Some-clause-among c = class_taken c.args.index.now.items c.take.new.index.items c.args.range.now c.args.odd c.in-Some.entry c.in-Some.ensures c.take.ensures.among
