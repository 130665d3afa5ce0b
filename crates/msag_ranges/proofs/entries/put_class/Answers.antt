use Rattle.msag_ranges.proofs.IndexKept.{class_put}
use Rattle.msag_ranges.proofs.entries.put_class.Goals as goal

pub returns-in-Some-clause-among : goal.returns-in-Some-clause-among
returns-in-Some-clause-among c = class_put c.args.index.now.items c.put.new.index.items c.args.range.now c.args.odd c.in-Some.entry c.in-Some.ensures c.put.ensures.among
