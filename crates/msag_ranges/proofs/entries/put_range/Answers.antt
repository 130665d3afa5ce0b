use Rattle.std.proofs.Common.{true, false}
use Rattle.msag_ranges.proofs.IndexKept.{both_put, still_free}
use Rattle.msag_ranges.proofs.entries.put_range.Goals as goal

pub put_class-requires-clause-free : goal.put_class-requires-clause-free
put_class-requires-clause-free c = c.requires.free false

pub put_class-requires-2-clause-free : goal.put_class-requires-2-clause-free
put_class-requires-2-clause-free c = λ h. still_free c.args.index.now.items c.put_class.new.index.items c.args.range.now c.put_class.ensures.among (c.requires.free true h)

pub returns-clause-among : goal.returns-clause-among
returns-clause-among c = both_put c.args.index.now.items c.put_class.new.index.items c.put_class-2.new.index.items c.args.range.now c.put_class.ensures.among c.put_class-2.ensures.among
