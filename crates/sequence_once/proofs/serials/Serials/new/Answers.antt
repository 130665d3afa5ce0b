use Rattle.std.proofs.Common.{rules}
use Rattle.sequence_once.proofs.serials.Serials.new.Goals as goal

pub returns : goal.returns
returns c = c.in_ok-edits.ensures.items_if_clones_equal (λ y h. search rules)
