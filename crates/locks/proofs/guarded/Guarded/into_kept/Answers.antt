use Rattle.std.proofs.Common.{rules, ap, ◌∙◌}
use Rattle.locks.proofs.SlotSteps.{settled}
use Rattle.locks.proofs.HeldValues.{same_number}
use Rattle.locks.proofs.guarded.Guarded.into_kept.Goals as goal

pub returns-then-there : goal.returns-then-there
returns-then-there g c =
    let one = same_number c.word-there.result 1 (search rules) in
    settled g.T.OfBoard.board _ _ _ _ _ c.close-closed.ensures.values.2 c.word-there.ensures one c.take-kept.ensures.value ∙ ap (λ name. name.board) c.self.view_is
