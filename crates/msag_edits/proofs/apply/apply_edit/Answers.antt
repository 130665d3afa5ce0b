use Rattle.msag_edits.proofs.Soundness.{sound-kept}
use Rattle.msag_edits.proofs.apply.apply_edit.Goals as goal

pub returns-clause-sound : goal.returns-clause-sound
returns-clause-sound g c = sound-kept c.args.edit.now _ _ _ _ _ c.carry_out.ensures
