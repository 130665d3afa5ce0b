use Rattle.std.proofs.Common.{sym, subst}
use Rattle.batch_frame.specs.FrameFault.{IsRead}
use Rattle.batch_frame.proofs.Readings.{file_of_read, told_again}
use Rattle.batch_frame.proofs.file.FileView.again.Goals as goal

pub invariant_of-result : goal.invariant_of-result
invariant_of-result c =
    let bytes = c.args.bytes.now in
    subst (IsRead bytes) (sym (told_again bytes c.args.frame c.requires.told)) (file_of_read bytes c.requires.framed)

pub returns-clause-value : goal.returns-clause-value
returns-clause-value c = told_again c.args.bytes.now c.args.frame c.requires.told

pub returns-clause-read : goal.returns-clause-read
returns-clause-read c = invariant_of-result c
