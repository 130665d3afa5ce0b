use Rattle.std.proofs.Common.{◌∙◌, subst}
use Rattle.commit_log.specs.Opening.{ReadsFirst}
use Rattle.commit_log.proofs.opening.read_log.Goals as goal

pub returns-in-Ok-None-clause-read : goal.returns-in-Ok-None-clause-read
returns-in-Ok-None-clause-read g c image told =
    subst (ReadsFirst c.args.head.now (g.D.Disk.state c.sync.new.self)) c.in-Ok-None.field-0-is c.in-Ok-None.ensures.first image (c.in-Ok.ensures.stays.content ∙ told)
