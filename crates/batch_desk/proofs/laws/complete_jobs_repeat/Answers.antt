use Rattle.batch_desk.proofs.Replies.{complete_again}
use Rattle.batch_desk.proofs.laws.complete_jobs_repeat.Goals as goal

pub returns-clause-complete : goal.returns-clause-complete
returns-clause-complete c = λ limits history more job legal complete kept. (complete_again limits history more job legal complete kept).complete

pub returns-clause-same : goal.returns-clause-same
returns-clause-same c = λ limits history more job legal complete kept. (complete_again limits history more job legal complete kept).same
