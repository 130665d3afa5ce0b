use Rattle.std.proofs.Common.{ap, ◌∙◌}
use Rattle.office_state.specs.OfficeState.{State, empty_state}
use Rattle.office_state.specs.History.{state}
use Rattle.office_state.proofs.Histories.{due_both, state_more}
use Rattle.batch_desk.specs.Jobs.{job_standing, entries_left}
use Rattle.batch_desk.proofs.KeptStates.{kept_state}
use Rattle.batch_desk.proofs.Steps.{completed}
use Rattle.batch_desk.proofs.laws.jobs_can_be_completed.Goals as goal

pub returns-clause-legal : goal.returns-clause-legal
returns-clause-legal c = λ limits history job standing is legal stands.
    due_both (empty_state limits) history (entries_left (state limits history) job) legal (completed (state limits history) job standing (kept_state limits history legal) is stands).due

pub returns-clause-complete : goal.returns-clause-complete
returns-clause-complete c = λ limits history job standing is legal stands.
    let s = state limits history in
    ap (λ (later : State). job_standing later job) (state_more limits history (entries_left s job)) ∙ (completed s job standing (kept_state limits history legal) is stands).complete
