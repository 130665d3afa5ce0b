use Rattle.std.proofs.Common.{ap, ◌∙◌}
use Rattle.office_state.specs.OfficeState.{OfficeState, without_spare, empty_office, limits_of}
use Rattle.office_state.proofs.EmptyOffices.{represents_none, forgets}
use Rattle.office_state.proofs.SoundOffices.{sound_empty, emptied}
use Rattle.office_state.proofs.office.Office.clear.Goals as goal

pub invariant_of-self : goal.invariant_of-self
invariant_of-self c = sound_empty c.clear-2.new.self _ _ c.self.inside.guide.limit _ _ _ (ap without_spare c.clear-2.ensures.after) c.clear.ensures c.new-self-inside.ensures

pub returns-clause-history : goal.returns-clause-history
returns-clause-history c =
    forgets c.args.self.now _
    (emptied c.clear-2.new.self _ c.self.inside.most_numbers c.self.inside.guide.limit _ _ _ c.self.inside.cycles.limit (ap without_spare c.clear-2.ensures.after) c.clear.ensures c.clear-3.ensures c.clear-4.ensures c.new-self-inside.ensures
    ∙ ap (λ (o : OfficeState). empty_office (limits_of o.state)) c.self.view_is)

pub returns-clause-begins : goal.returns-clause-begins
returns-clause-begins c =
    represents_none (limits_of c.args.self.now.state) _
    (emptied c.clear-2.new.self _ c.self.inside.most_numbers c.self.inside.guide.limit _ _ _ c.self.inside.cycles.limit (ap without_spare c.clear-2.ensures.after) c.clear.ensures c.clear-3.ensures c.clear-4.ensures c.new-self-inside.ensures
    ∙ ap (λ (o : OfficeState). empty_office (limits_of o.state)) c.self.view_is)
