use Rattle.std.proofs.Common.{◌≡◌, ◌+◌, ◌-◌, length, ap, sym, ◌∙◌, false}
use Rattle.sequence_once.specs.KeptCycles.{CyclesState, of_company, before_company, last_of, is_last_finished, known_companies}
use Rattle.sequence_once.proofs.Edits.{note_room, noted_list_facts}
use Rattle.sequence_once.proofs.cycles.Cycles.note.Goals as goal

pub note-requires : goal.note-requires
note-requires c =
    let s : CyclesState = record { kept = c.self.inside.kept.items; limit = c.self.inside.companies } in
    let undone : is_last_finished (last_of c.args.company s.kept) ≡ false = rw (← c.self.view_is) at c.requires in
    let to : c.span-to.result.1 ≡ length (before_company c.args.company s.kept) + length (of_company c.args.company s.kept) = rw (← c.self.view_is) at c.span-to.ensures.to in
    note_room s c.self.invariant.0 c.args.company _ _ undone (ap (λ n. n - 1) to) c.index_mut-last.ensures.value

pub invariant_of-self : goal.invariant_of-self
invariant_of-self c =
    let facts = (noted_list_facts _ _ c.self.view_is c.self.invariant.0 c.args.company _ c.args.code _ _ c.requires c.span-to.ensures.to c.index_mut-last.ensures.value c.note.ensures) in
    (facts.sound, c.self.invariant.1 ∙ ap (λ (t : CyclesState). known_companies t.kept) c.self.view_is ∙ sym facts.known)

pub returns-clause-noted : goal.returns-clause-noted
returns-clause-noted c =
    let facts = (noted_list_facts _ _ c.self.view_is c.self.invariant.0 c.args.company _ c.args.code _ _ c.requires c.span-to.ensures.to c.index_mut-last.ensures.value c.note.ensures) in
    facts.same

pub returns-clause-others : goal.returns-clause-others
returns-clause-others c =
    let facts = (noted_list_facts _ _ c.self.view_is c.self.invariant.0 c.args.company _ c.args.code _ _ c.requires c.span-to.ensures.to c.index_mut-last.ensures.value c.note.ensures) in
    facts.others

pub returns-clause-sound : goal.returns-clause-sound
returns-clause-sound c =
    let facts = (noted_list_facts _ _ c.self.view_is c.self.invariant.0 c.args.company _ c.args.code _ _ c.requires c.span-to.ensures.to c.index_mut-last.ensures.value c.note.ensures) in
    facts.sound
