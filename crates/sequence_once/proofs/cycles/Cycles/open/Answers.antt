use Rattle.std.proofs.Common.{◌≡◌, ◌+◌, ◌-◌, ◌==◌, length, Ok, ap, sym, ◌∙◌, arith, if◌then◌else◌}
use Rattle.sequence_once.specs.KeptCycles.{CyclesState, of_company, before_company, known_companies}
use Rattle.sequence_once.specs.CycleStanding.{standing_of}
use Rattle.sequence_once.specs.declared.standing.Standing.TheVariants.{New}
use Rattle.sequence_once.proofs.Edits.{opened_list_facts, open_room}
use Rattle.sequence_once.proofs.cycles.Cycles.open.Goals as goal

pub invariant_of-self-2 : goal.invariant_of-self-2
invariant_of-self-2 c =
    let facts = (opened_list_facts _ _ c.self.view_is c.self.invariant.0 c.args.company c.args.cycle c.args.count c.args.digest.now _ _ _ _ c.requires c.in_ok-fresh.ensures c.span-from.ensures.from c.span-from.ensures.to c.in_ok-put_cycle.ensures.put) in
    let few : c.span-from.result.1 - c.span-from.result.0 ≡ length (of_company c.args.company c.args.self.now.kept) = omega (arith, c.span-from.ensures.from, c.span-from.ensures.to) in
    let counted = c.count_company-self-inside.ensures ∙ ap (λ n. c.self.inside.known + (if n == 0 then 1 else 0)) few in
    (facts.sound, counted ∙ ap (λ n. n + (if length (of_company c.args.company c.args.self.now.kept) == 0 then 1 else 0)) (c.self.invariant.1 ∙ ap (λ (t : CyclesState). known_companies t.kept) c.self.view_is) ∙ sym facts.known)

pub returns-clause-opened : goal.returns-clause-opened
returns-clause-opened c =
    let facts = (opened_list_facts _ _ c.self.view_is c.self.invariant.0 c.args.company c.args.cycle c.args.count c.args.digest.now _ _ _ _ c.requires c.in_ok-fresh.ensures c.span-from.ensures.from c.span-from.ensures.to c.in_ok-put_cycle.ensures.put) in
    facts.same

pub returns-clause-last : goal.returns-clause-last
returns-clause-last c =
    let facts = (opened_list_facts _ _ c.self.view_is c.self.invariant.0 c.args.company c.args.cycle c.args.count c.args.digest.now _ _ _ _ c.requires c.in_ok-fresh.ensures c.span-from.ensures.from c.span-from.ensures.to c.in_ok-put_cycle.ensures.put) in
    facts.last

pub returns-clause-others : goal.returns-clause-others
returns-clause-others c =
    let facts = (opened_list_facts _ _ c.self.view_is c.self.invariant.0 c.args.company c.args.cycle c.args.count c.args.digest.now _ _ _ _ c.requires c.in_ok-fresh.ensures c.span-from.ensures.from c.span-from.ensures.to c.in_ok-put_cycle.ensures.put) in
    facts.others

pub returns-clause-sound : goal.returns-clause-sound
returns-clause-sound c =
    let facts = (opened_list_facts _ _ c.self.view_is c.self.invariant.0 c.args.company c.args.cycle c.args.count c.args.digest.now _ _ _ _ c.requires c.in_ok-fresh.ensures c.span-from.ensures.from c.span-from.ensures.to c.in_ok-put_cycle.ensures.put) in
    facts.sound

pub count_company-self-inside-requires : goal.count_company-self-inside-requires
count_company-self-inside-requires c none =
    let s : CyclesState = record { kept = c.self.inside.kept.items; limit = c.self.inside.companies } in
    let new : standing_of s c.args.company c.args.cycle c.args.digest.now ≡ Ok New = rw (← c.self.view_is) at c.requires in
    let from : c.span-from.result.0 ≡ length (before_company c.args.company s.kept) = rw (← c.self.view_is) at c.span-from.ensures.from in
    let to : c.span-from.result.1 ≡ length (before_company c.args.company s.kept) + length (of_company c.args.company s.kept) = rw (← c.self.view_is) at c.span-from.ensures.to in
    let room = open_room s c.self.invariant.0 c.args.company c.args.cycle c.args.digest.now _ _ new from to none in
    omega (arith, room, c.self.invariant.1)
