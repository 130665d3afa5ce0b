use Rattle.std.proofs.Common.{◌+◌, ap, sym, subst, ◌∙◌, arith}
use Rattle.sequence_once.specs.CycleStanding.{standing_of}
use Rattle.office_entry.specs.declared.entry.Entry.TheVariants.{Open}
use Rattle.office_state.specs.declared.counts.Counts.{Counts}
use Rattle.office_state.specs.Counted.{AreSoundCounts}
use Rattle.office_state.specs.OfficeState.{OfficeState, office_of}
use Rattle.office_state.specs.Booked.{with_entry}
use Rattle.office_state.specs.Verdict.{after}
use Rattle.office_state.proofs.office.Office.open.Goals as goal

pub open-requires : goal.open-requires
open-requires c = ap (λ (o : OfficeState). standing_of o.state.cycles c.args.company c.args.cycle c.args.digest.now) c.self.view_is ∙ c.requires.new

pub invariant_of-self : goal.invariant_of-self
invariant_of-self c = record { sound = c.self.invariant.sound; ids = c.self.invariant.ids; counts = c.self.invariant.counts }

pub count_opening-requires : goal.count_opening-requires
count_opening-requires c = omega (arith, c.self.invariant.counts.kinds, c.requires.count, ap (λ (o : OfficeState). o.entries) c.self.view_is)

pub invariant_of-self-2 : goal.invariant_of-self-2
invariant_of-self-2 c =
    let o = c.self.inside in
    record {
      sound = c.self.invariant.sound;
      ids = omega (arith, c.self.invariant.ids);
      counts = subst (λ (n : Counts). AreSoundCounts n (o.entries + 1)) (sym c.count_opening.ensures) (record { places = c.self.invariant.counts.places; kinds = omega (arith, c.self.invariant.counts.kinds); codes = λ code. omega (arith, c.self.invariant.counts.codes code) });
    }

pub returns-clause-booked : goal.returns-clause-booked
unfolding after
returns-clause-booked c = λ day.
    let o = c.self.inside in
    (λ i. office_of o.rows o.most_numbers o.guide (c.in_ok-open.ensures.opened i) o.edits (o.entries + 1) (c.count_opening.ensures i))
    ∙ ap (λ (o : OfficeState). with_entry o (Open c.args.company c.args.cycle c.args.count day c.args.digest.now)) c.self.view_is
