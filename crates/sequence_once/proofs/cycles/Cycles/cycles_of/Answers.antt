use Rattle.std.proofs.Common.{◌≡◌, ap}
use Rattle.sequence_once.specs.KeptCycles.{CyclesState}
use Rattle.sequence_once.proofs.Places.{cycles_at}
use Rattle.sequence_once.proofs.cycles.Cycles.cycles_of.Goals as goal

pub returns-clause-same : goal.returns-clause-same
returns-clause-same c =
    let kept : c.self.inside.kept.items ≡ c.args.self.now.kept = ap (λ (s : CyclesState). s.kept) c.self.view_is in
    let at = cycles_at c.args.company c.args.self.now.kept c.span-from.ensures.sound.sorted _ _ c.span-from.ensures.from c.span-from.ensures.to in
    rw (c.part.ensures, c.deref.ensures.value, kept) at
