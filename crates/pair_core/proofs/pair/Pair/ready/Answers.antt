use Rattle.std.proofs.Common.{◌∙◌, sym, [], ◌∷◌}
use Rattle.pair_world.specs.Changes.{read_failed}
use Rattle.pair_world.specs.Refusals as refusals
use Rattle.pair_world.specs.Refusals.{disk_of}
use Rattle.world_rows.specs.Histories.{state_of}
use Rattle.world_rows.specs.Rows.{MayFail, Success}
use Rattle.world_rows.specs.Told.{Ready}
use Rattle.world_rows.specs.WorldRows.{ready_row}
use Rattle.pair_core.specs.Pair.{counts_of}
use Rattle.pair_core.specs.PairRefusals as rows
use Rattle.pair_core.proofs.PairReady.{ready_does, up_of}
use Rattle.pair_core.proofs.PairRows as own
use Rattle.pair_core.proofs.PairShown.{all_quiet, all_stay}
use Rattle.crash_disk.proofs.Runs.{stays_here}
use Rattle.pair_core.proofs.PairBeside.{beside_keeps}
use Rattle.pair_core.proofs.pair.Pair.ready.Goals as goal

pub learn-requires : goal.learn-requires
learn-requires g c = up_of c.args.self.now c.args.n (rows.not_in_duty c.args.self.now c.args.n ∷ []) (sym c.ready_refusal.ensures ∙ c.in_default.is)

pub returns-in-Some-clause-does : goal.returns-in-Some-clause-does
returns-in-Some-clause-does g c limits w shown lawful =
    let state = g.D.Disk.state in
    let p = c.args.self.now in
    let n = c.args.n in
    let is = sym c.ready_refusal.ensures ∙ c.in-Some.is in
    own.refused_does state limits p w shown (λ lasted u. ready_row limits u n) c.in-Some.refusal (rows.duty_is_down p ∷ rows.node_is_down p n ∷ rows.not_in_duty p n ∷ []) is
    (λ t same. own.refused (counts_of state p) (counts_of state p) (state_of limits w) w (MayFail (disk_of n) (read_failed w n) (Success Ready w))
    (rows.duty_is_down p ∷ rows.node_is_down p n ∷ rows.not_in_duty p n ∷ [])
    (refusals.duty_is_down w ∷ refusals.node_is_down w n ∷ refusals.not_in_duty w n ∷ [])
    c.in-Some.refusal t (own.ready_row state limits p w shown n) is same)

pub returns-clause-does : goal.returns-clause-does
returns-clause-does g c limits w shown lawful =
    ready_does g.D.Disk.state limits c.args.self.now c.learn.new.self w c.args.n shown lawful c.learn.ensures.learned (sym c.ready_refusal.ensures ∙ c.in_default.is) c.learn.result c.learn.ensures.causes

pub returns-in-Some-clause-moments : goal.returns-in-Some-clause-moments
returns-in-Some-clause-moments g c event limits w shown lawful =
    let old = c.args.self.now in
    all_quiet g.D.Disk.state limits old old w event shown g.met.D.Disk.sound (λ disk. stays_here _)

pub returns-clause-moments : goal.returns-clause-moments
returns-clause-moments g c event limits w shown lawful =
    let state = g.D.Disk.state in
    let old = c.args.self.now in
    let new = c.learn.new.self in
    let learned = c.learn.ensures.learned in
    all_quiet state limits old new w event shown g.met.D.Disk.sound (all_stay state old new c.args.n learned.1 learned.0.journal.stays)

pub returns-clause-beside : goal.returns-clause-beside
returns-clause-beside g c = beside_keeps c.args.self.now c.learn.new.self c.args.n c.learn.ensures.learned.1
