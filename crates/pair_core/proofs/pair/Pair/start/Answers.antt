use Rattle.std.proofs.Common.{◌∙◌, ℕ, sym, ap, subst, Err}
use Rattle.crash_disk.proofs.Runs.{stays_here}
use Rattle.pair_world.specs.Step as events
use Rattle.pair_node.specs.NodeState as node
use Rattle.pair_node.specs.StartedNode.{IsStarted, RestartAnswers, asked_again}
use Rattle.pair_core.specs.Pair.{duty_of, node_of}
use Rattle.pair_core.proofs.PairShown.{all_quiet, all_stay}
use Rattle.pair_core.proofs.PairStarted as own
use Rattle.pair_core.proofs.PairBeside.{beside_keeps}
use Rattle.pair_core.proofs.pair.Pair.start.Goals as goal

pub returns-in-Some-clause-moments : goal.returns-in-Some-clause-moments
returns-in-Some-clause-moments g c limits w shown lawful =
    all_quiet g.D.Disk.state limits c.args.self.now c.args.self.now w (events.Start c.args.n) shown g.met.D.Disk.sound (λ disk. stays_here _)

pub returns-in-Ok-clause-does : goal.returns-in-Ok-clause-does
returns-in-Ok-clause-does g c limits w shown lawful =
    let state = g.D.Disk.state in
    let p = c.args.self.now in
    let n = c.args.n in
    let new = c.restart_node.new.self in
    own.started_does state limits p new w n shown c.in-Ok.ensures.beside (sym c.start_refusal.ensures ∙ c.in_default.is) (g.met.D.Disk.sound (node.disk_of (node_of p n))) c.frames_are_known_from_the_image.ensures
    (subst (λ (need : ℕ). IsStarted state (node.disk_of (node_of p n)) (asked_again (node_of p n) (duty_of p).epoch need) (node_of new n)) c.needed_length-need.ensures c.in-Ok.ensures.answers.answer)
    c.len.result c.known.result c.len.ensures (c.known.ensures ∙ ap node.known_of c.get.ensures)

pub returns-in-Ok-clause-moments : goal.returns-in-Ok-clause-moments
returns-in-Ok-clause-moments g c limits w shown lawful =
    let state = g.D.Disk.state in
    let p = c.args.self.now in
    let n = c.args.n in
    let new = c.restart_node.new.self in
    all_quiet state limits p new w (events.Start n) shown g.met.D.Disk.sound (all_stay state p new n c.in-Ok.ensures.beside c.in-Ok.ensures.answers.answer.opened.stays)

pub returns-in-Err-clause-does : goal.returns-in-Err-clause-does
returns-in-Err-clause-does g c limits w shown lawful =
    let state = g.D.Disk.state in
    let p = c.args.self.now in
    let n = c.args.n in
    let new = c.restart_node.new.self in
    let laws = c.an_image_is_read_one_way.ensures in
    own.refused_does state limits p new w n shown c.in-Err.ensures.beside (sym c.start_refusal.ensures ∙ c.in_default.is) (g.met.D.Disk.sound (node.disk_of (node_of p n))) c.frames_are_known_from_the_image.ensures
    c.in-Err.fault c.pair_fault.result c.pair_fault.ensures lawful laws.not_foreign laws.not_damaged
    (subst (λ (need : ℕ). RestartAnswers state (node_of p n) (node_of new n) (duty_of p).epoch need (Err c.in-Err.fault)) c.needed_length-need.ensures c.in-Err.ensures.answers)

pub returns-in-Err-clause-moments : goal.returns-in-Err-clause-moments
returns-in-Err-clause-moments g c limits w shown lawful =
    let state = g.D.Disk.state in
    let p = c.args.self.now in
    let n = c.args.n in
    let new = c.restart_node.new.self in
    all_quiet state limits p new w (events.Start n) shown g.met.D.Disk.sound (all_stay state p new n c.in-Err.ensures.beside c.in-Err.ensures.answers.answer.0.stays)

pub returns-in-Err-clause-causes : goal.returns-in-Err-clause-causes
returns-in-Err-clause-causes g c =
    let state = g.D.Disk.state in
    let p = c.args.self.now in
    let n = c.args.n in
    let new = c.restart_node.new.self in
    let none = sym c.start_refusal.ensures ∙ c.in_default.is in
    own.unless state p new n (Err c.pair_fault.result) none
    (own.refused_rest state p new n c.in-Err.ensures.beside c.in-Err.fault c.pair_fault.result c.pair_fault.ensures (own.was_down_for p n none)
    (subst (λ (need : ℕ). RestartAnswers state (node_of p n) (node_of new n) (duty_of p).epoch need (Err c.in-Err.fault)) c.needed_length-need.ensures c.in-Err.ensures.answers))

pub returns-in-Ok-clause-beside : goal.returns-in-Ok-clause-beside
returns-in-Ok-clause-beside g c = beside_keeps c.args.self.now c.restart_node.new.self c.args.n c.in-Ok.ensures.beside

pub returns-in-Err-clause-beside : goal.returns-in-Err-clause-beside
returns-in-Err-clause-beside g c = beside_keeps c.args.self.now c.restart_node.new.self c.args.n c.in-Err.ensures.beside
