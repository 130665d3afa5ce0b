use Rattle.std.proofs.Common.{subst, Err}
use Rattle.ali_base.specs.declared.duty.Duty.{Duty}
use Rattle.ali_base.specs.declared.names.NodeName.TheVariants.{A, B}
use Rattle.pair_node.specs.StartedNode.{IsStarted}
use Rattle.pair_core.specs.PairOpening.{StartsUnder, asked_under}
use Rattle.pair_core.proofs.PairOpened as own
use Rattle.pair_core.proofs.pair.Pair.open.Goals as goal

pub returns-in-Err : goal.returns-in-Err
returns-in-Err g c =
    own.no_register g.D.Disk.state c.args.a c.args.b c.args.duty c.args.frames c.args.last_epoch c.in-Err.duty c.in-Err.fault c.register_end.result c.register_end.ensures c.in-Err.ensures

pub returns-in-Err-start_under : goal.returns-in-Err-start_under
returns-in-Err-start_under g c =
    let state = g.D.Disk.state in
    let back = c.in-Err-start_under in
    own.no_node_a state c.args.a c.args.b c.args.duty c.args.frames c.args.last_epoch c.in-Ok.register c.in-Ok.ensures c.args.limits back.a c.close.result back.end c.close.ensures
    (subst (λ (d : Duty). StartsUnder state c.args.a A d c.args.limits c.args.frames (Err (back.a, back.end))) c.duty-present.ensures back.ensures)

pub returns-in-Err-start_under-2 : goal.returns-in-Err-start_under-2
returns-in-Err-start_under-2 g c =
    let state = g.D.Disk.state in
    let node_a = c.in-Ok-start_under.node in
    let back = c.in-Err-start_under-2 in
    own.no_node_b state c.args.a c.args.b c.args.duty c.args.frames c.args.last_epoch c.in-Ok.register c.in-Ok.ensures c.args.limits node_a c.close-in-Err-start_under-2.result back.b c.close-in-Err-start_under-2-2.result back.end
    (subst (λ (d : Duty). IsStarted state c.args.a (asked_under d A c.args.limits c.args.frames) node_a) c.duty-present.ensures c.in-Ok-start_under.ensures)
    c.close-in-Err-start_under-2.ensures c.close-in-Err-start_under-2-2.ensures
    (subst (λ (d : Duty). StartsUnder state c.args.b B d c.args.limits c.args.frames (Err (back.b, back.end))) c.duty-present.ensures back.ensures)

pub returns : goal.returns
returns g c =
    let state = g.D.Disk.state in
    let node_a = c.in-Ok-start_under.node in
    let node_b = c.in-Ok-start_under-2.node in
    own.pair_opened state c.args.a c.args.b c.args.duty c.args.limits c.args.frames c.args.last_epoch c.in-Ok.register c.in-Ok.ensures node_a node_b
    (subst (λ (d : Duty). IsStarted state c.args.a (asked_under d A c.args.limits c.args.frames) node_a) c.duty-present.ensures c.in-Ok-start_under.ensures)
    (subst (λ (d : Duty). IsStarted state c.args.b (asked_under d B c.args.limits c.args.frames) node_b) c.duty-present.ensures c.in-Ok-start_under-2.ensures)
    c.joined.result c.joined.ensures
