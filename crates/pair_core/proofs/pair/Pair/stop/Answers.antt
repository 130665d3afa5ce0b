use Rattle.std.proofs.Common.{◌≡◌, ◌∙◌, refl, sym, ap, [], ◌∷◌, true, false, Bool}
use Rattle.std.specs.Prelude.{if◌then◌else◌}
use Rattle.ali_base.specs.declared.duty.Duty.{Duty}
use Rattle.crash_disk.proofs.Runs.{stays_here}
use Rattle.office_entry.specs.declared.entry.Entry.{Entry}
use Rattle.pair_world.specs.Changes.{stopped}
use Rattle.pair_world.specs.Refusals as refusals
use Rattle.pair_world.specs.Step as events
use Rattle.pair_world.specs.World.{World, is_node}
use Rattle.world_rows.specs.Histories.{state_of}
use Rattle.world_rows.specs.Rows.{Success}
use Rattle.world_rows.specs.Told.{Stopped}
use Rattle.pair_core.specs.Pair.{counts_of}
use Rattle.pair_core.specs.PairRefusals as rows
use Rattle.pair_core.proofs.PairRows.{passed, node_is_down}
use Rattle.pair_core.proofs.PairShown.{node_stopped, all_quiet, all_stay, stopped_stays}
use Rattle.pair_core.proofs.PairBeside.{beside_keeps}
use Rattle.pair_core.proofs.pair.Pair.stop.Goals as goal

pub returns-in-Some-clause-moments : goal.returns-in-Some-clause-moments
returns-in-Some-clause-moments g c limits w shown lawful =
    let state = g.D.Disk.state in
    let old = c.args.self.now in
    all_quiet state limits old old w (events.Stop c.args.n) shown g.met.D.Disk.sound (λ disk. stays_here _)

pub returns-then-is_node-clause-does : goal.returns-then-is_node-clause-does
returns-then-is_node-clause-does g c limits w shown lawful =
    let state = g.D.Disk.state in
    let old = c.args.self.now in
    let n = c.args.n in
    let down = node_stopped state limits old c.stop_node.new.self w n shown c.stop_node.ensures.beside c.stop_node.ensures.stopped in
    let own : is_node n w.base.duty.holder ≡ true = ap (λ (d : Duty). is_node n d.holder) (sym down.duty) ∙ sym c.is_node.ensures ∙ c.if-is_node.true in
    let v : World Entry = record w { base = stopped w.base n } in (
      v,
      record {
        tells = down.tells;
        nodes = down.nodes;
        duty = down.duty;
        register_up = down.register_up;
        failed = down.failed;
        images = down.images;
        duties = down.duties;
        count = down.count;
        acked = ap (λ (b : Bool). if b then 0 else w.base.acked) (sym own);
        ended = ap (λ (b : Bool). if b then 0 else w.base.ended) (sym own);
        messages = down.messages;
      },
      (
        false,
        passed (counts_of state old) (counts_of state c.stop_node.new.self) (state_of limits w) w (Success (Stopped n) v) (rows.node_is_down old n ∷ []) (refusals.node_is_down w n ∷ []) (Stopped n) v (node_is_down state limits old w shown n, λ none. tt)
            (sym c.node_is_down.ensures ∙ c.in_default.is) (refl, refl),
      ),
    )

pub returns-then-is_node-clause-moments : goal.returns-then-is_node-clause-moments
returns-then-is_node-clause-moments g c limits w shown lawful =
    let state = g.D.Disk.state in
    let old = c.args.self.now in
    let quiet = all_quiet state limits old c.stop_node.new.self w (events.Stop c.args.n) shown g.met.D.Disk.sound (all_stay state old c.stop_node.new.self c.args.n c.stop_node.ensures.beside (stopped_stays state old c.stop_node.new.self c.args.n c.stop_node.ensures.stopped)) in
    record { a = quiet.a; b = quiet.b; duty = quiet.duty }

pub returns-else-is_node-clause-does : goal.returns-else-is_node-clause-does
returns-else-is_node-clause-does g c limits w shown lawful =
    let state = g.D.Disk.state in
    let old = c.args.self.now in
    let n = c.args.n in
    let down = node_stopped state limits old c.stop_node.new.self w n shown c.stop_node.ensures.beside c.stop_node.ensures.stopped in
    let own : is_node n w.base.duty.holder ≡ false = ap (λ (d : Duty). is_node n d.holder) (sym down.duty) ∙ sym c.is_node.ensures ∙ c.if-is_node.false in
    let v : World Entry = record w { base = stopped w.base n } in (
      v,
      record {
        tells = down.tells;
        nodes = down.nodes;
        duty = down.duty;
        register_up = down.register_up;
        failed = down.failed;
        images = down.images;
        duties = down.duties;
        count = down.count;
        acked = down.acked ∙ ap (λ (b : Bool). if b then 0 else w.base.acked) (sym own);
        ended = down.ended ∙ ap (λ (b : Bool). if b then 0 else w.base.ended) (sym own);
        messages = down.messages;
      },
      (
        false,
        passed (counts_of state old) (counts_of state c.stop_node.new.self) (state_of limits w) w (Success (Stopped n) v) (rows.node_is_down old n ∷ []) (refusals.node_is_down w n ∷ []) (Stopped n) v (node_is_down state limits old w shown n, λ none. tt)
            (sym c.node_is_down.ensures ∙ c.in_default.is) (refl, refl),
      ),
    )

pub returns-else-is_node-clause-moments : goal.returns-else-is_node-clause-moments
returns-else-is_node-clause-moments g c limits w shown lawful =
    let state = g.D.Disk.state in
    let old = c.args.self.now in
    let quiet = all_quiet state limits old c.stop_node.new.self w (events.Stop c.args.n) shown g.met.D.Disk.sound (all_stay state old c.stop_node.new.self c.args.n c.stop_node.ensures.beside (stopped_stays state old c.stop_node.new.self c.args.n c.stop_node.ensures.stopped)) in
    record { a = quiet.a; b = quiet.b; duty = quiet.duty }

pub returns-then-is_node-clause-beside : goal.returns-then-is_node-clause-beside
returns-then-is_node-clause-beside g c = beside_keeps c.args.self.now c.stop_node.new.self c.args.n c.stop_node.ensures.beside

pub returns-else-is_node-clause-beside : goal.returns-else-is_node-clause-beside
returns-else-is_node-clause-beside g c = beside_keeps c.args.self.now c.stop_node.new.self c.args.n c.stop_node.ensures.beside
