use Rattle.std.proofs.Common.{◌-◌, take, sym, ap, ◌∙◌}
use Rattle.std.proofs.lemmas.List.{take-map}
use Rattle.std.proofs.lemmas.List.Elements.{All-take}
use Rattle.office_entry.specs.declared.entry.Entry.{Entry}
use Rattle.pair_world.specs.Frames.{Frame}
use Rattle.node_journal.specs.FrameBytes.{IsFrame, bodies_from}
use Rattle.node_journal.specs.JournalImage.{first_block}
use Rattle.node_journal.proofs.Journals.{bodies_take, from_log, moments}
use Rattle.node_journal.proofs.Represented.{logged, lawful}
use Rattle.node_journal.proofs.journal.Journal.close_from.Goals as goal

pub returns-in-Ok-clause-closed : goal.returns-in-Ok-clause-closed
returns-in-Ok-clause-closed g c frames shown =
    let state = g.D.Disk.state in
    let old = c.args.self.now in
    let n = c.args.k - 1 in
    let after = c.in-Ok.ensures.cut (first_block old.name) (bodies_from 1 frames) (logged state old frames c.requires.usable shown) in
    record {
      kept = from_log old.name (take n frames) _ _ (All-take IsFrame n frames (lawful state old frames c.requires.usable shown)) (sym (bodies_take 1 n frames)) after.kept;
      known = c.truncate.ensures.items ∙ ap (take n) shown.known ∙ take-map (λ (x : Frame Entry). x.epoch) n frames;
    }

pub returns-in-Ok-clause-moments : goal.returns-in-Ok-clause-moments
returns-in-Ok-clause-moments g c frames shown =
    let state = g.D.Disk.state in
    let old = c.args.self.now in
    let n = c.args.k - 1 in
    let all = lawful state old frames c.requires.usable shown in
    moments old.name frames (take n frames) _ _ _ all (All-take IsFrame n frames all) (sym (bodies_take 1 n frames))
    (c.in-Ok.ensures.moments (first_block old.name) (bodies_from 1 frames) (logged state old frames c.requires.usable shown))

pub returns-in-Err-clause-moments : goal.returns-in-Err-clause-moments
returns-in-Err-clause-moments g c frames shown =
    let state = g.D.Disk.state in
    let old = c.args.self.now in
    let n = c.args.k - 1 in
    let all = lawful state old frames c.requires.usable shown in
    moments old.name frames (take n frames) _ _ _ all (All-take IsFrame n frames all) (sym (bodies_take 1 n frames))
    (c.in-Err.ensures.moments (first_block old.name) (bodies_from 1 frames) (logged state old frames c.requires.usable shown))
