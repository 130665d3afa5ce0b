use Rattle.std.proofs.Common.{◌≡◌, ◌-◌, Some, None, Err, sym, ap, subst, ◌∙◌, arith, refl}
use Rattle.std.specs.Prelude.{option_map, slice_index}
use Rattle.std.proofs.lemmas.Option.{same_Some}
use Rattle.commit_log.specs.OpenLog as log
use Rattle.commit_log.specs.declared.log.ReadFault.{ReadFault}
use Rattle.office_entry.specs.declared.entry.Entry.{Entry}
use Rattle.pair_world.specs.Frames.{Frame}
use Rattle.node_journal.specs.FrameBytes.{IsEpoch, IsBodyOf, is_body}
use Rattle.node_journal.specs.OpenJournal.{frame_at, epochs_of}
use Rattle.node_journal.proofs.ReadFrames.{cut_off, another, this}
use Rattle.node_journal.proofs.journal.Journal.read.Goals as goal

pub returns-in-Err-Changed-clause-answer : goal.returns-in-Err-Changed-clause-answer
returns-in-Err-Changed-clause-answer g c =
    let old = c.args.self.now in
    let answer = subst (λ (e : ReadFault). log.ReadAnswers is_body g.D.Disk.state old.log c.read.new.self c.args.k c.read.new.body (Err e)) c.in-Err-Changed.field-0-is c.in-Err-Changed.ensures.answer in
    let cut = cut_off g.D.Disk.state c.args.self.now c.requires.usable c.args.k c.requires.number.0 answer.1 answer.2 in
    (c.in-Err-Changed.frame-is ∙ answer.0, cut.0, cut.1)

pub returns-then-epoch-get-clause-answer : goal.returns-then-epoch-get-clause-answer
returns-then-epoch-get-clause-answer g c =
    let f : Frame Entry = record { entry = c.in-Some.entry; epoch = c.in-Some.epoch } in
    let answer = c.in-Ok.ensures.answer in
    let other = another g.D.Disk.state c.args.self.now c.requires.usable c.args.k c.requires.number.0 c.read.new.body (Some f) (sym c.frame_of.ensures.exact ∙ ap (option_map _) c.in-Some.is) (omega (arith, c.ranges.k)) answer.0 answer.1
    (λ frame epoch same. c.if-epoch-get.true (ap (λ (x : Frame Entry). x.epoch) (same_Some f frame same) ∙ epoch ∙ sym c.get.ensures)) in
    (refl, other.0, other.1)

pub returns-else-epoch-get-clause-answer : goal.returns-else-epoch-get-clause-answer
returns-else-epoch-get-clause-answer g c =
    let f : Frame Entry = record { entry = c.in-Some.entry; epoch = c.in-Some.epoch } in
    let epoch : c.in-Some.epoch ≡ slice_index (epochs_of c.args.self.now) (c.args.k - 1) = c.if-epoch-get.false ∙ c.get.ensures in
    let same : f ≡ frame_at c.args.self.now c.args.k c.in-Some.entry = λ i. record { entry = c.in-Some.entry; epoch = epoch i } in
    let answer = c.in-Ok.ensures.answer in
    this g.D.Disk.state c.args.self.now c.requires.usable c.args.k c.requires.number.0 c.read.new.body (Some f) (sym c.frame_of.ensures.exact ∙ ap (option_map _) c.in-Some.is) (omega (arith, c.ranges.k)) answer.0 answer.1
    (frame_at c.args.self.now c.args.k c.in-Some.entry) (subst (λ (x : Frame Entry). IsBodyOf c.args.k x c.read.new.body) same c.in-Some.ensures.found) (ap Some same)

pub returns-in-None-clause-answer : goal.returns-in-None-clause-answer
returns-in-None-clause-answer g c =
    let answer = c.in-Ok.ensures.answer in
    let other = another g.D.Disk.state c.args.self.now c.requires.usable c.args.k c.requires.number.0 c.read.new.body None (sym c.frame_of.ensures.exact ∙ ap (option_map _) c.in-None.is) (omega (arith, c.ranges.k)) answer.0 answer.1
    (λ frame epoch same. absurd cc) in
    (refl, other.0, other.1)

pub returns-else-epoch-get-clause-epoch : goal.returns-else-epoch-get-clause-epoch
returns-else-epoch-get-clause-epoch g c = subst IsEpoch (c.if-epoch-get.false ∙ c.get.ensures) c.in-Some.ensures.found.lawful.0
