use Rattle.std.proofs.Common.{◌≡◌, ◌++◌, ◌∷◌, [], Ok, sym, ap, subst, ◌∙◌}
use Rattle.std.proofs.lemmas.Option.{same_Some}
use Rattle.office_entry.specs.declared.entry.Entry.{Entry}
use Rattle.pair_world.specs.Frames.{Frame}
use Rattle.pair_node.specs.Messages.{frame_told}
use Rattle.pair_node.specs.StoredMessage.{Changes}
use Rattle.pair_node.proofs.Changed.{epochs_more}
use Rattle.pair_node.proofs.node.Node.keep.Goals as goal

pub write-requires-clause-epoch : goal.write-requires-clause-epoch
write-requires-clause-epoch g c = c.requires.epoch (record { entry = c.in-Entry.entry; epoch = c.in-Entry.epoch }) (ap frame_told c.in-Entry.is)

pub returns-in-Ok-clause-kept : goal.returns-in-Ok-clause-kept
returns-in-Ok-clause-kept g c f told =
    let one : Frame Entry = record { entry = c.in-Entry.entry; epoch = c.in-Entry.epoch } in
    let is : one ≡ f = same_Some one f (sym (ap frame_told c.in-Entry.is) ∙ told) in
    subst (λ (x : Frame Entry). Changes g.D.Disk.state (λ frames. frames ++ x ∷ []) c.args.self.now c.write.new.self (Ok tt)) is (record {
      becomes = c.in-Ok.ensures.stored;
      moments = c.in-Ok.ensures.moments;
      answer = (λ frames same. epochs_more frames one _ _ same c.in-Ok.ensures.answer.journal.2, c.in-Ok.ensures.answer.usable);
      fixed = c.in-Ok.ensures.fixed.journal;
    })
