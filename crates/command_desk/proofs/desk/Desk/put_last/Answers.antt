use Rattle.std.proofs.Common.{List, ℕ, refl, subst, ◌∙◌, Ok}
use Rattle.ali_base.specs.WholePuts.{Puts}
use Rattle.ali_base.proofs.Puts.{puts_then}
use Rattle.command_machine.specs.ReplyText.{reply_text}
use Rattle.command_desk.proofs.desk.Desk.put_last.Goals as goal

pub returns : goal.returns
unfolding reply_text
returns g c =
    let line = c.bytes.ensures.same ∙ c.line.ensures in
    let sink = g.K.Sink in
    record { put = puts_then refl (subst (λ (text : List ℕ). Puts sink.contents sink.faults c.args.sink.now c.put_all.new.sink text (Ok c.in_ok-put_all.field-0)) line c.in_ok-put_all.ensures.put) c.put_block.ensures.put }
