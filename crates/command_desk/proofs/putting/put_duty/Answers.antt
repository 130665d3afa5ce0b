use Rattle.std.proofs.Common.{List, ℕ, Option, ap, subst, sym, ◌∙◌}
use Rattle.ali_base.specs.WholePuts.{Puts}
use Rattle.ali_base.specs.declared.duty.Duty.{Duty}
use Rattle.command_desk.specs.MadeReply.{duty_replies}
use Rattle.command_desk.proofs.ToldTexts.{duty_text}
use Rattle.command_desk.proofs.putting.put_duty.Goals as goal
use Rattle.command_machine.specs.ReplyText.{text_of}

pub returns-in-Some : goal.returns-in-Some
returns-in-Some g c =
    let sink = g.K.Sink in
    let line = c.bytes.ensures.same ∙ c.duty_line.ensures in
    let told = ap (λ (o : Option Duty). text_of (duty_replies o)) c.in-Some.is in
    let same = line ∙ sym (told ∙ duty_text c.in-Some.duty) in
    record { put = subst (λ (text : List ℕ). Puts sink.contents sink.faults c.args.sink.now c.put_all.new.sink text c.put_all.result) same c.put_all.ensures.put }
