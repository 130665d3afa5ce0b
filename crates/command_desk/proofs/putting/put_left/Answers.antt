use Rattle.std.proofs.Common.{List, ℕ, ◌++◌, Option, ap, sym, ◌∙◌}
use Rattle.ali_base.proofs.Puts.{puts_then, puts_stop}
use Rattle.command_desk.specs.MadeReply.{duty_replies, left_replies}
use Rattle.command_desk.specs.declared.reply.LeftBehind.{LeftBehind}
use Rattle.command_desk.proofs.ToldTexts.{fault_text}
use Rattle.command_desk.proofs.putting.put_left.Goals as goal
use Rattle.command_machine.specs.ReplyText.{text_of}

pub returns-in_err-put_all-in-Some : goal.returns-in_err-put_all-in-Some
returns-in_err-put_all-in-Some g c =
    let rest = text_of (duty_replies c.in-Some.left.duty) in
    let line = c.bytes.ensures.same ∙ c.fault_line.ensures ∙ sym (fault_text c.in-Some.left.fault) in
    let told = ap (λ (o : Option LeftBehind). text_of (left_replies o)) c.in-Some.is in
    let same = told ∙ sym (ap (λ (text : List ℕ). text ++ rest) line) in
    record { put = puts_stop rest same c.in_err-put_all-in-Some.ensures.put (cc) }

pub returns-in_ok-put_all-in-Some : goal.returns-in_ok-put_all-in-Some
returns-in_ok-put_all-in-Some g c =
    let rest = text_of (duty_replies c.in-Some.left.duty) in
    let line = c.bytes.ensures.same ∙ c.fault_line.ensures ∙ sym (fault_text c.in-Some.left.fault) in
    let told = ap (λ (o : Option LeftBehind). text_of (left_replies o)) c.in-Some.is in
    let same = told ∙ sym (ap (λ (text : List ℕ). text ++ rest) line) in
    record { put = puts_then same c.in_ok-put_all-in-Some.ensures.put c.put_duty.ensures.put }
