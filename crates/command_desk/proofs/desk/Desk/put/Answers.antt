use Rattle.ali_base.proofs.Puts.{puts_then, puts_stop}
use Rattle.command_desk.specs.MadeReply.{left_replies, reply_of, table_of}
use Rattle.command_desk.proofs.ToldTexts.{text_then}
use Rattle.command_desk.proofs.desk.Desk.put.Goals as goal
use Rattle.command_machine.specs.ReplyText.{reply_text}

pub returns-in_err-put_left : goal.returns-in_err-put_left
returns-in_err-put_left g c =
    let last = reply_of (table_of c.args.self.now) c.args.self.now.job c.args.told.now.last in
    record { put = puts_stop (reply_text last) (text_then (left_replies c.args.told.now.left) last) c.in_err-put_left.ensures.put (cc) }

pub returns : goal.returns
returns g c =
    let last = reply_of (table_of c.args.self.now) c.args.self.now.job c.args.told.now.last in
    record { put = puts_then (text_then (left_replies c.args.told.now.left) last) c.in_ok-put_left.ensures.put c.put_last.ensures.put }
