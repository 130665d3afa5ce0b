use Rattle.command_machine.proofs.OneReply.{has_reply}
use Rattle.command_machine.proofs.laws.commands_have_replies.Goals as goal

pub returns : goal.returns
returns c m now command told lawful is steps = has_reply m now told command steps
