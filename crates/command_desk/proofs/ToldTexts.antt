-- The texts of what is told of a command.
use Rattle.std.proofs.Common.{◌≡◌, List, [], ◌∷◌, ◌++◌, refl, ap, sym, ◌∙◌, append-nil, append_assoc}
use Rattle.ali_base.specs.declared.duty.Duty.{Duty}
use Rattle.command_desk.specs.MadeReply.{fault_reply}
use Rattle.command_machine.specs.Replies.{Reply, Told}
use Rattle.command_machine.specs.ReplyText.{reply_block, reply_line, reply_text, text_of}
use Rattle.pair_core.specs.declared.faults.PairFault.{PairFault}
use Rattle.pair_core.specs.declared.faults.PairFault.TheVariants as faults
use Rattle.world_rows.specs.Told.{On_duty}

text_of_both : (first rest : List Reply) → text_of (first ++ rest) ≡ text_of first ++ text_of rest
text_of_both [] rest = refl
text_of_both (r ∷ first) rest = ap (λ z. reply_text r ++ z) (text_of_both first rest) ∙ sym (append_assoc (reply_text r) (text_of first) (text_of rest))

-- what was told, and then the last reply
pub text_then : (told : List Reply) (last : Reply) → text_of (told ++ last ∷ []) ≡ text_of told ++ reply_text last
text_then told last = text_of_both told (last ∷ []) ∙ ap (λ z. text_of told ++ z) (append-nil (reply_text last))

-- a reply with nothing behind its line
line_alone : (r : Reply) → reply_block r ≡ [] → reply_text r ≡ reply_line r
unfolding reply_text
line_alone r none = ap (λ z. reply_line r ++ z) none ∙ append-nil (reply_line r)

pub duty_text : (duty : Duty) → text_of (Told (On_duty duty) ∷ []) ≡ reply_line (Told (On_duty duty))
duty_text duty = append-nil (reply_text (Told (On_duty duty))) ∙ line_alone (Told (On_duty duty)) refl

pub fault_text : (f : PairFault) → reply_text (fault_reply f) ≡ reply_line (fault_reply f)
fault_text (faults.Down d) = line_alone (fault_reply (faults.Down d)) refl
fault_text (faults.Up d) = line_alone (fault_reply (faults.Up d)) refl
fault_text (faults.OutOfDuty n e h) = line_alone (fault_reply (faults.OutOfDuty n e h)) refl
fault_text (faults.InFlight n) = line_alone (fault_reply (faults.InFlight n)) refl
fault_text faults.NoFlight = line_alone (fault_reply faults.NoFlight) refl
fault_text (faults.Unstored n e) = line_alone (fault_reply (faults.Unstored n e)) refl
fault_text (faults.NoEntry n l) = line_alone (fault_reply (faults.NoEntry n l)) refl
fault_text (faults.NoMessage n s) = line_alone (fault_reply (faults.NoMessage n s)) refl
fault_text (faults.MessagesFull l) = line_alone (fault_reply (faults.MessagesFull l)) refl
fault_text (faults.NotPaired e h) = line_alone (fault_reply (faults.NotPaired e h)) refl
fault_text (faults.Paired e h) = line_alone (fault_reply (faults.Paired e h)) refl
fault_text (faults.NotInStep e d) = line_alone (fault_reply (faults.NotInStep e d)) refl
fault_text (faults.EpochEnd e) = line_alone (fault_reply (faults.EpochEnd e)) refl
fault_text (faults.NotDue due) = line_alone (fault_reply (faults.NotDue due)) refl
fault_text (faults.Full limit) = line_alone (fault_reply (faults.Full limit)) refl
fault_text (faults.Fault d) = line_alone (fault_reply (faults.Fault d)) refl
fault_text (faults.Foreign d) = line_alone (fault_reply (faults.Foreign d)) refl
fault_text (faults.Damaged d frame) = line_alone (fault_reply (faults.Damaged d frame)) refl
fault_text (faults.Short node have need) = line_alone (fault_reply (faults.Short node have need)) refl
fault_text faults.NoMemory = line_alone (fault_reply faults.NoMemory) refl
