-- What is told of a command besides complete jobs tells no line as refused.
use Rattle.std.proofs.Common.{◌≡◌, [], ◌∷◌, ◌++◌, refl, arith, Option, Some, None}
use Rattle.ali_base.specs.declared.duty.Duty.{Duty}
use Rattle.batch_desk.specs.declared.job.Job.{Job}
use Rattle.batch_desk.specs.declared.reply_line.JobDone.{JobDone}
use Rattle.command_desk.specs.MadeReply.{fault_reply, left_replies, refusal_reply, reply_of, replies_of}
use Rattle.command_desk.specs.RefusedLines.{refused_by, refused_lines}
use Rattle.command_desk.specs.declared.refusal.Refusal.{Refusal}
use Rattle.command_desk.specs.declared.refusal.Refusal.TheVariants as refusal
use Rattle.command_desk.specs.declared.reply.LeftBehind.{LeftBehind}
use Rattle.command_desk.specs.declared.reply.Replied.{Replied}
use Rattle.command_desk.specs.declared.reply.Reply.{Reply as Made}
use Rattle.command_desk.specs.declared.reply.Reply.TheVariants as made
use Rattle.command_machine.specs.Replies.{Reply}
use Rattle.office_state.specs.OfficeState.{State}
use Rattle.pair_core.specs.declared.faults.PairFault.{PairFault}
use Rattle.pair_core.specs.declared.faults.PairFault.TheVariants as faults

fault_none : (f : PairFault) → refused_by (fault_reply f) ≡ 0
fault_none (faults.Down d) = refl
fault_none (faults.Up d) = refl
fault_none (faults.OutOfDuty n e h) = refl
fault_none (faults.InFlight n) = refl
fault_none faults.NoFlight = refl
fault_none (faults.Unstored n e) = refl
fault_none (faults.NoEntry n l) = refl
fault_none (faults.NoMessage n s) = refl
fault_none (faults.MessagesFull l) = refl
fault_none (faults.NotPaired e h) = refl
fault_none (faults.Paired e h) = refl
fault_none (faults.NotInStep e d) = refl
fault_none (faults.EpochEnd e) = refl
fault_none (faults.NotDue due) = refl
fault_none (faults.Full limit) = refl
fault_none (faults.Fault d) = refl
fault_none (faults.Foreign d) = refl
fault_none (faults.Damaged d frame) = refl
fault_none (faults.Short node have need) = refl
fault_none faults.NoMemory = refl

refusal_none : (r : Refusal) → refused_by (refusal_reply r) ≡ 0
refusal_none (refusal.Pair fault) = fault_none fault
refusal_none (refusal.Ahead since count) = refl
refusal_none (refusal.Frame fault) = refl
refusal_none (refusal.Standing fault) = refl
refusal_none refusal.NoJob = refl

duty_none : (duty : Option Duty) (f : PairFault) (last : Reply) → refused_lines (left_replies (Some (record { fault = f; duty = duty })) ++ last ∷ []) ≡ refused_by last
duty_none None f last = omega (arith, fault_none f)
duty_none (Some duty) f last = omega (arith, fault_none f)

-- all that is told, by its last reply
last_alone : (left : Option LeftBehind) (last : Reply) → refused_lines (left_replies left ++ last ∷ []) ≡ refused_by last
last_alone None last = omega arith
last_alone (Some left) last = duty_none left.duty left.fault last

other_none : (s : State) (job : Option Job) (r : Made) → ((done : JobDone) → r ≡ made.Complete done → ⊥) → (r ≡ made.Finished → ⊥) → refused_by (reply_of s job r) ≡ 0
other_none s job (made.Refused refusal) not_complete not_finished = refusal_none refusal
other_none s job (made.Answer count form) not_complete not_finished = refl
other_none s job (made.Reported count text) not_complete not_finished = refl
other_none s job (made.Read read) not_complete not_finished = refl
other_none s job (made.Complete done) not_complete not_finished = absurd (not_complete done refl)
other_none s job made.Finished not_complete not_finished = absurd (not_finished refl)
other_none s job (made.CaughtUp len) not_complete not_finished = refl
other_none s job (made.Written number epoch) not_complete not_finished = refl
other_none s job (made.Booked number code detail) not_complete not_finished = refl
other_none s job (made.Sent message) not_complete not_finished = refl
other_none s job (made.Delivered delivered number) not_complete not_finished = refl
other_none s job (made.OnDuty duty) not_complete not_finished = refl
other_none s job (made.StartedDuty duty) not_complete not_finished = refl
other_none s job (made.Stopped node) not_complete not_finished = refl
other_none s job (made.Started node len known) not_complete not_finished = refl
other_none s job (made.Status status) not_complete not_finished = refl

pub told_none : (s : State) (job : Option Job) (told : Replied) → ((done : JobDone) → told.last ≡ made.Complete done → ⊥) → (told.last ≡ made.Finished → ⊥) → 0 ≡ refused_lines (replies_of s job told)
told_none s job told not_complete not_finished = omega (arith, last_alone told.left (reply_of s job told.last), other_none s job told.last not_complete not_finished)
