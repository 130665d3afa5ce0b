-- Commands of one event: the event's reply is all that is told.
use Rattle.std.proofs.Common.{◌≡◌, [], ◌∷◌, refl, sym, Some, None, Result, Ok, Err, subst}
use Rattle.ali_base.specs.declared.no_memory.NoMemory.{NoMemory}
use Rattle.command_desk.specs.DeskSteps.{Leads, EventDone, told_in}
use Rattle.command_desk.specs.MadeReply.{Carries, only, reply_of, table_of}
use Rattle.command_desk.specs.declared.desk.Desk.{Desk}
use Rattle.command_desk.specs.declared.reply.Replied.{Replied}
use Rattle.command_desk.specs.declared.reply.Reply.{Reply}
use Rattle.command_machine.specs.Courses.{First, then_comes, told_of}
use Rattle.command_machine.specs.Machine.{Machine}
use Rattle.command_machine.specs.Replies as replies
use Rattle.command_machine.specs.Steps.{over}
use Rattle.crash_disk.specs.DiskState.{DiskState}
use Rattle.office_commands.specs.Commands.{Command}

-- its first event ends it, and the event's reply is told
pub record IsOneEvent (command : Command) : Type 0 where
  pub ends : (m : Machine) (told : replies.Reply) → then_comes (First command) m told ≡ None
  pub told : (m : Machine) (told : replies.Reply) → told_of (First command) m told ≡ told ∷ []

module _ {D : Type 0} (state : D → DiskState) (old new : Desk D) (command : Command) (one : IsOneEvent command) where
  pub carried : (r : Result Reply NoMemory) → Leads state old new (EventDone (First command) (told_in new r)) → Carries state old new command (only r)
  carried (Ok told) leads m shown lawful =
      let done = leads m shown lawful in
      let now = done.0 in
      let reply = reply_of (table_of new) new.job told in (
        now,
        done.1,
        done.2,
        record {
          events = 1;
          runs = (
            over now (reply ∷ []),
            record {
              lasted = done.3.0;
              reply = reply;
              gives = done.3.1.gives;
              counts = done.3.1.counts;
              told = sym (one.told now.machine reply);
              next = sym (one.ends now.machine reply);
            },
            refl,
          );
        },
      )
  carried (Err e) leads m shown lawful =
      let done = leads m shown lawful in (
        done.0,
        done.1,
        done.2,
        ([], record { events = 0; last = m; event = Some (First command); runs = refl; machine = done.3.1.machine; counts = done.3.1.counts }),
      )

-- what is alone in what is told
pub carried_alone : {D : Type 0} (state : D → DiskState) (old new : Desk D) (command : Command) (now : Command) (r : Result Reply NoMemory) (told : Result Replied NoMemory)
    → IsOneEvent command → now ≡ command → told ≡ only r → Leads state old new (EventDone (First command) (told_in new r)) → Carries state old new now told
carried_alone state old new command now r told one is alone leads =
    subst (λ (c : Command). Carries state old new c told) (sym is)
    (subst (λ (t : Result Replied NoMemory). Carries state old new command t) (sym alone) (carried state old new command one r leads))
