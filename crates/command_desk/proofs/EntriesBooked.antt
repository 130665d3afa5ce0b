-- What booking the pending entry switches, after it was passed on.
use Rattle.std.proofs.Common.{◌≡◌, ◌⊎◌, inl, inr, ℕ, Bool, arith, subst, ◌∙◌, [], Option, Some, None, Result, Ok, Err}
use Rattle.std.specs.Result.{IsErr}
use Rattle.ali_base.specs.declared.no_memory.NoMemory.{NoMemory}
use Rattle.command_desk.specs.DeskSteps.{BookAdvances, BooksFrom, BooksSwitches, GoesOn, IsBatched, IsLeft, IsOver, Leads, at_event}
use Rattle.command_desk.specs.MadeReply.{Carries, left_replies, only, reply_of, switches_of, table_of}
use Rattle.command_desk.specs.OpenedDesk.{Switched}
use Rattle.command_desk.specs.declared.desk.Desk.{Desk}
use Rattle.command_desk.specs.declared.reply.LeftBehind.{LeftBehind}
use Rattle.command_desk.specs.declared.reply.Replied.{Replied}
use Rattle.command_desk.specs.declared.reply.Reply.{Reply}
use Rattle.command_desk.specs.declared.reply.Reply.TheVariants as reply
use Rattle.command_desk.specs.declared.writing.Outcome.{Outcome}
use Rattle.command_desk.specs.declared.writing.Outcome.TheVariants as outcome
use Rattle.command_desk.specs.declared.writing.Turn.{Turn}
use Rattle.command_desk.proofs.Underway.{booking_underway, front_of, goes_since, goes_still, over_after, quiet_goes_on, underway_on}
use Rattle.command_machine.specs.Courses.{Event}
use Rattle.command_machine.specs.Machine.{Machine}
use Rattle.command_machine.specs.Steps.{begun}
use Rattle.crash_disk.specs.DiskState.{DiskState}
use Rattle.office_commands.specs.Commands as commands
use Rattle.office_commands.specs.declared.order.Order.TheVariants as order
use Rattle.pair_core.specs.Pair.{IsCall}

module _ {D : Type 0} (state : D → DiskState) (old mid new : Desk D) (left : Option LeftBehind) (goes : GoesOn state old mid left)
    (first : IsCall state old.pair mid.pair) (second : IsCall state mid.pair new.pair) where
  -- what is told last ends the command
  pub over_then : (told : Reply) → Switched state mid new (commands.Ordered order.Book) (only (Ok told)) → IsOver state old new (record { left = left; last = told })
  over_then told is =
      let last = reply_of (table_of new) new.job told in (
        underway_on state old mid new first.counts second.counts (left_replies left) last
            (front_of state old mid new first.counts second.counts left goes) (booking_underway state mid new goes.held last is),
        λ alone. (goes.stays_alone alone).1,
      )

  -- it is booked
  pub booked_then : (number code detail : ℕ) → Switched state mid new (commands.Ordered order.Book) (only (Ok (reply.Booked number code detail)))
      → BookAdvances mid new (Ok (reply.Booked number code detail)) → BooksSwitches state old new (Ok (outcome.Booked (record { left = left; last = reply.Booked number code detail })))
  booked_then number code detail is advances =
      let same : switches_of new ≡ switches_of mid = is.after.2 ∙ is.after.1 in (
        over_then (reply.Booked number code detail) is,
        goes_still state old mid new first.counts second.counts left goes (quiet_goes_on state mid new same advances.1),
        (omega (arith, first.booked, advances.2.more), advances.2.small),
      )

-- after a part that goes on, and in which no one is left behind
module _ {D : Type 0} (state : D → DiskState) (old mid new : Desk D) (goes : GoesOn state old mid None) (first : IsCall state old.pair mid.pair) (second : IsCall state mid.pair new.pair) where
  pub over_since : (told : Replied) → IsOver state mid new told → IsOver state old new told
  over_since told over = over_after state old mid new first.counts second.counts None told goes over

  pub books_since : (r : Result Outcome NoMemory) → BooksSwitches state mid new r → BooksSwitches state old new r
  books_since (Ok (outcome.Booked told)) is = (
    over_since told is.0,
    goes_since state old mid new first.counts second.counts goes told.left is.1,
    (omega (arith, first.booked, is.2.0), is.2.1),
  )
  books_since (Ok (outcome.Ended told)) is = over_since told is
  books_since (Err e) is = tt

  -- an entry of `BATCH`
  pub on_since : (told : Replied) → BooksSwitches state mid new (Ok (outcome.Booked told)) → GoesOn state old new told.left
  on_since told is = goes_since state old mid new first.counts second.counts goes told.left is.1

-- it is left for want of memory
module _ {D : Type 0} (state : D → DiskState) (old new : Desk D) where
  pub books_undone : (event : Bool → Machine → Event) (r : Result Outcome NoMemory) → IsErr r
      → Leads state old new (λ m now. (batch : Bool) → IsLeft (at_event m [] (Some (event batch m.machine))) now) → Leads state old new (BooksFrom new event r)
  books_undone event (Ok told) is leads = absurd (cc is)
  books_undone event (Err e) is leads = leads

  pub batch_undone : (r : Result Turn NoMemory) → IsErr r → Leads state old new (λ m now. IsLeft (begun m commands.Batch) now) → Leads state old new (IsBatched new r)
  batch_undone (Ok turn) is leads = absurd (cc is)
  batch_undone (Err e) is leads = leads

  -- what is told last, whether the entry is booked or the command over
  pub told_of_outcome : (o : Outcome) (told : Replied) → (o ≡ outcome.Booked told) ⊎ (o ≡ outcome.Ended told) → BooksSwitches state old new (Ok o) → IsOver state old new told
  told_of_outcome o told (inl is) switches = (subst (λ (x : Outcome). BooksSwitches state old new (Ok x)) is switches).0
  told_of_outcome o told (inr is) switches = subst (λ (x : Outcome). BooksSwitches state old new (Ok x)) is switches

  pub carries_undone : (command : commands.Command) (r : Result Replied NoMemory) → IsErr r → ((e : NoMemory) → Carries state old new command (Err e)) → Carries state old new command r
  carries_undone command (Ok told) is carries = absurd (cc is)
  carries_undone command (Err e) is carries = carries e
