-- The pending entry is booked; an entry is written before; `NEXT` and `BATCH` begin, and `BATCH` goes on entry after entry.
use Rattle.std.proofs.Common.{◌≡◌, ◌≢◌, ◌⊎◌, inl, inr, ℕ, ◌<◌, ◌≤◌, Bool, true, false, not, List, [], ◌∷◌, ◌++◌, length, refl, ap, sym, ◌∙◌, subst, arith, Option, Some, None, Result, Ok, Err}
use Rattle.std.specs.Option.{option_or}
use Rattle.std.proofs.lemmas.List.{append-nil, append_assoc}
use Rattle.ali_base.specs.Steps.{when}
use Rattle.ali_base.specs.declared.duty.Duty.{Duty}
use Rattle.ali_base.specs.declared.names.DiskName.{DiskName}
use Rattle.ali_base.specs.declared.names.DiskName.TheVariants as disk
use Rattle.ali_base.specs.declared.names.NodeName.{NodeName}
use Rattle.ali_base.specs.declared.no_memory.NoMemory.{NoMemory}
use Rattle.batch_desk.specs.declared.job.Job.{Job}
use Rattle.command_machine.specs.CommandRows.{found_row, held, refused, write_row}
use Rattle.command_machine.specs.Courses.{Event, First, Writes, Books, row_of, then_comes, told_of, passed_or_booked, written_or_passed}
use Rattle.command_machine.specs.Machine.{Machine, Moment, holder_of}
use Rattle.command_machine.specs.Replies as replies
use Rattle.command_machine.specs.Steps.{begun}
use Rattle.command_machine.specs.Switches.{IsSwitched}
use Rattle.command_desk.specs.DeskSteps.{Leads, RowDone, EventDone, IsLeft, ComesTo, IsFound, IsPassedOn, BooksFrom, IsBatched, told_in, part_told}
use Rattle.command_desk.specs.MadeReply.{Carries, ShowsMachine, fault_reply, holder_of as desk_holder, left_replies, replies_of, reply_of, switches_of, table_of}
use Rattle.command_desk.specs.declared.desk.Desk.{Desk}
use Rattle.command_desk.specs.declared.refusal.Refusal.{Refusal as DeskRefusal}
use Rattle.command_desk.specs.declared.refusal.Refusal.TheVariants as refusal
use Rattle.command_desk.specs.declared.reply.LeftBehind.{LeftBehind}
use Rattle.command_desk.specs.declared.reply.Replied.{Replied}
use Rattle.command_desk.specs.declared.reply.Reply.{Reply}
use Rattle.command_desk.specs.declared.reply.Reply.TheVariants as reply
use Rattle.command_desk.specs.declared.writing.Outcome.{Outcome}
use Rattle.command_desk.specs.declared.writing.Outcome.TheVariants as outcome
use Rattle.command_desk.specs.declared.writing.Turn.TheVariants.{On, Over}
use Rattle.command_desk.proofs.PassingOn.{leads_as, leads_on}
use Rattle.command_desk.proofs.Switching.{down_of, row_case, row_refused}
use Rattle.command_desk.proofs.Running.{comes_on, left_on, comes_by, left_by, comes_from, left_from, books_alike, writes_alike, comes_pending, comes_writing, carried, carried_in_part}
use Rattle.crash_disk.specs.DiskState.{DiskState}
use Rattle.office_commands.specs.Commands as commands
use Rattle.office_commands.specs.declared.order.Order.TheVariants as order
use Rattle.office_state.specs.OfficeState.{State, office_limits}
use Rattle.pair_core.specs.Pair as pairs
use Rattle.pair_core.specs.Pair.{is_node_up, is_up, len_of}
use Rattle.pair_core.specs.PairAnswers.{acked_told}
use Rattle.pair_core.specs.PairRefusals as pair_rows
use Rattle.pair_core.specs.declared.faults.PairFault.{PairFault}
use Rattle.pair_core.specs.declared.faults.PairFault.TheVariants as faults
use Rattle.pair_core.proofs.PairReport.{long_holder}
use Rattle.pair_node.specs.declared.message.Delivered.{Delivered}
use Rattle.pair_node.specs.declared.message.Delivered.TheVariants as delivered
use Rattle.pair_world.specs.Refusals as refusals
use Rattle.pair_world.specs.Refusals.{Refusal, disk_of}
use Rattle.pair_world.specs.World.{holder_journal, node_at}
use Rattle.pair_world.proofs.Items.{none_some, some_is}
use Rattle.pair_world.proofs.RowTests.{up_passes}
use Rattle.command_machine.proofs.FoundJobs.{shut}
use Rattle.world_rows.specs.Counts.{Counts, NeverFall}
use Rattle.world_rows.specs.Rows.{Gives, Row, Success, Unless}
use Rattle.world_rows.specs.Told as world

-- ---- which replies say that an entry was written or booked

abbrev pub IsOther : replies.Reply → Type 0
IsOther (replies.Told (world.Written number epoch)) = ⊥
IsOther (replies.Told (world.Booked number verdict)) = ⊥
IsOther told = Unit {0}

-- these replies of a desk, and no others
abbrev pub IsWrittenOrBooked : Reply → Type 0
IsWrittenOrBooked told = ((number epoch : ℕ) × (told ≡ reply.Written number epoch)) ⊎ ((number code detail : ℕ) × (told ≡ reply.Booked number code detail))

other_fault : (fault : PairFault) → IsOther (fault_reply fault)
other_fault (faults.Down d) = tt
other_fault fault = tt

other_delivered : (s : State) (job : Option Job) (it : Delivered) (made : ℕ) → IsOther (reply_of s job (reply.Delivered it made))
other_delivered s job (delivered.Acked ack) made = by_end ack.end
  where
    by_end : (end : Bool) → IsOther (replies.Told (acked_told end ack))
    by_end true = tt
    by_end false = tt
other_delivered s job it made = tt

other_finished : (s : State) (job : Option Job) → IsOther (reply_of s job reply.Finished)
other_finished s None = tt
other_finished s (Some job) = tt

other_refused : (s : State) (job : Option Job) (why : DeskRefusal) → IsOther (reply_of s job (reply.Refused why))
other_refused s job (refusal.Pair fault) = other_fault fault
other_refused s job why = tt

pub made_other : (s : State) (job : Option Job) (told : Reply) → IsWrittenOrBooked told ⊎ IsOther (reply_of s job told)
made_other s job (reply.Written number epoch) = inl (inl (number, epoch, refl))
made_other s job (reply.Booked number code detail) = inl (inr (number, code, detail, refl))
made_other s job (reply.Refused why) = inr (other_refused s job why)
made_other s job (reply.Delivered it made) = inr (other_delivered s job it made)
made_other s job reply.Finished = inr (other_finished s job)
made_other s job told = inr tt

-- they end an entry
abbrev Ends : Event → Machine → replies.Reply → Type 0
Ends event m told = (told_of event m told ≡ told ∷ []) × (then_comes event m told ≡ None)

other_ends_write : (batch : Bool) (m : Machine) (told : replies.Reply) → IsOther told → Ends (Writes batch) m told
other_ends_write batch m (replies.Told (world.Written number epoch)) other = absurd other
other_ends_write batch m (replies.Told (world.Booked number verdict)) other = absurd other
other_ends_write batch m told other = (refl, refl)

other_ends_booking : (batch : Bool) (m : Machine) (told : replies.Reply) → IsOther told → Ends (Books batch) m told
other_ends_booking batch m (replies.Told (world.Written number epoch)) other = absurd other
other_ends_booking batch m (replies.Told (world.Booked number verdict)) other = absurd other
other_ends_booking true m (replies.Told world.Ready) other = (refl, refl)
other_ends_booking true m told other = (refl, refl)
other_ends_booking false m told other = (refl, refl)

module _ (s : State) (job : Option Job) (batch : Bool) (m : Machine) (told : Reply) where
  -- a reply that is not that an entry was written, or was booked
  pub ends_write : ((number epoch : ℕ) → told ≡ reply.Written number epoch → ⊥) → Ends (Writes batch) m (reply_of s job told)
  ends_write not_written = elim (made_other s job told) [
    | inr other ↦ other_ends_write batch m (reply_of s job told) other
    | inl made ↦ (elim made [
      | inl written ↦ absurd (not_written written.0 written.1 written.2)
      | inr booked ↦ subst (λ (t : Reply). Ends (Writes batch) m (reply_of s job t)) (sym booked.3) (refl, refl)
    ])
  ]

  pub ends_booking : ((number code detail : ℕ) → told ≡ reply.Booked number code detail → ⊥) → Ends (Books batch) m (reply_of s job told)
  ends_booking not_booked = elim (made_other s job told) [
    | inr other ↦ other_ends_booking batch m (reply_of s job told) other
    | inl made ↦ (elim made [
      | inl written ↦ subst (λ (t : Reply). Ends (Books batch) m (reply_of s job t)) (sym written.2) (by_batch batch written.0 written.1)
      | inr booked ↦ absurd (not_booked booked.0 booked.1 booked.2 booked.3)
    ])
  ]
    where
      by_batch : (b : Bool) (number epoch : ℕ) → Ends (Books b) m (replies.Told (world.Written number epoch))
      by_batch true number epoch = (refl, refl)
      by_batch false number epoch = (refl, refl)

-- ---- the pending entry is booked

module _ {D : Type 0} (state : D → DiskState) (old mid new : Desk D) (left : Option LeftBehind) (passed : Leads state old mid (IsPassedOn mid (Ok (On left)))) where
  abbrev Booking : Result replies.Reply NoMemory → Moment → Moment → Type 0
  Booking = EventDone (First (commands.Ordered order.Book))

  pub booked_after : (number code detail : ℕ) → Leads state mid new (Booking (told_in new (Ok (reply.Booked number code detail))))
      → Leads state old new (BooksFrom new passed_or_booked (Ok (outcome.Booked (record { left = left; last = reply.Booked number code detail }))))
  booked_after number code detail booked =
      let last : replies.Reply = replies.Told (world.Booked number (record { code = code; detail = detail })) in
      leads_on state old new mid (IsPassedOn mid (Ok (On left))) (Booking (Ok last)) (BooksFrom new passed_or_booked (Ok (outcome.Booked (record { left = left; last = reply.Booked number code detail }))))
      (λ m between now shown there here one done. (
        comes_on (passed_or_booked false m.machine) (Books false) (left_replies left) m between (one false) (last ∷ []) None now
            (comes_by (Books false) last (last ∷ []) None between now (books_alike (Ok last) between now false done) refl refl),
        subst (λ (said : List replies.Reply). ComesTo (passed_or_booked true m.machine) said (Some (First commands.Batch)) m now) (append-nil (left_replies left))
            (comes_on (passed_or_booked true m.machine) (Books true) (left_replies left) m between (one true) [] (Some (First commands.Batch)) now
            (comes_by (Books true) last [] (Some (First commands.Batch)) between now (books_alike (Ok last) between now true done) refl refl)),
      ))
      passed booked

  pub unbooked_after : (told : Reply) → ((number code detail : ℕ) → told ≡ reply.Booked number code detail → ⊥) → Leads state mid new (Booking (told_in new (Ok told)))
      → Leads state old new (BooksFrom new passed_or_booked (Ok (outcome.Ended (record { left = left; last = told }))))
  unbooked_after told not_booked booked =
      let last = reply_of (table_of new) new.job told in
      leads_on state old new mid (IsPassedOn mid (Ok (On left))) (Booking (Ok last)) (BooksFrom new passed_or_booked (Ok (outcome.Ended (record { left = left; last = told }))))
      (λ m between now shown there here one done batch.
      let ends = ends_booking (table_of new) new.job batch now.machine told not_booked in
      comes_on (passed_or_booked batch m.machine) (Books batch) (left_replies left) m between (one batch) (last ∷ []) None now
      (comes_by (Books batch) last (last ∷ []) None between now (books_alike (Ok last) between now batch done) ends.0 ends.1))
      passed booked

  pub left_after : (e end : NoMemory) → Leads state mid new (Booking (told_in new (Err e))) → Leads state old new (BooksFrom new passed_or_booked (Err end))
  left_after e end booked =
      leads_on state old new mid (IsPassedOn mid (Ok (On left))) (Booking (Err e)) (BooksFrom new passed_or_booked (Err end))
      (λ m between now shown there here one done batch.
      left_on (passed_or_booked batch m.machine) (Books batch) (left_replies left) m between (one batch) now (left_by (Books batch) between now (books_alike (Err e) between now batch done).1))
      passed booked

module _ {D : Type 0} (state : D → DiskState) (old new : Desk D) where
  -- a pass that ends the command, or is left
  pub over_after : (told : Replied) → Leads state old new (IsPassedOn new (Ok (Over told))) → Leads state old new (BooksFrom new passed_or_booked (Ok (outcome.Ended told)))
  over_after told leads = leads

  pub undone_after : (e end : NoMemory) → Leads state old new (IsPassedOn new (Err e)) → Leads state old new (BooksFrom new passed_or_booked (Err end))
  undone_after e end leads = leads

-- ---- an entry is written before

module _ {D : Type 0} (state : D → DiskState) (old : Desk D) (held_up : is_node_up old.pair (pair_rows.holder old.pair) ≡ true) where
  journal_is : (m : Moment) → ShowsMachine state old m → len_of old.pair (pair_rows.holder old.pair) ≡ length (holder_journal m.machine.world.base)
  journal_is m shown = long_holder state office_limits old.pair m.machine.world shown.world held_up

  -- it is written already
  pub pending_leads : pairs.count_of old.pair < len_of old.pair (pair_rows.holder old.pair) → (new : Desk D) (r : Result Outcome NoMemory)
      → Leads state old new (BooksFrom new passed_or_booked r) → Leads state old new (BooksFrom new written_or_passed r)
  pending_leads less new r = leads_as state old new (BooksFrom new passed_or_booked r) (BooksFrom new written_or_passed r) (by_result r)
    where
      same : (batch : Bool) (m : Moment) → ShowsMachine state old m → written_or_passed batch m.machine ≡ passed_or_booked batch m.machine
      same batch m shown = comes_pending batch m.machine (omega (arith, less, journal_is m shown, shown.world.count))

      by_result : (r : Result Outcome NoMemory) (m now : Moment) → ShowsMachine state old m → ShowsMachine state new now → BooksFrom new passed_or_booked r m now → BooksFrom new written_or_passed r m now
      by_result (Ok (outcome.Booked told)) m now shown there books = (
        comes_from (written_or_passed false m.machine) (passed_or_booked false m.machine) (replies_of (table_of new) new.job told) None m now (same false m shown) books.0,
        comes_from (written_or_passed true m.machine) (passed_or_booked true m.machine) (left_replies told.left) (Some (First commands.Batch)) m now (same true m shown) books.1,
      )
      by_result (Ok (outcome.Ended told)) m now shown there books = λ batch.
          comes_from (written_or_passed batch m.machine) (passed_or_booked batch m.machine) (replies_of (table_of new) new.job told) None m now (same batch m shown) (books batch)
      by_result (Err e) m now shown there books = λ batch. left_from (written_or_passed batch m.machine) (passed_or_booked batch m.machine) m now (same batch m shown) (books batch)

  module _ (n : NodeName) (at : n ≡ desk_holder old) (free : len_of old.pair (pair_rows.holder old.pair) ≤ pairs.count_of old.pair) where
    writing : (batch : Bool) (m : Moment) → ShowsMachine state old m → written_or_passed batch m.machine ≡ Writes batch
    writing batch m shown = comes_writing batch m.machine (omega (arith, free, journal_is m shown, shown.world.count))

    holder_is : (m : Moment) → ShowsMachine state old m → holder_of m.machine ≡ n
    holder_is m shown = ap (λ (d : Duty). d.holder) (sym shown.world.duty) ∙ sym at

    abbrev Writing : Result replies.Reply NoMemory → Moment → Moment → Type 0
    Writing = RowDone (λ (x : Machine). write_row x n)

    -- it is not written
    pub unwritten_leads : (new : Desk D) (told : Reply) → ((number epoch : ℕ) → told ≡ reply.Written number epoch → ⊥) → Leads state old new (Writing (told_in new (Ok told)))
        → Leads state old new (BooksFrom new written_or_passed (Ok (outcome.Ended (record { left = None; last = told }))))
    unwritten_leads new told not_written =
        let last = reply_of (table_of new) new.job told in
        leads_as state old new (Writing (Ok last)) (BooksFrom new written_or_passed (Ok (outcome.Ended (record { left = None; last = told }))))
        (λ m now shown there done batch.
        let ends = ends_write (table_of new) new.job batch now.machine told not_written in
        comes_from (written_or_passed batch m.machine) (Writes batch) (last ∷ []) None m now (writing batch m shown)
        (comes_by (Writes batch) last (last ∷ []) None m now (writes_alike m now batch n (holder_is m shown) (Ok last) done) ends.0 ends.1))

    pub unwritten_left : (new : Desk D) (e end : NoMemory) → Leads state old new (Writing (told_in new (Err e))) → Leads state old new (BooksFrom new written_or_passed (Err end))
    unwritten_left new e end =
        leads_as state old new (Writing (Err e)) (BooksFrom new written_or_passed (Err end))
        (λ m now shown there done batch.
        left_from (written_or_passed batch m.machine) (Writes batch) m now (writing batch m shown) (left_by (Writes batch) m now (writes_alike m now batch n (holder_is m shown) (Err e) done).1))

    -- it is written, and then passed on and booked
    pub written_leads : (mid new : Desk D) (number epoch : ℕ) → Leads state old mid (Writing (told_in mid (Ok (reply.Written number epoch)))) → (r : Result Outcome NoMemory)
        → Leads state mid new (BooksFrom new passed_or_booked r) → Leads state old new (BooksFrom new written_or_passed r)
    written_leads mid new number epoch wrote r = leads_on state old new mid (Writing (Ok (replies.Told (world.Written number epoch)))) (BooksFrom new passed_or_booked r) (BooksFrom new written_or_passed r) (by_result r) wrote
      where
        first : (batch : Bool) (m between : Moment) → ShowsMachine state old m → Writing (Ok (replies.Told (world.Written number epoch))) m between → ComesTo (written_or_passed batch m.machine) [] (Some (passed_or_booked batch between.machine)) m between
        first batch m between shown done =
            comes_from (written_or_passed batch m.machine) (Writes batch) [] (Some (passed_or_booked batch between.machine)) m between (writing batch m shown)
            (comes_by (Writes batch) (replies.Told (world.Written number epoch)) [] (Some (passed_or_booked batch between.machine)) m between (writes_alike m between batch n (holder_is m shown) (Ok (replies.Told (world.Written number epoch))) done) refl refl)

        by_result : (r : Result Outcome NoMemory) (m between now : Moment) → ShowsMachine state old m → ShowsMachine state mid between → ShowsMachine state new now → Writing (Ok (replies.Told (world.Written number epoch))) m between
            → BooksFrom new passed_or_booked r between now → BooksFrom new written_or_passed r m now
        by_result (Ok (outcome.Booked out)) m between now shown there here done books = (
          comes_on (written_or_passed false m.machine) (passed_or_booked false between.machine) [] m between (first false m between shown done) (replies_of (table_of new) new.job out) None now books.0,
          comes_on (written_or_passed true m.machine) (passed_or_booked true between.machine) [] m between (first true m between shown done) (left_replies out.left) (Some (First commands.Batch)) now books.1,
        )
        by_result (Ok (outcome.Ended out)) m between now shown there here done books = λ batch.
            comes_on (written_or_passed batch m.machine) (passed_or_booked batch between.machine) [] m between (first batch m between shown done) (replies_of (table_of new) new.job out) None now (books batch)
        by_result (Err e) m between now shown there here done books = λ batch.
            left_on (written_or_passed batch m.machine) (passed_or_booked batch between.machine) [] m between (first batch m between shown done) now (books batch)

-- ---- `NEXT`

no_fall : (m : Moment) → NeverFall m.counts m.counts
no_fall m d = omega arith

module _ {D : Type 0} (state : D → DiskState) (old : Desk D) (register : is_up old.pair ≡ true) (held_up : is_node_up old.pair (pair_rows.holder old.pair) ≡ true) where
  -- the register and the holder are up
  register_on : (m : Moment) → ShowsMachine state old m → m.machine.world.register_up ≡ true
  register_on m shown = shown.world.register_up ∙ register

  holder_on : (m : Moment) → ShowsMachine state old m → (node_at m.machine.world.base.nodes (holder_of m.machine)).up ≡ true
  holder_on m shown =
      ap (λ (d : Duty). (node_at m.machine.world.base.nodes d.holder).up) (sym shown.world.duty) ∙ (shown.world.nodes (pair_rows.holder old.pair)).up ∙ held_up

  next_begins : (m : Moment) → ShowsMachine state old m → ComesTo (First commands.Next) [] (Some (written_or_passed false m.machine)) m m
  unfolding row_of
  next_begins m shown = comes_by (First commands.Next) (replies.Told world.Ready) [] (Some (written_or_passed false m.machine)) m m (true, record { gives = gives; counts = no_fall m }) refl refl
    where
      gives : Gives m.counts m.counts (λ disk. replies.Told (world.Failed disk)) m.machine (row_of true m.machine (First commands.Next)) (replies.Told world.Ready) m.machine
      gives = inr (
        shut _ (up_passes m.machine.world.register_up _ (register_on m shown)),
        inr (shut _ (up_passes (node_at m.machine.world.base.nodes (holder_of m.machine)).up _ (holder_on m shown)), (refl, refl)),
      )

  module _ (new : Desk D) where
    next_over : (told : Replied) → Leads state old new (λ m now. ComesTo (written_or_passed false m.machine) (replies_of (table_of new) new.job told) None m now) → Carries state old new commands.Next (Ok told)
    next_over told leads =
        carried state old new commands.Next told
        (leads_as state old new (λ m now. ComesTo (written_or_passed false m.machine) (replies_of (table_of new) new.job told) None m now) (ComesTo (First commands.Next) (replies_of (table_of new) new.job told) None)
        (λ m now shown there comes. comes_on (First commands.Next) (written_or_passed false m.machine) [] m m (next_begins m shown) (replies_of (table_of new) new.job told) None now comes)
        leads)

    pub next_booked : (told : Replied) → Leads state old new (BooksFrom new written_or_passed (Ok (outcome.Booked told))) → Carries state old new commands.Next (Ok told)
    next_booked told leads =
        next_over told
        (leads_as state old new (BooksFrom new written_or_passed (Ok (outcome.Booked told))) (λ m now. ComesTo (written_or_passed false m.machine) (replies_of (table_of new) new.job told) None m now)
        (λ m now shown there books. books.0) leads)

    pub next_ends : (told : Replied) → Leads state old new (BooksFrom new written_or_passed (Ok (outcome.Ended told))) → Carries state old new commands.Next (Ok told)
    next_ends told leads =
        next_over told
        (leads_as state old new (BooksFrom new written_or_passed (Ok (outcome.Ended told))) (λ m now. ComesTo (written_or_passed false m.machine) (replies_of (table_of new) new.job told) None m now)
        (λ m now shown there books. books false) leads)

    pub next_left : (e end : NoMemory) → Leads state old new (BooksFrom new written_or_passed (Err e)) → Carries state old new commands.Next (Err end)
    next_left e end leads =
        carried_in_part state old new commands.Next end
        (leads_as state old new (BooksFrom new written_or_passed (Err e)) (λ m now. IsLeft (begun m commands.Next) now)
        (λ m now shown there left. left_on (First commands.Next) (written_or_passed false m.machine) [] m m (next_begins m shown) now (left false)) leads)

-- ---- the register or the holder is down

row_stops : (register node : Bool) (d e : DiskName) → down_of register node d ≡ Some e → (before now : Counts) (m : Machine) (rest : Row replies.Reply Machine)
    → Gives before now (λ (x : DiskName). replies.Told (world.Failed x)) m (Unless (refused (when (not register) (refusals.Down disk.Duty))) (Unless (refused (when (not node) (refusals.Down d))) rest))
    (replies.Told (world.Refused (refusals.Down e))) m
row_stops false node d e is before now m rest = inl (ap (λ (x : DiskName). Some (replies.Told (world.Refused (refusals.Down x)))) (some_is disk.Duty e is), refl)
row_stops true false d e is before now m rest = inr (refl, inl (ap (λ (x : DiskName). Some (replies.Told (world.Refused (refusals.Down x)))) (some_is d e is), refl))
row_stops true true d e is before now m rest = absurd (none_some e is)

pub replied_is : (out : Replied) (left : Option LeftBehind) (last : Reply) → out.left ≡ left → out.last ≡ last → out ≡ record { left = left; last = last }
replied_is out left last left_is last_is = λ i. record { left = left_is i; last = last_is i }

module _ {D : Type 0} (state : D → DiskState) (old : Desk D) (f : PairFault) (row : pair_rows.held_refusal old.pair ≡ Some f) (out : Replied) (out_is : out ≡ record { left = None; last = reply.Refused (refusal.Pair f) }) where
  abbrev own : NodeName
  own = pair_rows.holder old.pair

  down : (e : DiskName) × (f ≡ faults.Down e) × (down_of (is_up old.pair) (is_node_up old.pair own) (disk_of own) ≡ Some e)
  down = elim (row_case (is_up old.pair) (is_node_up old.pair own) (disk_of own) [] f row) [
    | inl is ↦ is
    | inr is ↦ absurd (none_some f is.1)
  ]

  stops : (command : commands.Command) (rest : Machine → Row replies.Reply Machine) → ((m : Machine) → row_of true m (First command) ≡ held m (rest m))
      → ((m : Machine) (r : Refusal) → Ends (First command) m (replies.Told (world.Refused r))) → Carries state old old command (Ok out)
  stops command rest row_is ends =
      let said : replies.Reply = replies.Told (world.Refused (refusals.Down down.0)) in
      subst (λ (x : Replied). Carries state old old command (Ok x)) (sym out_is)
      (subst (λ (x : PairFault). Carries state old old command (Ok (record { left = None; last = reply.Refused (refusal.Pair x) }))) (sym down.1)
      (carried state old old command (record { left = None; last = reply.Refused (refusal.Pair (faults.Down down.0)) })
      (λ m shown lawful. (m, shown, lawful, comes_by (First command) said (said ∷ []) None m m (true, record { gives = gives m shown; counts = no_fall m }) (ends m.machine (refusals.Down down.0)).0 (ends m.machine (refusals.Down down.0)).1))))
    where
      off : (m : Moment) → ShowsMachine state old m → down_of m.machine.world.register_up (node_at m.machine.world.base.nodes (holder_of m.machine)).up (disk_of (holder_of m.machine)) ≡ Some down.0
      off m shown =
          let register : m.machine.world.register_up ≡ is_up old.pair = shown.world.register_up in
          let node : (node_at m.machine.world.base.nodes (holder_of m.machine)).up ≡ is_node_up old.pair own =
          ap (λ (d : Duty). (node_at m.machine.world.base.nodes d.holder).up) (sym shown.world.duty) ∙ (shown.world.nodes own).up in
          (λ i. down_of (register i) (node i) (disk_of ((sym shown.world.duty) i).holder)) ∙ down.2

      gives : (m : Moment) → ShowsMachine state old m → Gives m.counts m.counts (λ (x : DiskName). replies.Told (world.Failed x)) m.machine (row_of true m.machine (First command)) (replies.Told (world.Refused (refusals.Down down.0))) m.machine
      gives m shown =
          subst (λ (r : Row replies.Reply Machine). Gives m.counts m.counts (λ (x : DiskName). replies.Told (world.Failed x)) m.machine r (replies.Told (world.Refused (refusals.Down down.0))) m.machine) (sym (row_is m.machine))
          (row_stops m.machine.world.register_up (node_at m.machine.world.base.nodes (holder_of m.machine)).up (disk_of (holder_of m.machine)) down.0 (off m shown) m.counts m.counts m.machine (rest m.machine))

  pub next_stops : Carries state old old commands.Next (Ok out)
  unfolding row_of
  next_stops = stops commands.Next (λ m. found_row m false m.job (Success (replies.Told world.Ready) m)) row_is (λ m r. (refl, refl))
    where
      row_is : (m : Machine) → row_of true m (First commands.Next) ≡ held m (found_row m false m.job (Success (replies.Told world.Ready) m))
      row_is m = refl

  pub batch_stops : Carries state old old commands.Batch (Ok out)
  unfolding row_of
  batch_stops = stops commands.Batch (λ m. found_row m true m.job (Success (replies.Told world.Ready) m)) row_is (λ m r. (refl, refl))
    where
      row_is : (m : Machine) → row_of true m (First commands.Batch) ≡ held m (found_row m true m.job (Success (replies.Told world.Ready) m))
      row_is m = refl

  pub next_stopped : (before now : Counts) → IsSwitched before now (switches_of old) commands.Next (replies_of (table_of old) old.job out) (switches_of old)
  next_stopped before now =
      subst (λ (x : Replied). IsSwitched before now (switches_of old) commands.Next (replies_of (table_of old) old.job x) (switches_of old)) (sym out_is)
      (row_refused old own [] f row tt before now commands.Next refl refl)

  pub batch_stopped : (before now : Counts) → IsSwitched before now (switches_of old) commands.Batch (replies_of (table_of old) old.job out) (switches_of old)
  batch_stopped before now =
      subst (λ (x : Replied). IsSwitched before now (switches_of old) commands.Batch (replies_of (table_of old) old.job x) (switches_of old)) (sym out_is)
      (row_refused old own [] f row tt before now commands.Batch refl refl)

-- ---- an entry of `BATCH`

module _ {D : Type 0} (state : D → DiskState) (old new : Desk D) where
  -- the job is complete, or its table is not ready
  pub found_ends : (told : Reply) → Leads state old new (IsFound (part_told new (Ok (Some told)))) → (out : Replied) → out ≡ record { left = None; last = told } → Leads state old new (IsBatched new (Ok (Over out)))
  found_ends told leads out out_is =
      let last = reply_of (table_of new) new.job told in
      subst (λ (x : Replied). Leads state old new (IsBatched new (Ok (Over x)))) (sym out_is)
      (leads_as state old new (IsFound (Ok (Some last))) (IsBatched new (Ok (Over (record { left = None; last = told }))))
      (λ m now shown there found.
      let ends = found_over now.machine last found.1 in
      comes_by (First commands.Batch) last (last ∷ []) None m now (true, found.0) ends.0 ends.1)
      leads)
    where
      found_over : (m : Machine) (said : replies.Reply) → (said ≡ replies.Told world.Ready → ⊥) → Ends (First commands.Batch) m said
      found_over m (replies.Told world.Ready) not_ready = absurd (not_ready refl)
      found_over m said not_ready = (refl, refl)

  pub found_left : (e end : NoMemory) → Leads state old new (IsFound (part_told new (Err e))) → Leads state old new (IsBatched new (Err end))
  found_left e end leads =
      leads_as state old new (IsFound (Err e)) (IsBatched new (Err end)) (λ m now shown there stays. left_by (First commands.Batch) m now stays) leads

module _ {D : Type 0} (state : D → DiskState) (old mid new : Desk D) (found : Leads state old mid (IsFound (part_told mid (Ok None)))) where
  batch_begins : (m between : Moment) → IsFound (Ok None) m between → ComesTo (First commands.Batch) [] (Some (written_or_passed true between.machine)) m between
  batch_begins m between is = comes_by (First commands.Batch) (replies.Told world.Ready) [] (Some (written_or_passed true between.machine)) m between (true, is.1) refl refl

  pub entry_booked : (told : Replied) → Leads state mid new (BooksFrom new written_or_passed (Ok (outcome.Booked told))) → Leads state old new (IsBatched new (Ok (On told.left)))
  entry_booked told =
      leads_on state old new mid (IsFound (Ok None)) (BooksFrom new written_or_passed (Ok (outcome.Booked told))) (IsBatched new (Ok (On told.left)))
      (λ m between now shown there here is books.
      comes_on (First commands.Batch) (written_or_passed true between.machine) [] m between (batch_begins m between is) (left_replies told.left) (Some (First commands.Batch)) now books.1)
      found

  pub entry_ends : (told : Replied) → Leads state mid new (BooksFrom new written_or_passed (Ok (outcome.Ended told))) → Leads state old new (IsBatched new (Ok (Over told)))
  entry_ends told =
      leads_on state old new mid (IsFound (Ok None)) (BooksFrom new written_or_passed (Ok (outcome.Ended told))) (IsBatched new (Ok (Over told)))
      (λ m between now shown there here is books.
      comes_on (First commands.Batch) (written_or_passed true between.machine) [] m between (batch_begins m between is) (replies_of (table_of new) new.job told) None now (books true))
      found

  pub entry_left : (e end : NoMemory) → Leads state mid new (BooksFrom new written_or_passed (Err e)) → Leads state old new (IsBatched new (Err end))
  entry_left e end =
      leads_on state old new mid (IsFound (Ok None)) (BooksFrom new written_or_passed (Err e)) (IsBatched new (Err end))
      (λ m between now shown there here is books.
      left_on (First commands.Batch) (written_or_passed true between.machine) [] m between (batch_begins m between is) now (books true))
      found

-- ---- entry after entry

-- what was told so far, and that the command begins again
abbrev pub HasBatched : {D : Type 0} → (D → DiskState) → Desk D → Desk D → Option LeftBehind → Type 0
HasBatched state old new left = Leads state old new (ComesTo (First commands.Batch) (left_replies left) (Some (First commands.Batch)))

pub batch_from : {D : Type 0} (state : D → DiskState) (desk : Desk D) → HasBatched state desk desk None
batch_from state desk m shown lawful = (m, shown, lawful, (0, refl))

-- of two that may have been left behind at most one was
abbrev pub OneLeft : Option LeftBehind → Option LeftBehind → Type 0
OneLeft first second = first ≢ None → second ≡ None

pub one_left : (first second : Option LeftBehind) → OneLeft first second → left_replies first ++ left_replies second ≡ left_replies (option_or first second)
one_left None second one = refl
one_left (Some left) second one = ap (λ (o : Option LeftBehind). left_replies (Some left) ++ left_replies o) (one (λ e. absurd (cc))) ∙ append-nil (left_replies (Some left))

module _ {D : Type 0} (state : D → DiskState) (old mid new : Desk D) (left : Option LeftBehind) (first : HasBatched state old mid left) where
  pub batch_on : (now : Option LeftBehind) → OneLeft left now → Leads state mid new (IsBatched new (Ok (On now))) → HasBatched state old new (option_or left now)
  batch_on second one =
      leads_on state old new mid (ComesTo (First commands.Batch) (left_replies left) (Some (First commands.Batch))) (IsBatched new (Ok (On second)))
      (ComesTo (First commands.Batch) (left_replies (option_or left second)) (Some (First commands.Batch)))
      (λ m between now shown there last come entry.
      subst (λ (said : List replies.Reply). ComesTo (First commands.Batch) said (Some (First commands.Batch)) m now) (one_left left second one)
      (comes_on (First commands.Batch) (First commands.Batch) (left_replies left) m between come (left_replies second) (Some (First commands.Batch)) now entry))
      first

  pub batch_ends : (told : Replied) → OneLeft left told.left → Leads state mid new (IsBatched new (Ok (Over told))) → (out : Replied) → out ≡ record { left = option_or left told.left; last = told.last }
      → Carries state old new commands.Batch (Ok out)
  batch_ends told one leads out out_is =
      let said = reply_of (table_of new) new.job told.last in
      carried state old new commands.Batch out
      (subst (λ (x : Replied). Leads state old new (ComesTo (First commands.Batch) (replies_of (table_of new) new.job x) None)) (sym out_is)
      (leads_on state old new mid (ComesTo (First commands.Batch) (left_replies left) (Some (First commands.Batch))) (IsBatched new (Ok (Over told)))
      (ComesTo (First commands.Batch) (left_replies (option_or left told.left) ++ said ∷ []) None)
      (λ m between now shown there last come entry.
      subst (λ (said : List replies.Reply). ComesTo (First commands.Batch) said None m now) (sym (append_assoc (left_replies left) (left_replies told.left) (said ∷ [])) ∙ ap (λ (l : List replies.Reply). l ++ said ∷ []) (one_left left told.left one))
      (comes_on (First commands.Batch) (First commands.Batch) (left_replies left) m between come (replies_of (table_of new) new.job told) None now entry))
      first leads))

  pub batch_left : (e end : NoMemory) → Leads state mid new (IsBatched new (Err e)) → Carries state old new commands.Batch (Err end)
  batch_left e end leads =
      carried_in_part state old new commands.Batch end
      (leads_on state old new mid (ComesTo (First commands.Batch) (left_replies left) (Some (First commands.Batch))) (IsBatched new (Err e)) (λ m now. IsLeft (begun m commands.Batch) now)
      (λ m between now shown there last come entry. left_on (First commands.Batch) (First commands.Batch) (left_replies left) m between come now entry)
      first leads)
