-- The pending entry is passed on; where the other node is lost, the holder goes on alone; and it is booked: as events of `NEXT` and `BATCH`.
use Rattle.std.proofs.Common.{◌≡◌, ◌≢◌, ℕ, suc, ◌+◌, Bool, true, false, [], ◌∷◌, ◌++◌, length, refl, ap, sym, ◌∙◌, subst, arith, Option, Some, None, Result, Ok, Err, if◌then◌else◌}
use Rattle.ali_base.specs.declared.duty.Duty.{Duty}
use Rattle.ali_base.specs.declared.duty.Mode.TheVariants.{Alone}
use Rattle.ali_base.specs.declared.names.DiskName.{DiskName}
use Rattle.ali_base.specs.declared.names.NodeName.{NodeName}
use Rattle.ali_base.specs.declared.no_memory.NoMemory.{NoMemory}
use Rattle.command_machine.specs.CommandRows.{event_row}
use Rattle.command_machine.specs.Courses.{Event, Passes, Goes_alone, Books, row_of, then_comes, told_of, is_disk_of, passed_or_booked}
use Rattle.command_machine.specs.Machine.{Machine, Moment, mirror_of, office_bounds}
use Rattle.command_machine.specs.Replies as replies
use Rattle.command_desk.specs.DeskSteps.{Leads, EventDone, ComesTo, IsPassedOn, IsAloneNow, lost_by, told_in}
use Rattle.command_desk.specs.MadeReply.{ShowsMachine, fault_reply, holder_of as desk_holder, left_replies, reply_of, table_of}
use Rattle.command_desk.specs.declared.desk.Desk.{Desk}
use Rattle.command_desk.specs.declared.refusal.Refusal.TheVariants as refusal
use Rattle.command_desk.specs.declared.reply.LeftBehind.{LeftBehind}
use Rattle.command_desk.specs.declared.reply.Replied.{Replied}
use Rattle.command_desk.specs.declared.reply.Reply.{Reply}
use Rattle.command_desk.specs.declared.reply.Reply.TheVariants as reply
use Rattle.command_desk.specs.declared.writing.Turn.{Turn}
use Rattle.command_desk.specs.declared.writing.Turn.TheVariants.{On, Over}
use Rattle.command_desk.proofs.Leading.{CallRow, RefusedSo, event_leads, event_refused}
use Rattle.command_desk.proofs.Running.{comes_on, left_on, comes_by, left_by, comes_already, comes_from, left_from, passes_alike, goes_alike, comes_booking, comes_passing}
use Rattle.crash_disk.specs.DiskState.{DiskState}
use Rattle.office_state.specs.OfficeState.{office_limits}
use Rattle.pair_core.specs.Pair as pairs
use Rattle.pair_core.specs.Pair.{Does, IsCall, bounds_of, counts_of, duty_of}
use Rattle.pair_core.specs.PairAnswers.{fault_told, passed_told, may_pass}
use Rattle.pair_core.specs.PairPassing.{pass_row}
use Rattle.pair_core.specs.declared.faults.PairFault.{PairFault}
use Rattle.pair_core.specs.declared.faults.PairFault.TheVariants as faults
use Rattle.pair_node.specs.declared.message.Delivered.{Delivered}
use Rattle.pair_node.specs.declared.message.Delivered.TheVariants as delivered
use Rattle.pair_world.specs.World.{other}
use Rattle.world_rows.specs.Rows.{Gives}
use Rattle.world_rows.specs.Told as world
use Rattle.world_rows.specs.Told.{Told}
use Rattle.world_rows.specs.WorldRows as rows

-- ---- from what a part does

module _ {D : Type 0} (state : D → DiskState) (old new : Desk D) where
  -- to what it does besides
  pub leads_as : (P Q : Moment → Moment → Type 0) → ((m now : Moment) → ShowsMachine state old m → ShowsMachine state new now → P m now → Q m now) → Leads state old new P → Leads state old new Q
  leads_as P Q step leads m shown lawful =
      let one = leads m shown lawful in
      (one.0, one.1, one.2, step m one.0 shown one.1 one.3)

  -- to what two parts do
  pub leads_on : (mid : Desk D) (P Q R : Moment → Moment → Type 0)
      → ((m between now : Moment) → ShowsMachine state old m → ShowsMachine state mid between → ShowsMachine state new now → P m between → Q between now → R m now)
      → Leads state old mid P → Leads state mid new Q → Leads state old new R
  leads_on mid P Q R step first second m shown lawful =
      let one = first m shown lawful in
      let two = second one.0 one.1 one.2 in
      (two.0, two.1, two.2, step m one.0 two.0 shown one.1 two.1 one.3 two.3)

-- ---- replies to a pass

-- what goes well is not told
went_well : (it : Delivered) → may_pass it ≡ true → (batch : Bool) (m : Machine)
    → (told_of (Passes batch) m (replies.Told (passed_told it)) ≡ []) × (then_comes (Passes batch) m (replies.Told (passed_told it)) ≡ Some (Books batch))
went_well (delivered.Stale epoch known) fresh batch m = absurd (cc)
went_well (delivered.Acked ack) fresh batch m = absurd (cc)
went_well it fresh batch m = (refl, refl)

-- where the other node is lost, the holder goes on alone
without : (batch : Bool) (n : NodeName) (d : DiskName) (m : Machine) (b : Bool) → is_disk_of n d ≡ b → mirror_of m ≡ n
    → (if is_disk_of (mirror_of m) d then Some (Goes_alone batch) else None) ≡ (if b then Some (Goes_alone batch) else None)
without batch n d m b is mirror = ap (λ (x : Bool). if x then Some (Goes_alone batch) else None) (ap (λ (x : NodeName). is_disk_of x d) mirror ∙ is)

abbrev FaultTold : Bool → Machine → PairFault → Option Event → Type 0
FaultTold batch m fault next = (told_of (Passes batch) m (fault_reply fault) ≡ fault_reply fault ∷ []) × (then_comes (Passes batch) m (fault_reply fault) ≡ next)

lost_told : (n : NodeName) (fault : PairFault) (batch : Bool) (m : Machine) → lost_by n fault ≡ true → mirror_of m ≡ n → FaultTold batch m fault (Some (Goes_alone batch))
lost_told n (faults.Down d) batch m is mirror = (refl, without batch n d m true is mirror)
lost_told n (faults.Fault d) batch m is mirror = (refl, without batch n d m true is mirror)
lost_told n fault batch m is mirror = absurd (cc)

-- any other fault ends the command
kept_told : (n : NodeName) (fault : PairFault) (batch : Bool) (m : Machine) → lost_by n fault ≡ false → mirror_of m ≡ n → FaultTold batch m fault None
kept_told n (faults.Down d) batch m is mirror = (refl, without batch n d m false is mirror)
kept_told n (faults.Fault d) batch m is mirror = (refl, without batch n d m false is mirror)
kept_told n fault batch m is mirror = (refl, refl)

-- and so does a fault of the register
alone_told : (fault : PairFault) (batch : Bool) (m : Machine) → (told_of (Goes_alone batch) m (fault_reply fault) ≡ fault_reply fault ∷ []) × (then_comes (Goes_alone batch) m (fault_reply fault) ≡ None)
alone_told (faults.Down d) batch m = (refl, refl)
alone_told fault batch m = (refl, refl)

lost_no_memory : (n : NodeName) (fault : PairFault) → lost_by n fault ≡ true → fault ≢ faults.NoMemory
lost_no_memory n fault is none = absurd (cc)

-- ---- the pass

-- the row by which the pending entry is passed on, and that by which the holder goes on alone
abbrev pass_call : CallRow
pass_call bounds limits lasted w = pass_row limits w (suc (length w.base.booked))

abbrev alone_call : CallRow
alone_call bounds limits lasted w = rows.alone_row limits w bounds

pass_same : (lasted : Bool) (m : Machine) → row_of lasted m (Passes false) ≡ event_row m (pass_call office_bounds office_limits lasted m.world)
unfolding row_of
pass_same lasted m = refl

alone_same : (lasted : Bool) (m : Machine) → row_of lasted m (Goes_alone false) ≡ event_row m (alone_call office_bounds office_limits lasted m.world)
unfolding row_of
alone_same lasted m = refl

module _ {D : Type 0} (state : D → DiskState) (old new : Desk D) (call : IsCall state old.pair new.pair) (kept : new.job ≡ old.job) where
  -- the number that is passed on is the one after the booked entries
  pending_does : (k : ℕ) → k ≡ pairs.count_of old.pair + 1 → (t : Option Told) → Does state old.pair new.pair (λ limits lasted w. pass_row limits w k) t
      → Does state old.pair new.pair (pass_call (bounds_of old.pair)) t
  pending_does k is None does limits w shown lawful = does limits w shown lawful
  pending_does k is (Some t) does limits w shown lawful =
      let one = does limits w shown lawful in
      let same : k ≡ suc (length w.base.booked) = omega (arith, is, shown.count) in (
        one.0,
        one.1,
        (one.2.0, subst (λ (n : ℕ). Gives (counts_of state old.pair) (counts_of state new.pair) world.Failed w (pass_row limits w n) t one.0) same one.2.1),
      )

  module _ (k : ℕ) (is : k ≡ pairs.count_of old.pair + 1) (both : (duty_of old.pair).mode ≡ Alone → ⊥) where
    -- the machine passes it on too
    passing : (batch : Bool) (m : Moment) → ShowsMachine state old m → passed_or_booked batch m.machine ≡ Passes batch
    passing batch m shown = comes_passing batch m.machine (λ alone. both (ap (λ (d : Duty). d.mode) shown.world.duty ∙ alone))

    pub passed_well : (it : Delivered) → may_pass it ≡ true → Does state old.pair new.pair (λ limits lasted w. pass_row limits w k) (Some (passed_told it))
        → Leads state old new (IsPassedOn new (Ok (On None)))
    passed_well it fresh does =
        let told : replies.Reply = replies.Told (passed_told it) in
        leads_as state old new (EventDone (Passes false) (Ok told)) (IsPassedOn new (Ok (On None)))
        (λ m now shown there done batch.
        let well = went_well it fresh batch now.machine in
        comes_from (passed_or_booked batch m.machine) (Passes batch) [] (Some (Books batch)) m now (passing batch m shown)
        (comes_by (Passes batch) told [] (Some (Books batch)) m now (passes_alike (Ok told) m now batch done) well.0 well.1))
        (event_leads state old new call kept (Passes false) tt pass_call pass_same (passed_told it) (pending_does k is (Some (passed_told it)) does))

    -- the fault of a pass as it is told
    pub pass_refused : (fault : PairFault) (r : Result Reply NoMemory) → RefusedSo fault r → Does state old.pair new.pair (λ limits lasted w. pass_row limits w k) (fault_told fault)
        → Leads state old new (EventDone (Passes false) (told_in new r))
    pass_refused fault r so does = event_refused state old new call kept (Passes false) tt pass_call pass_same fault r so (pending_does k is (fault_told fault) does)

    -- one by which the other node is not lost ends the command
    pub pass_ends : (n : NodeName) → n ≡ other (desk_holder new) → (fault : PairFault) → lost_by n fault ≡ false → (told : Reply) → RefusedSo fault (Ok told)
        → Does state old.pair new.pair (λ limits lasted w. pass_row limits w k) (fault_told fault)
        → (out : Replied) → out ≡ record { left = None; last = told } → Leads state old new (IsPassedOn new (Ok (Over out)))
    pass_ends n at fault lost told so does out out_is =
        let said : replies.Reply = reply_of (table_of new) new.job told in
        let said_is : said ≡ fault_reply fault = ap (reply_of (table_of new) new.job) so.0 in
        subst (λ (x : Replied). Leads state old new (IsPassedOn new (Ok (Over x)))) (sym out_is)
        (leads_as state old new (EventDone (Passes false) (Ok said)) (IsPassedOn new (Ok (Over (record { left = None; last = told }))))
        (λ m now shown there done batch.
        let mirror : mirror_of now.machine ≡ n = ap (λ (d : Duty). other d.holder) (sym there.world.duty) ∙ sym at in
        let ends = subst (λ (r : replies.Reply). (told_of (Passes batch) now.machine r ≡ r ∷ []) × (then_comes (Passes batch) now.machine r ≡ None)) (sym said_is) (kept_told n fault batch now.machine lost mirror) in
        comes_from (passed_or_booked batch m.machine) (Passes batch) (said ∷ []) None m now (passing batch m shown)
        (comes_by (Passes batch) said (said ∷ []) None m now (passes_alike (Ok said) m now batch done) ends.0 ends.1))
        (pass_refused fault (Ok told) so does))

    -- it is left where memory runs out
    pub pass_left : (fault : PairFault) (e : NoMemory) → RefusedSo fault (Err e) → Does state old.pair new.pair (λ limits lasted w. pass_row limits w k) (fault_told fault)
        → (end : NoMemory) → Leads state old new (IsPassedOn new (Err end))
    pass_left fault e so does end =
        leads_as state old new (EventDone (Passes false) (Err e)) (IsPassedOn new (Err end))
        (λ m now shown there done batch. left_from (passed_or_booked batch m.machine) (Passes batch) m now (passing batch m shown) (left_by (Passes batch) m now done.1))
        (pass_refused fault (Err e) so does)

    -- one by which it is lost leaves it behind
    pub lost_leads : (n : NodeName) → n ≡ other (desk_holder new) → (fault : PairFault) → lost_by n fault ≡ true → Does state old.pair new.pair (λ limits lasted w. pass_row limits w k) (fault_told fault)
        → (last : Desk D) (r : Result Turn NoMemory) → Leads state new last (IsAloneNow last fault r) → Leads state old last (IsPassedOn last r)
    lost_leads n at fault lost does last r alone =
        leads_on state old last new (EventDone (Passes false) (Ok (fault_reply fault))) (IsAloneNow last fault r) (IsPassedOn last r) (by_turn r)
        (pass_refused fault (Ok (reply.Refused (refusal.Pair fault))) (refl, lost_no_memory n fault lost) does) alone
      where
        first : (m between : Moment) → ShowsMachine state old m → ShowsMachine state new between → EventDone (Passes false) (Ok (fault_reply fault)) m between → (batch : Bool)
            → ComesTo (passed_or_booked batch m.machine) (fault_reply fault ∷ []) (Some (Goes_alone batch)) m between
        first m between shown there done batch =
            let mirror : mirror_of between.machine ≡ n = ap (λ (d : Duty). other d.holder) (sym there.world.duty) ∙ sym at in
            let told = lost_told n fault batch between.machine lost mirror in
            comes_from (passed_or_booked batch m.machine) (Passes batch) (fault_reply fault ∷ []) (Some (Goes_alone batch)) m between (passing batch m shown)
            (comes_by (Passes batch) (fault_reply fault) (fault_reply fault ∷ []) (Some (Goes_alone batch)) m between (passes_alike (Ok (fault_reply fault)) m between batch done) told.0 told.1)

        by_turn : (r : Result Turn NoMemory) (m between now : Moment) → ShowsMachine state old m → ShowsMachine state new between → ShowsMachine state last now → EventDone (Passes false) (Ok (fault_reply fault)) m between
            → IsAloneNow last fault r between now → IsPassedOn last r m now
        by_turn (Ok (On left)) m between now shown there here done alone = λ batch.
            subst (λ (l : Option LeftBehind). ComesTo (passed_or_booked batch m.machine) (left_replies l) (Some (Books batch)) m now) (sym alone.1)
            (comes_on (passed_or_booked batch m.machine) (Goes_alone batch) (fault_reply fault ∷ []) m between (first m between shown there done batch) (replies.Told (world.On_duty alone.0) ∷ []) (Some (Books batch)) now (alone.2 batch))
        by_turn (Ok (Over told)) m between now shown there here done alone = λ batch.
            let said = reply_of (table_of last) last.job told.last in
            subst (λ (l : Option LeftBehind). ComesTo (passed_or_booked batch m.machine) (left_replies l ++ said ∷ []) None m now) (sym alone.0)
            (comes_on (passed_or_booked batch m.machine) (Goes_alone batch) (fault_reply fault ∷ []) m between (first m between shown there done batch) (said ∷ []) None now (alone.1 batch))
        by_turn (Err e) m between now shown there here done alone = λ batch.
            left_on (passed_or_booked batch m.machine) (Goes_alone batch) (fault_reply fault ∷ []) m between (first m between shown there done batch) now (alone batch)

  -- ---- the holder goes on alone

  pub went_alone : (lost : PairFault) (duty : Duty) → Does state old.pair new.pair (alone_call (bounds_of old.pair)) (Some (world.On_duty duty))
      → Leads state old new (IsAloneNow new lost (Ok (On (Some (record { fault = lost; duty = Some duty })))))
  went_alone lost duty does =
      let told : replies.Reply = replies.Told (world.On_duty duty) in
      leads_as state old new (EventDone (Goes_alone false) (Ok told)) (IsAloneNow new lost (Ok (On (Some (record { fault = lost; duty = Some duty })))))
      (λ m now shown there done. (duty, refl, λ batch. comes_by (Goes_alone batch) told (told ∷ []) (Some (Books batch)) m now (goes_alike (Ok told) m now batch done) refl refl))
      (event_leads state old new call kept (Goes_alone false) tt alone_call alone_same (world.On_duty duty) does)

  alone_refused : (fault : PairFault) (r : Result Reply NoMemory) → RefusedSo fault r → Does state old.pair new.pair (alone_call (bounds_of old.pair)) (fault_told fault)
      → Leads state old new (EventDone (Goes_alone false) (told_in new r))
  alone_refused = event_refused state old new call kept (Goes_alone false) tt alone_call alone_same

  pub alone_ends : (lost fault : PairFault) (told : Reply) → RefusedSo fault (Ok told) → Does state old.pair new.pair (alone_call (bounds_of old.pair)) (fault_told fault)
      → Leads state old new (IsAloneNow new lost (Ok (Over (record { left = Some (record { fault = lost; duty = None }); last = told }))))
  alone_ends lost fault told so does =
      let said : replies.Reply = reply_of (table_of new) new.job told in
      let said_is : said ≡ fault_reply fault = ap (reply_of (table_of new) new.job) so.0 in
      leads_as state old new (EventDone (Goes_alone false) (Ok said)) (IsAloneNow new lost (Ok (Over (record { left = Some (record { fault = lost; duty = None }); last = told }))))
      (λ m now shown there done. (
        refl,
        λ batch.
            let ends = subst (λ (r : replies.Reply). (told_of (Goes_alone batch) now.machine r ≡ r ∷ []) × (then_comes (Goes_alone batch) now.machine r ≡ None)) (sym said_is) (alone_told fault batch now.machine) in
            comes_by (Goes_alone batch) said (said ∷ []) None m now (goes_alike (Ok said) m now batch done) ends.0 ends.1,
      ))
      (alone_refused fault (Ok told) so does)

  pub alone_left : (lost fault : PairFault) (e : NoMemory) → RefusedSo fault (Err e) → Does state old.pair new.pair (alone_call (bounds_of old.pair)) (fault_told fault)
      → (end : NoMemory) → Leads state old new (IsAloneNow new lost (Err end))
  alone_left lost fault e so does end =
      leads_as state old new (EventDone (Goes_alone false) (Err e)) (IsAloneNow new lost (Err end)) (λ m now shown there done batch. left_by (Goes_alone batch) m now done.1) (alone_refused fault (Err e) so does)

-- in mode Alone nothing is passed on
pub passes_none : {D : Type 0} (state : D → DiskState) (desk : Desk D) → (duty_of desk.pair).mode ≡ Alone → Leads state desk desk (IsPassedOn desk (Ok (On None)))
passes_none state desk alone m shown lawful = (
  m,
  shown,
  lawful,
  λ batch. comes_already (passed_or_booked batch m.machine) (Books batch) m (comes_booking batch m.machine (ap (λ (d : Duty). d.mode) (sym shown.world.duty) ∙ alone)),
)
