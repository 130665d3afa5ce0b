-- What a pass switches over any disks, and what the loss of the other node does, after which the holder is alone.
use Rattle.std.proofs.Common.{◌≡◌, inl, inr, ℕ, suc, ◌+◌, ◌<◌, Bool, true, false, not, nat_lt, nat_le, List, [], ◌∷◌, ◌++◌, map, refl, ap, sym, ◌∙◌, subst, arith, Option, Some, None, Result, Ok, Err}
use Rattle.std.proofs.lemmas.Bool.Decides.{nat_tests}
use Rattle.std.proofs.lemmas.List.Elements.{All-cons, All-nil}
use Rattle.ali_base.specs.Duties.{next_duty}
use Rattle.ali_base.specs.Steps.{when}
use Rattle.ali_base.specs.declared.duty.Duty.{Duty}
use Rattle.ali_base.specs.declared.duty.Mode.TheVariants.{Alone}
use Rattle.ali_base.specs.declared.names.DiskName.{DiskName}
use Rattle.ali_base.specs.declared.names.DiskName.TheVariants as disk
use Rattle.ali_base.specs.declared.names.NodeName.{NodeName}
use Rattle.ali_base.specs.declared.names.NodeName.TheVariants.{A, B}
use Rattle.ali_base.specs.declared.no_memory.NoMemory.{NoMemory}
use Rattle.command_machine.specs.Courses.{is_disk_of}
use Rattle.command_machine.specs.Replies as replies
use Rattle.command_machine.specs.Switches.{Switches, After, HasFailed, is_on, switched}
use Rattle.command_desk.specs.DeskSteps.{IsPlainly, IsUnderway, GoesOn, IsOver, AloneSwitches, TurnSwitches, lost_by}
use Rattle.command_desk.specs.MadeReply.{counts_at, fault_reply, holder_of, left_replies, receiver_of, reply_of, switches_of, table_of}
use Rattle.command_desk.specs.declared.desk.Desk.{Desk}
use Rattle.command_desk.specs.declared.reply.LeftBehind.{LeftBehind}
use Rattle.command_desk.specs.declared.reply.Replied.{Replied}
use Rattle.command_desk.specs.declared.reply.Reply.{Reply}
use Rattle.command_desk.specs.declared.writing.Turn.{Turn}
use Rattle.command_desk.specs.declared.writing.Turn.TheVariants.{On, Over}
use Rattle.command_desk.proofs.Leading.{RefusedSo}
use Rattle.command_desk.proofs.Switching.{first_quiet, quiet, quiet_when, unless_case}
use Rattle.command_desk.proofs.Underway.{IsFront, held_by, held_up, quiet_goes_on, underway_alone, underway_on}
use Rattle.crash_disk.specs.DiskState.{DiskState}
use Rattle.office_commands.specs.Commands as commands
use Rattle.pair_core.specs.Pair.{count_of, duty_of, is_node_up, is_up, len_of, sent_of}
use Rattle.pair_core.specs.PairAnswers.{ChangeRest, KeepsNodes, PassCauses, PassKeeps, PassRest, may_pass, SameNode, Unless}
use Rattle.pair_core.specs.PairRefusals as rows
use Rattle.pair_core.specs.PairRefusals.{first_of}
use Rattle.pair_core.specs.declared.faults.PairFault.{PairFault}
use Rattle.pair_core.specs.declared.faults.PairFault.TheVariants as fault
use Rattle.pair_core.specs.declared.pair.Pair.{Pair}
use Rattle.pair_node.specs.declared.message.Delivered.{Delivered}
use Rattle.pair_world.specs.Refusals.{Down, Up, disk_of}
use Rattle.pair_world.specs.World.{other}
use Rattle.pair_world.proofs.Items.{none_some}
use Rattle.world_rows.specs.Counts.{NeverFall}
use Rattle.world_rows.specs.Told as world

-- ---- nodes and their disks

own_disk : (n : NodeName) → is_disk_of n (disk_of n) ≡ true
own_disk A = refl
own_disk B = refl

other_disk : (n : NodeName) → is_disk_of (other n) (disk_of n) ≡ false
other_disk A = refl
other_disk B = refl

disk_is : (n : NodeName) (d : DiskName) → is_disk_of n d ≡ true → d ≡ disk_of n
disk_is A disk.A is = refl
disk_is A disk.B is = absurd (cc)
disk_is A disk.Duty is = absurd (cc)
disk_is B disk.A is = absurd (cc)
disk_is B disk.B is = refl
disk_is B disk.Duty is = absurd (cc)

apart : (n : NodeName) → disk_of (other n) ≡ disk_of n → ⊥
apart A is = absurd (cc)
apart B is = absurd (cc)

other_twice : (n : NodeName) → other (other n) ≡ n
other_twice A = refl
other_twice B = refl

each_node : (P : NodeName → Type 0) (n : NodeName) → P n → P (other n) → (k : NodeName) → P k
each_node P A own mirror A = own
each_node P A own mirror B = mirror
each_node P B own mirror A = mirror
each_node P B own mirror B = own

false_true : {P : Type 0} (b : Bool) → b ≡ true → b ≡ false → P
false_true b is not = absurd (cc)

-- ---- what the desk's switches are after a call

module _ {D : Type 0} (old new : Desk D) (register : is_up new.pair ≡ is_up old.pair) (duty : duty_of new.pair ≡ duty_of old.pair) (sent : sent_of new.pair ≡ sent_of old.pair) where
  -- both nodes are as they were
  pub same_switches : ((k : NodeName) → is_node_up new.pair k ≡ is_node_up old.pair k) → switches_of new ≡ switches_of old
  same_switches nodes = λ i. record {
    register = register i;
    a = nodes A i;
    b = nodes B i;
    holder = (duty i).holder;
    mode = (duty i).mode;
    receivers = map receiver_of (sent i);
  }

  -- one went down
  pub down_switches : (k : NodeName) → is_node_up new.pair k ≡ false → is_node_up new.pair (other k) ≡ is_node_up old.pair (other k) → switches_of new ≡ switched (switches_of old) (disk_of k) false
  down_switches A down stays = λ i. record {
    register = register i;
    a = down i;
    b = stays i;
    holder = (duty i).holder;
    mode = (duty i).mode;
    receivers = map receiver_of (sent i);
  }
  down_switches B down stays = λ i. record {
    register = register i;
    a = stays i;
    b = down i;
    holder = (duty i).holder;
    mode = (duty i).mode;
    receivers = map receiver_of (sent i);
  }

node_on : {D : Type 0} (desk : Desk D) (k : NodeName) → is_on (switches_of desk) (disk_of k) ≡ is_node_up desk.pair k
node_on desk A = refl
node_on desk B = refl

-- The other node is lost in a pass; the register and the holder stay up.
pub record IsLost {D : Type 0} (state : D → DiskState) (old new : Desk D) (f : PairFault) : Type 0 where
  pub front : IsFront state old new (fault_reply f ∷ [])
  pub held : rows.held_refusal new.pair ≡ None
  pub duty : duty_of new.pair ≡ duty_of old.pair
  pub count : count_of new.pair ≡ count_of old.pair

-- ---- a pass

module _ {D : Type 0} (state : D → DiskState) (old : Desk D) (held : rows.held_refusal old.pair ≡ None) (pending : rows.no_flight old.pair ≡ None) (k : ℕ) (is : k ≡ count_of old.pair + 1) where
  abbrev own : NodeName
  own = rows.holder old.pair

  -- an entry is pending
  flight : count_of old.pair < len_of old.pair own
  flight = by_test (nat_le (len_of old.pair own) (count_of old.pair)) refl pending
    where
      by_test : (b : Bool) → nat_le (len_of old.pair own) (count_of old.pair) ≡ b → when b fault.NoFlight ≡ None → count_of old.pair < len_of old.pair own
      by_test true same none = absurd (none_some fault.NoFlight (sym none))
      by_test false same none = grind (arith, nat_tests)

  -- so it may be passed on
  not_refused : rows.shipping_refusal old.pair k ≡ None
  not_refused =
      let up = held_up old held in
      λ i. first_of (when (not (up.0 i)) (fault.Down disk.Duty) ∷ when (not (up.1 i)) (fault.Down (disk_of own)) ∷ when (there i) (fault.NoEntry k (len_of old.pair own)) ∷ [])
    where
      there : nat_lt (suc (len_of old.pair own)) k ≡ false
      there = let less = flight in grind (arith, nat_tests)

  module _ (new : Desk D) (result : Result Delivered PairFault) (causes : PassCauses state old.pair new.pair k result) where
    pub pass_rest : PassRest state old.pair new.pair own k result
    pass_rest = subst (λ (o : Option PairFault). Unless o old.pair new.pair result (PassRest state old.pair new.pair own k result)) not_refused causes

  -- it went well
  pub pass_goes_on : (new : Desk D) (it : Delivered) → PassCauses state old.pair new.pair k (Ok it) → PassKeeps old.pair new.pair {T = Delivered} (Ok it) → GoesOn state old new None
  pass_goes_on new it causes keeps =
      let rest = pass_rest new (Ok it) causes in
      let course = rest.2 in
      let same = same_switches old new course.2 course.1 keeps.0 (each_node (SameNode old.pair new.pair) own (rest.0.1 ∙ sym rest.0.0) (rest.1.1 ∙ sym rest.1.0)) in
      quiet_goes_on state old new same
      (held_by new (course.2 ∙ (held_up old held).0) (ap (λ (d : Duty). is_node_up new.pair d.holder) course.1 ∙ rest.0.1))

  pub pass_fresh : (new : Desk D) (it : Delivered) → PassCauses state old.pair new.pair k (Ok it) → may_pass it ≡ true
  pass_fresh new it causes = (pass_rest new (Ok it) causes).3.fresh

  -- by this fault the other node is not lost
  pub pass_over : (new : Desk D) (f : PairFault) → lost_by (other (holder_of new)) f ≡ false → PassCauses state old.pair new.pair k (Err f) → PassKeeps old.pair new.pair {T = Delivered} (Err f) → IsPlainly state old new (fault_reply f)
  pass_over new f lost causes keeps = by_fault f lost (pass_rest new (Err f) causes) keeps
    where
      by_fault : (f : PairFault) → lost_by (other (holder_of new)) f ≡ false → PassRest state old.pair new.pair own k (Err f) → PassKeeps old.pair new.pair {T = Delivered} (Err f) → IsPlainly state old new (fault_reply f)
      by_fault (fault.Down d) lost rest keeps =
          false_true (is_disk_of (other (holder_of new)) d) (ap (λ (x : DiskName). is_disk_of (other (holder_of new)) x) rest.0 ∙ ap (λ (x : Duty). is_disk_of (other x.holder) (disk_of (other own))) rest.3.1 ∙ own_disk (other own)) lost
      by_fault (fault.Fault d) lost rest keeps = elim rest.0 [
        | inl holder ↦ record {
          plain = tt;
          failed = rest.1;
          after =
              subst (λ (x : DiskName). switches_of new ≡ switched (switches_of old) x false) (sym holder.0)
              (down_switches old new rest.2.2 rest.2.1 keeps.0 own holder.1.1 (keeps.1 (other own) (λ e. apart own (e ∙ holder.0))));
        }
        | inr mirror ↦ false_true (is_disk_of (other (holder_of new)) d) (ap (λ (x : DiskName). is_disk_of (other (holder_of new)) x) mirror.0 ∙ ap (λ (x : Duty). is_disk_of (other x.holder) (disk_of (other own))) rest.2.1 ∙ own_disk (other own)) lost
      ]
      by_fault (fault.Damaged d frame) lost rest keeps = record {
        plain = tt;
        failed = tt;
        after =
            subst (λ (x : DiskName). switches_of new ≡ switched (switches_of old) x false) (sym rest.0)
            (down_switches old new rest.4.2 rest.4.1 keeps.0 own rest.1.1 (keeps.1 (other own) (λ e. apart own (e ∙ rest.0))));
      }
      by_fault f lost rest keeps = absurd rest

  -- by this one it is
  pub pass_lost : (new : Desk D) (f : PairFault) → lost_by (other (holder_of new)) f ≡ true → PassCauses state old.pair new.pair k (Err f) → PassKeeps old.pair new.pair {T = Delivered} (Err f) → IsLost state old new f
  pass_lost new f lost causes keeps = by_fault f lost (pass_rest new (Err f) causes) keeps
    where
      still_held : is_up new.pair ≡ is_up old.pair → duty_of new.pair ≡ duty_of old.pair → is_node_up new.pair own ≡ true → rows.held_refusal new.pair ≡ None
      still_held register duty up = held_by new (register ∙ (held_up old held).0) (ap (λ (d : Duty). is_node_up new.pair d.holder) duty ∙ up)

      first_told : (a : replies.Reply) (d : DiskName) (more : List replies.Reply) → a ∷ [] ≡ replies.Told (world.Refused (Down d)) ∷ more → a ≡ replies.Told (world.Refused (Down d))
      first_told a d more is = cc

      up_told : (a : replies.Reply) (d : DiskName) (more : List replies.Reply) → a ∷ [] ≡ replies.Told (world.Refused (Up d)) ∷ more → a ≡ replies.Told (world.Refused (Up d))
      up_told a d more is = cc

      down_same : (a b : DiskName) → replies.Told (world.Refused (Down a)) ≡ replies.Told (world.Refused (Down b)) → b ≡ a
      down_same a b is = cc

      by_fault : (f : PairFault) → lost_by (other (holder_of new)) f ≡ true → PassRest state old.pair new.pair own k (Err f) → PassKeeps old.pair new.pair {T = Delivered} (Err f) → IsLost state old new f
      by_fault (fault.Down d) lost rest keeps =
          let course = rest.3 in
          let same = same_switches old new course.2 course.1 keeps.0 (each_node (SameNode old.pair new.pair) own (rest.1.1 ∙ sym rest.1.0) (rest.2.1 ∙ sym rest.2.0)) in
          record {
            front = record {
              failed = All-cons (HasFailed (counts_at state old) (counts_at state new)) _ [] tt (All-nil (HasFailed (counts_at state old) (counts_at state new)));
              after = (switches_of new, same, refl);
              first =
                  λ e more told.
                  let e_is : e ≡ disk_of (other own) = down_same d e (first_told _ e more told) ∙ rest.0 in
                  (e_is, ap (λ (x : DiskName). is_on (switches_of old) x) e_is ∙ node_on old (other own) ∙ rest.2.0);
              up = λ e more told. absurd (let no = up_told (replies.Told (world.Refused (Down d))) e more told in cc);
            };
            held = still_held course.2 course.1 rest.1.1;
            duty = course.1;
            count = course.0;
          }
      by_fault (fault.Fault d) lost rest keeps = elim rest.0 [
        | inl holder ↦ false_true (is_disk_of (other (holder_of new)) d) lost (ap (λ (x : DiskName). is_disk_of (other (holder_of new)) x) holder.0 ∙ ap (λ (x : Duty). is_disk_of (other x.holder) (disk_of own)) rest.2.1 ∙ other_disk own)
        | inr mirror ↦ (
            let course = rest.2 in
            let own_stays = keeps.1 own (λ e. apart own (sym mirror.0 ∙ sym e)) in
            let own_up : is_node_up new.pair own ≡ true = own_stays ∙ (held_up old held).1 in
            record {
              front = record {
                failed = All-cons (HasFailed (counts_at state old) (counts_at state new)) (replies.Told (world.Failed d)) [] rest.1 (All-nil (HasFailed (counts_at state old) (counts_at state new)));
                after = (
                  switches_of new,
                  subst (λ (x : DiskName). switches_of new ≡ switched (switches_of old) x false) (sym mirror.0)
                      (down_switches old new course.2 course.1 keeps.0 (other own) mirror.1.1 (subst (λ (n : NodeName). is_node_up new.pair n ≡ is_node_up old.pair n) (sym (other_twice own)) own_stays)),
                  refl,
                );
                first = λ e more told. absurd (let no = first_told (replies.Told (world.Failed d)) e more told in cc);
                up = λ e more told. absurd (let no = up_told (replies.Told (world.Failed d)) e more told in cc);
              };
              held = still_held course.2 course.1 own_up;
              duty = course.1;
              count = course.0;
            })
      ]
      by_fault (fault.Damaged d frame) lost rest keeps = absurd (cc)
      by_fault f lost rest keeps = absurd rest

-- ---- the holder goes on alone

module _ {D : Type 0} (state : D → DiskState) (old new : Desk D) (held : rows.held_refusal old.pair ≡ None) (keeps : KeepsNodes old.pair new.pair) (lost : PairFault) where
  abbrev pub alone_duty : Duty
  alone_duty = next_duty (duty_of old.pair) (rows.holder old.pair) Alone (count_of old.pair)

  changed : (duty : Duty) → ChangeRest state old.pair new.pair alone_duty (Ok duty) → AloneSwitches state old new lost (Ok (On (Some (record { fault = lost; duty = Some duty }))))
  changed duty rest =
      let up = held_up old held in
      let same : duty_of new.pair ≡ duty = rest.1 ∙ sym rest.0 in (
        duty,
        refl,
        ap (λ (d : Duty). d.mode) rest.0,
        record {
          plain = tt;
          failed = tt;
          after = λ i. record {
            register = (rest.3 ∙ sym up.0) i;
            a = keeps.0 A i;
            b = keeps.0 B i;
            holder = (same i).holder;
            mode = (same i).mode;
            receivers = map receiver_of (keeps.1 i);
          };
        },
        held_by new rest.3 (ap (λ (d : Duty). is_node_up new.pair d.holder) rest.1 ∙ keeps.0 (rows.holder old.pair) ∙ up.1),
        rest.2,
      )

  pub went_alone : (duty : Duty) → Unless {T = Duty} (rows.take_refusal old.pair (rows.holder old.pair)) old.pair new.pair (Ok duty) (ChangeRest state old.pair new.pair alone_duty (Ok duty))
      → AloneSwitches state old new lost (Ok (On (Some (record { fault = lost; duty = Some duty }))))
  went_alone duty causes = elim (unless_case (rows.take_refusal old.pair (rows.holder old.pair)) old.pair new.pair (Ok duty) (ChangeRest state old.pair new.pair alone_duty (Ok duty)) causes) [
    | inl refused ↦ absurd (not_err refused.0 refused.2)
    | inr rest ↦ changed duty rest.1
  ]
    where
      not_err : (f : PairFault) → ◌≡◌ {A = Result Duty PairFault} (Ok duty) (Err f) → ⊥
      not_err f is = absurd (cc)

  -- it is refused, or the register's disk fails
  pub not_alone : (f : PairFault) (told : Reply) → RefusedSo f (Ok told)
      → Unless {T = Duty} (rows.take_refusal old.pair (rows.holder old.pair)) old.pair new.pair (Err f) (ChangeRest state old.pair new.pair alone_duty (Err f))
      → AloneSwitches state old new lost (Ok (Over (record { left = Some (record { fault = lost; duty = None }); last = told })))
  not_alone f told so causes =
      let plainly : IsPlainly state old new (fault_reply f) = elim (unless_case (rows.take_refusal old.pair (rows.holder old.pair)) old.pair new.pair (Err f) (ChangeRest state old.pair new.pair alone_duty (Err f)) causes) [
        | inl refused ↦ by_row refused.0 refused.1 (fault_is f refused.0 refused.2) refused.3
        | inr rest ↦ by_fault f rest.1
      ] in
      (refl, subst (λ (r : replies.Reply). IsPlainly state old new r) (sym (ap (reply_of (table_of new) new.job) so.0)) plainly)
    where
      fault_is : (f g : PairFault) → ◌≡◌ {A = Result Duty PairFault} (Err f) (Err g) → g ≡ f
      fault_is f g is = cc

      by_row : (g : PairFault) → rows.take_refusal old.pair (rows.holder old.pair) ≡ Some g → g ≡ f → new.pair ≡ old.pair → IsPlainly state old new (fault_reply f)
      by_row g row is same =
          let up = held_up old held in
          let rest : first_of (rows.not_paired old.pair ∷ rows.epoch_end old.pair ∷ []) ≡ Some g =
          sym (λ i. first_of (when (not (up.0 i)) (fault.Down disk.Duty) ∷ when (not (up.1 i)) (fault.Down (disk_of (rows.holder old.pair))) ∷ rows.not_paired old.pair ∷ rows.epoch_end old.pair ∷ [])) ∙ row in
          let q = quiet g (first_quiet (rows.not_paired old.pair ∷ rows.epoch_end old.pair ∷ []) (quiet_when _ _ tt, (quiet_when _ _ tt, tt)) g rest) in
          subst (λ (x : PairFault). IsPlainly state old new (fault_reply x)) is (record {
            plain = q.plain;
            failed = q.failed (counts_at state old) (counts_at state new);
            after =
                subst (λ (p : Pair D). After (switches_of old) commands.Next (fault_reply g) (switches_of (record { pair = p; job = new.job }))) (sym same)
                (q.after (switches_of old) commands.Next);
          })

      by_fault : (f : PairFault) → ChangeRest state old.pair new.pair alone_duty (Err f) → IsPlainly state old new (fault_reply f)
      by_fault (fault.Fault d) rest = record {
        plain = tt;
        failed = subst (λ (x : DiskName). HasFailed (counts_at state old) (counts_at state new) (replies.Told (world.Failed x))) (sym rest.0) rest.1;
        after =
            subst (λ (x : DiskName). switches_of new ≡ switched (switches_of old) x false) (sym rest.0) (λ i. record {
              register = rest.2 i;
              a = keeps.0 A i;
              b = keeps.0 B i;
              holder = (rest.3 i).holder;
              mode = (rest.3 i).mode;
              receivers = map receiver_of (keeps.1 i);
            });
      }
      by_fault f rest = absurd rest

-- ---- the loss of the other node, and what the holder does then

module _ {D : Type 0} (state : D → DiskState) (old mid new : Desk D) (f : PairFault) (both : (duty_of old.pair).mode ≡ Alone → ⊥) (lost : IsLost state old mid f)
    (low : NeverFall (counts_at state old) (counts_at state mid)) (high : NeverFall (counts_at state mid) (counts_at state new)) where
  pub turn_on : (left : Option LeftBehind) → AloneSwitches state mid new f (Ok (On left)) → GoesOn state old new left
  turn_on left alone =
      let duty = alone.0 in
      let told : replies.Reply = replies.Told (world.On_duty duty) in
      let all = underway_on state old mid new low high (fault_reply f ∷ []) told lost.front (underway_alone state mid new told alone.3) in
      subst (λ (l : Option LeftBehind). GoesOn state old new l) (sym alone.1) (record {
        failed = all.failed;
        after = all.after;
        first = λ d more is. ((all.left d more is).1, (all.left d more is).2);
        up = all.up;
        held = alone.4;
        alone = λ some. ap (λ (s : Switches). s.mode) alone.3.after ∙ alone.2;
        stays_alone = λ is. absurd (both is);
      })

  pub turn_over : (told : Replied) → AloneSwitches state mid new f (Ok (Over told)) → IsOver state old new told
  turn_over told alone =
      let last = reply_of (table_of new) new.job told.last in (
        subst (λ (l : Option LeftBehind). IsUnderway state old new (left_replies l ++ last ∷ [])) (sym alone.0)
            (underway_on state old mid new low high (fault_reply f ∷ []) last lost.front (underway_alone state mid new last alone.1)),
        λ is. absurd (both is),
      )

  pub turn_switches : (r : Result Turn NoMemory) → AloneSwitches state mid new f r → TurnSwitches state old new r
  turn_switches (Ok (On left)) alone = turn_on left alone
  turn_switches (Ok (Over told)) alone = turn_over told alone
  turn_switches (Err e) alone = tt
