-- What the orders switch, over any disks.
use Rattle.std.proofs.Common.{◌≡◌, ◌⊎◌, inl, inr, ℕ, zero, suc, ◌-◌, ◌<◌, ◌^◌, Bool, true, false, not, nat_lt, if◌then◌else◌, List, [], ◌∷◌, ◌++◌, map, slice_get, length, refl, ap, sym, ◌∙◌, subst, arith, Option, Some, None, option_map, Result, Ok, Err}
use Rattle.ali_base.specs.Steps.{when}
use Rattle.ali_base.specs.declared.duty.Duty.{Duty}
use Rattle.ali_base.specs.declared.duty.Mode.{Mode}
use Rattle.ali_base.specs.declared.names.DiskName.{DiskName}
use Rattle.ali_base.specs.declared.names.DiskName.TheVariants as disk
use Rattle.ali_base.specs.declared.names.NodeName.{NodeName}
use Rattle.ali_base.specs.declared.names.NodeName.TheVariants.{A, B}
use Rattle.ali_base.specs.declared.no_memory.NoMemory.{NoMemory}
use Rattle.command_machine.specs.Replies as replies
use Rattle.command_machine.specs.Switches.{Switches, After, HasFailed, IsSwitched, answered, first_off, found_up, is_on, needed_by, switched, with_node, with_receiver}
use Rattle.command_desk.specs.DeskSteps.{Advances, IsPlain}
use Rattle.command_desk.specs.MadeReply.{counts_at, fault_reply, only, receiver_of, reply_of, switches_of, table_of}
use Rattle.command_desk.specs.OpenedDesk.{Switched}
use Rattle.command_desk.specs.declared.desk.Desk.{Desk}
use Rattle.command_desk.specs.declared.reply.Reply.{Reply}
use Rattle.command_desk.proofs.Leading.{RefusedSo}
use Rattle.command_desk.proofs.Switching.{AreQuiet, down_of, is_down, is_found_up, none_first, or_some, plainly, quiet_when, row_none, row_passed, row_refused}
use Rattle.crash_disk.specs.DiskState.{DiskState}
use Rattle.office_commands.specs.Commands as commands
use Rattle.office_commands.specs.Commands.{Command}
use Rattle.office_commands.specs.declared.order.Order.TheVariants as order
use Rattle.pair_core.specs.Pair.{duty_of, is_node_up, is_up, sent_of}
use Rattle.pair_core.specs.PairAnswers.{BookCauses, BookRest, ChangeRest, DeliverCauses, DeliverKeeps, HearRest, IsAnswered, KeepsCourse, KeepsNodes, KeepsOther, KeepsTaker, LearningCauses, SameNode, SameSent, ShipCauses, ShipKeeps, ShipRest, StartCauses, StartDutyRest, StartRest, StatusCauses, StopCauses, StopRest, StoreRest, TakeRest, Unless, acked_told, delivered_told, heard, report_told, status_or}
use Rattle.pair_core.specs.PairRefusals as rows
use Rattle.pair_core.specs.PairRefusals.{first_of}
use Rattle.pair_core.specs.declared.faults.PairFault.{PairFault}
use Rattle.pair_core.specs.declared.faults.PairFault.TheVariants as fault
use Rattle.pair_core.specs.declared.pair.Pair.{Pair}
use Rattle.pair_core.specs.declared.pair.PairStatus.{PairStatus}
use Rattle.pair_core.specs.declared.pair_writes.Booked.{Booked}
use Rattle.pair_core.specs.declared.sent.Sent.{Sent}
use Rattle.pair_core.specs.declared.sent.Sent.TheVariants as sent
use Rattle.pair_core.specs.declared.starting.Started.{Started}
use Rattle.pair_node.specs.Messages.{ack_made}
use Rattle.pair_node.specs.declared.message.Ack.{Ack}
use Rattle.pair_node.specs.declared.message.Delivered.{Delivered}
use Rattle.pair_node.specs.declared.message.Delivered.TheVariants as delivered
use Rattle.pair_node.specs.declared.message.Message.{Message}
use Rattle.pair_world.specs.Refusals.{disk_of}
use Rattle.pair_world.specs.World.{is_node, other}
use Rattle.pair_world.proofs.Items.{none_some}
use Rattle.world_rows.specs.Counts.{RoseAt}
use Rattle.world_rows.specs.Told as world

-- ---- switches part by part

abbrev parts : Bool → Bool → Bool → NodeName → Mode → List NodeName → Switches
parts r a b h m l = record { register = r; a = a; b = b; holder = h; mode = m; receivers = l }

same_parts : (r q a c b d : Bool) (h i : NodeName) (m n : Mode) (l k : List NodeName)
    → r ≡ q → a ≡ c → b ≡ d → h ≡ i → m ≡ n → l ≡ k → parts r a b h m l ≡ parts q c d i n k
same_parts r q a c b d h i m n l k er ea eb eh em el =
    ap (λ x. parts x a b h m l) er ∙ ap (λ x. parts q x b h m l) ea ∙ ap (λ x. parts q c x h m l) eb
    ∙ ap (λ x. parts q c d x m l) eh ∙ ap (λ x. parts q c d i x l) em ∙ ap (λ x. parts q c d i n x) el

-- both nodes, by one and the other
pub each_node : {D : Type 0} (old new : Pair D) (n : NodeName) → SameNode old new n → SameNode old new (other n) → (k : NodeName) → SameNode old new k
each_node old new A one two A = one
each_node old new A one two B = two
each_node old new B one two A = two
each_node old new B one two B = one

module _ {D : Type 0} (old new : Desk D) where
  abbrev pub SameDuty : Type 0
  SameDuty = duty_of new.pair ≡ duty_of old.pair

  abbrev pub SameRegister : Type 0
  SameRegister = is_up new.pair ≡ is_up old.pair

  abbrev pub SameNodes : Type 0
  SameNodes = (k : NodeName) → SameNode old.pair new.pair k

  -- the node stays up
  pub up_still : (n : NodeName) → is_node_up old.pair n ≡ true → is_node_up new.pair n ≡ true → SameNode old.pair new.pair n
  up_still n was is = is ∙ sym was

  module _ (sent : SameSent old.pair new.pair) where
    receivers_same : map receiver_of (sent_of new.pair) ≡ map receiver_of (sent_of old.pair)
    receivers_same = ap (λ (l : List Sent). map receiver_of l) sent

    module _ (duty : SameDuty) where
      holder_same : (duty_of new.pair).holder ≡ (duty_of old.pair).holder
      holder_same = ap (λ (d : Duty). d.holder) duty

      mode_same : (duty_of new.pair).mode ≡ (duty_of old.pair).mode
      mode_same = ap (λ (d : Duty). d.mode) duty

      -- nothing is switched
      pub none_switched : SameRegister → SameNodes → switches_of new ≡ switches_of old
      none_switched up nodes = same_parts _ _ _ _ _ _ _ _ _ _ _ _ up (nodes A) (nodes B) holder_same mode_same receivers_same

      -- a node is
      pub node_switched : SameRegister → (n : NodeName) (on : Bool) → is_node_up new.pair n ≡ on → SameNode old.pair new.pair (other n)
          → switches_of new ≡ switched (switches_of old) (disk_of n) on
      node_switched up A on is same = same_parts _ _ _ _ _ _ _ _ _ _ _ _ up is same holder_same mode_same receivers_same
      node_switched up B on is same = same_parts _ _ _ _ _ _ _ _ _ _ _ _ up same is holder_same mode_same receivers_same

      -- the node of this disk goes down
      pub node_lost : SameRegister → (n : NodeName) (d : DiskName) → d ≡ disk_of n → is_node_up new.pair n ≡ false → SameNode old.pair new.pair (other n)
          → switches_of new ≡ switched (switches_of old) d false
      node_lost up n d is down same = node_switched up n false down same ∙ ap (λ e. switched (switches_of old) e false) (sym is)

      -- the register goes down
      pub register_lost : (d : DiskName) → d ≡ disk.Duty → is_up new.pair ≡ false → SameNodes → switches_of new ≡ switched (switches_of old) d false
      register_lost d is down nodes =
          same_parts _ _ _ _ _ _ _ _ _ _ _ _ down (nodes A) (nodes B) holder_same mode_same receivers_same ∙ ap (λ e. switched (switches_of old) e false) (sym is)

    -- the duty changes
    pub duty_switched : (duty : Duty) → duty_of new.pair ≡ duty → SameRegister → SameNodes
        → switches_of new ≡ record (switches_of old) { holder = duty.holder; mode = duty.mode }
    duty_switched duty is up nodes =
        same_parts _ _ _ _ _ _ _ _ _ _ _ _ up (nodes A) (nodes B) (ap (λ (d : Duty). d.holder) is) (ap (λ (d : Duty). d.mode) is) receivers_same

    -- the register starts, with some duty
    pub register_starts : is_up new.pair ≡ true → SameNodes
        → switches_of new ≡ record (switches_of old) { register = true; holder = (switches_of new).holder; mode = (switches_of new).mode }
    register_starts is nodes = same_parts _ _ _ _ _ _ _ _ _ _ _ _ is (nodes A) (nodes B) refl refl receivers_same

map_push : (l : List Sent) (m : Sent) → map receiver_of (l ++ m ∷ []) ≡ map receiver_of l ++ receiver_of m ∷ []
map_push [] m = refl
map_push (x ∷ l) m = ap (λ z. receiver_of x ∷ z) (map_push l m)

-- a message more is on its way
pub sent_switched : {D : Type 0} (old new : Desk D) (m : Sent) → sent_of new.pair ≡ sent_of old.pair ++ m ∷ [] → SameDuty old new → SameRegister old new → SameNodes old new
    → switches_of new ≡ record (switches_of old) { receivers = (switches_of old).receivers ++ receiver_of m ∷ [] }
sent_switched old new m sent duty up nodes =
    same_parts _ _ _ _ _ _ _ _ _ _ _ _ up (nodes A) (nodes B) (ap (λ (d : Duty). d.holder) duty) (ap (λ (d : Duty). d.mode) duty)
    (ap (λ (l : List Sent). map receiver_of l) sent ∙ map_push (sent_of old.pair) m)

-- ---- replies of a call whose row is passed

-- A reply in which no one that is needed was down: what it says of failures, and what it switches.
pub record Tells {D : Type 0} (state : D → DiskState) (old new : Desk D) (command : Command) (told : replies.Reply) : Type 0 where
  pub plain : IsPlain told
  pub failed : HasFailed (counts_at state old) (counts_at state new) told
  pub after : After (switches_of old) command told (switches_of new)

module _ {D : Type 0} (state : D → DiskState) (old new : Desk D) where
  -- of the reply alone
  abbrev pub SwitchesTo : Command → replies.Reply → Type 0
  SwitchesTo command told = IsSwitched (counts_at state old) (counts_at state new) (switches_of old) command (told ∷ []) (switches_of new)

  -- a node whose table does not learn goes down
  pub learning_tells : (command : Command) (n : NodeName) (f : PairFault) → (f ≡ fault.NoMemory → ⊥) → LearningCauses state old.pair new.pair n f
      → KeepsCourse state old.pair new.pair → KeepsOther old.pair new.pair n → Tells state old new command (fault_reply f)
  learning_tells command n (fault.Fault d) some causes course keeps = record {
    plain = tt;
    failed = causes.2;
    after = node_lost old new keeps.1 course.1 course.2 n d causes.0 causes.1.1 keeps.0;
  }
  learning_tells command n (fault.Damaged d frame) some causes course keeps = record {
    plain = tt;
    failed = tt;
    after = node_lost old new keeps.1 course.1 course.2 n d causes.0 causes.1.1 keeps.0;
  }
  learning_tells command n fault.NoMemory some causes course keeps = absurd (some refl)
  learning_tells command n f some causes course keeps = absurd causes

  -- a refusal that is told, or want of memory
  pub refused_switched : (command : Command) (f : PairFault) (r : Result Reply NoMemory) → RefusedSo f r
      → ((f ≡ fault.NoMemory → ⊥) → SwitchesTo command (fault_reply f)) → Switched state old new command (only r)
  refused_switched command f (Ok told) is switches =
      subst (λ (x : Reply). SwitchesTo command (reply_of (table_of new) new.job x)) (sym is.0) (switches is.1)
  refused_switched command f (Err e) is switches = tt

  -- the pair is as it was
  pub unchanged : new.pair ≡ old.pair → switches_of old ≡ switches_of new
  unchanged is = ap (λ (p : Pair D). let desk : Desk D = record { pair = p; job = old.job } in switches_of desk) (sym is)

  -- this refusal is told, and nothing changes
  pub refused_so : (command : Command) (f g : PairFault) → f ≡ g → new.pair ≡ old.pair
      → IsSwitched (counts_at state old) (counts_at state new) (switches_of old) command (fault_reply g ∷ []) (switches_of old) → SwitchesTo command (fault_reply f)
  refused_so command f g is same switches =
      subst (λ (s : Switches). IsSwitched (counts_at state old) (counts_at state new) (switches_of old) command (fault_reply f ∷ []) s) (unchanged same)
      (subst (λ (x : PairFault). IsSwitched (counts_at state old) (counts_at state new) (switches_of old) command (fault_reply x ∷ []) (switches_of old)) (sym is) switches)

-- ---- by the causes of a call

same_refusal : {T : Type 0} (f g : PairFault) → ◌≡◌ {A = Result T PairFault} (Err f) (Err g) → f ≡ g
same_refusal f g e = cc

no_refusal : {T : Type 0} (value : T) (f : PairFault) → ◌≡◌ {A = Result T PairFault} (Ok value) (Err f) → ⊥
no_refusal value f e = absurd (cc)

-- an answer is no refusal of the row
pub not_refused : {P T : Type 0} (o : Option PairFault) (old new : P) (value : T) (Rest : Type 0) → Unless o old new (Ok value) Rest → (o ≡ None) × Rest
not_refused (Some f) old new value Rest is = absurd (no_refusal value f is.0)
not_refused None old new value Rest is = (refl, is)

-- a refusal is one of the row, or it is not
pub refusal_case : {P : Type 0} (T : Type 0) (o : Option PairFault) (old new : P) (f : PairFault) (Rest : Type 0) → Unless {T = T} o old new (Err f) Rest
    → ((o ≡ Some f) × (new ≡ old)) ⊎ ((o ≡ None) × Rest)
refusal_case T (Some g) old new f Rest is = inl (ap (λ (x : PairFault). Some x) (sym (same_refusal f g is.0)), is.1)
refusal_case T None old new f Rest is = inr (refl, is)

-- the row begins with the register and a node
module _ {D : Type 0} (state : D → DiskState) (old new : Desk D) (command : Command) (n : NodeName) (rest : List (Option PairFault)) (are : AreQuiet rest)
    (needs : needed_by (switches_of old) command ≡ with_node n) (found : found_up (switches_of old) command ≡ None) where
  abbrev Row : Option PairFault
  Row = first_of (rows.duty_is_down old.pair ∷ rows.node_is_down old.pair n ∷ rest)

  -- it is passed
  pub passed_switches : Row ≡ None → (told : replies.Reply) → Tells state old new command told → SwitchesTo state old new command told
  passed_switches none told it =
      plainly (counts_at state old) (counts_at state new) (switches_of old) command told (switches_of new) it.plain it.failed it.after (row_passed old n rest none command needs) found

  -- a refusal: of the row, or another
  pub refusal_switches : (T : Type 0) (f : PairFault) (Rest : Type 0) → Unless {T = T} Row old.pair new.pair (Err f) Rest
      → (Row ≡ None → Rest → Tells state old new command (fault_reply f)) → SwitchesTo state old new command (fault_reply f)
  refusal_switches T f Rest causes tells = elim (refusal_case T Row old.pair new.pair f Rest causes) [
    | inl refused ↦ refused_so state old new command f f refl refused.1 (row_refused old n rest f refused.0 are (counts_at state old) (counts_at state new) command needs found)
    | inr other ↦ passed_switches other.0 (fault_reply f) (tells other.0 other.1)
  ]

  -- both were up
  pub both_up : Row ≡ None → (is_up old.pair ≡ true) × (is_node_up old.pair n ≡ true)
  both_up none = by_case (is_up old.pair) (is_node_up old.pair n) (row_none (is_up old.pair) (is_node_up old.pair n) (disk_of n) rest none).0
    where
      by_case : (r m : Bool) → down_of r m (disk_of n) ≡ None → (r ≡ true) × (m ≡ true)
      by_case true true is = (refl, refl)
      by_case false m is = absurd (cc)
      by_case true false is = absurd (cc)

-- the first of a row that is passed
pub first_none : (o : Option PairFault) (rest : List (Option PairFault)) → first_of (o ∷ rest) ≡ None → (o ≡ None) × (first_of rest ≡ None)
first_none (Some f) rest h = absurd (none_some f (sym h ∙ or_some f rest))
first_none None rest h = (refl, sym (none_first rest) ∙ h)

-- the register and the holder are up
pub held_none : (r m : Bool) (d : DiskName) → r ≡ true → m ≡ true → first_of (when (not r) (fault.Down disk.Duty) ∷ when (not m) (fault.Down d) ∷ []) ≡ None
held_none true true d r m = refl
held_none false m d r is = absurd (cc)
held_none true false d r is = absurd (cc)

-- ---- booking

module _ {D : Type 0} (state : D → DiskState) (old new : Desk D) where
  abbrev Holder : NodeName
  Holder = rows.holder old.pair

  quiet_book : AreQuiet (rows.no_flight old.pair ∷ rows.unstored old.pair ∷ [])
  quiet_book = (quiet_when _ _ tt, (quiet_when _ _ tt, tt))

  abbrev BookCommand : Command
  BookCommand = commands.Ordered order.Book

  pub book_refused_switches : KeepsOther old.pair new.pair Holder → (f : PairFault) → BookCauses state old.pair new.pair (Err f) → (f ≡ fault.NoMemory → ⊥) → SwitchesTo state old new BookCommand (fault_reply f)
  book_refused_switches keeps f causes some =
      refusal_switches state old new BookCommand Holder (rows.no_flight old.pair ∷ rows.unstored old.pair ∷ []) quiet_book refl refl Booked f (BookRest state old.pair new.pair Holder (Err f)) causes
      (λ none rest. learning_tells state old new BookCommand Holder f some rest.0 rest.1 keeps)

  module _ (keeps : KeepsOther old.pair new.pair Holder) (booked : Booked) (causes : BookCauses state old.pair new.pair (Ok booked)) where
    book_done : (rows.book_refusal old.pair ≡ None) × BookRest state old.pair new.pair Holder (Ok booked)
    book_done = not_refused (rows.book_refusal old.pair) old.pair new.pair booked (BookRest state old.pair new.pair Holder (Ok booked)) causes

    pub booked_switches : SwitchesTo state old new BookCommand (replies.Told (world.Booked booked.number (record { code = booked.code; detail = booked.detail })))
    booked_switches =
        let rest = book_done.1 in
        let row = (rows.no_flight old.pair ∷ rows.unstored old.pair ∷ []) in
        let up = both_up state old new BookCommand Holder row quiet_book refl refl book_done.0 in
        passed_switches state old new BookCommand Holder row quiet_book refl refl book_done.0 _ (record {
          plain = tt;
          failed = tt;
          after = none_switched old new keeps.1 rest.4 (rest.5 ∙ sym up.0) (each_node old.pair new.pair Holder (up_still old new Holder rest.0.0 rest.0.1) keeps.0);
        })

    pub booked_advances : booked.number < 2 ^ 32 → (duty_of new.pair ≡ duty_of old.pair) × (rows.held_refusal new.pair ≡ None) × Advances old new
    booked_advances small =
        let rest = book_done.1 in (
          rest.4,
          held_none (is_up new.pair) (is_node_up new.pair (rows.holder new.pair)) (disk_of (rows.holder new.pair)) rest.5
              (ap (λ (d : Duty). is_node_up new.pair d.holder) rest.4 ∙ rest.0.1),
          record { more = rest.3; small = omega (arith, small, rest.2, rest.3) },
        )

-- ---- shipping

module _ {D : Type 0} (state : D → DiskState) (old new : Desk D) (n : NodeName) (k : ℕ) where
  abbrev ShipCommand : Command
  ShipCommand = commands.Ordered (order.Ship n k)

  abbrev ShipRow : List (Option PairFault)
  ShipRow = rows.not_holder old.pair n ∷ rows.no_entry old.pair k ∷ rows.messages_full old.pair ∷ []

  quiet_ship : AreQuiet ShipRow
  quiet_ship = (quiet_when _ _ tt, (quiet_when _ _ tt, (quiet_when _ _ tt, tt)))

  ship_tells : (f : PairFault) → (f ≡ fault.NoMemory → ⊥) → ShipRest state old.pair new.pair n k (Err f) → KeepsOther old.pair new.pair n → Tells state old new ShipCommand (fault_reply f)
  ship_tells (fault.Fault d) some rest keeps = record {
    plain = tt;
    failed = rest.2;
    after = node_lost old new keeps.1 rest.3.1 rest.3.2 n d rest.0 rest.1.1 keeps.0;
  }
  ship_tells (fault.Damaged d frame) some rest keeps = record {
    plain = tt;
    failed = tt;
    after = node_lost old new keeps.1 rest.4.1 rest.4.2 n d rest.0 rest.1.1 keeps.0;
  }
  ship_tells fault.NoMemory some rest keeps = absurd (some refl)
  ship_tells f some rest keeps = absurd rest

  pub ship_refused_switches : (f : PairFault) → ShipKeeps old.pair new.pair n (Err f) → ShipCauses state old.pair new.pair n k (Err f) → (f ≡ fault.NoMemory → ⊥) → SwitchesTo state old new ShipCommand (fault_reply f)
  ship_refused_switches f keeps causes some =
      refusal_switches state old new ShipCommand n ShipRow quiet_ship refl refl ℕ f (ShipRest state old.pair new.pair n k (Err f)) causes (λ none rest. ship_tells f some rest keeps)

  its_holder : (n h : NodeName) (f : PairFault) → when (not (is_node n h)) f ≡ None → n ≡ h
  its_holder A A f is = refl
  its_holder B B f is = refl
  its_holder A B f is = absurd (none_some f (sym is))
  its_holder B A f is = absurd (none_some f (sym is))

  pub shipped_switches : (number : ℕ) → ShipKeeps old.pair new.pair n (Ok number) → ShipCauses state old.pair new.pair n k (Ok number) → SwitchesTo state old new ShipCommand (replies.Told (world.Sent number))
  shipped_switches number keeps causes =
      let done = not_refused (rows.ship_refusal old.pair n k) old.pair new.pair number (ShipRest state old.pair new.pair n k (Ok number)) causes in
      let rest = done.1 in
      let own = its_holder n (rows.holder old.pair) (rows.out_of_duty old.pair n) (first_none (rows.not_holder old.pair n) (rows.no_entry old.pair k ∷ rows.messages_full old.pair ∷ []) (row_none (is_up old.pair) (is_node_up old.pair n) (disk_of n) ShipRow done.0).1).0 in
      passed_switches state old new ShipCommand n ShipRow quiet_ship refl refl done.0 _ (record {
        plain = tt;
        failed = tt;
        after =
            sent_switched old new (sent.Shipment n rest.3.0) rest.3.2 rest.1.1 rest.1.2 (each_node old.pair new.pair n (up_still old new n rest.0.0 rest.0.1) keeps.0)
            ∙ ap (λ (h : NodeName). let s = switches_of old in let t : Switches = record s { receivers = s.receivers ++ other h ∷ [] } in t) own;
      })

-- ---- deliveries

other_other : (n : NodeName) → other (other n) ≡ n
other_other A = refl
other_other B = refl

receiver_at : (l : List Sent) (k : ℕ) → slice_get (map receiver_of l) k ≡ option_map receiver_of (slice_get l k)
receiver_at [] k = refl
receiver_at (m ∷ l) zero = refl
receiver_at (m ∷ l) (suc k) = receiver_at l k

answered_by : (s : Switches) (i : ℕ) (n : NodeName) → slice_get s.receivers (i - 1) ≡ Some n → answered s (commands.Ordered (order.Deliver i)) ≡ other n ∷ []
answered_by s i n is = rw is refl

module _ {D : Type 0} (state : D → DiskState) (old new : Desk D) (i : ℕ) where
  abbrev DeliverCommand : Command
  DeliverCommand = commands.Ordered (order.Deliver i)

  abbrev Its : Option Sent → Type 0
  Its o = slice_get (sent_of old.pair) (i - 1) ≡ o

  receiver_is : (o : Option Sent) → Its o → slice_get (switches_of old).receivers (i - 1) ≡ option_map receiver_of o
  receiver_is o is = receiver_at (sent_of old.pair) (i - 1) ∙ ap (λ (x : Option Sent). option_map receiver_of x) is

  -- a message is heard, or stale
  heard_tells : (ack : Ack) (stale : Bool) → switches_of new ≡ switches_of old → Tells state old new DeliverCommand (replies.Told (delivered_told (if stale then delivered.Stale ack.epoch (duty_of old.pair).epoch else delivered.Acked ack, 0)))
  heard_tells ack true same = record { plain = tt; failed = tt; after = same }
  heard_tells ack false same = by_end ack.end
    where
      by_end : (end : Bool) → Tells state old new DeliverCommand (replies.Told (acked_told end ack))
      by_end true = record { plain = tt; failed = tt; after = same }
      by_end false = record { plain = tt; failed = tt; after = same }

  -- a message is stored
  module _ (sender : NodeName) (to : slice_get (switches_of old).receivers (i - 1) ≡ Some (other sender)) (duty : SameDuty old new) (up : SameRegister old new) (nodes : SameNodes old new) where
    unanswered : (made : ℕ) → IsAnswered old.pair new.pair sender None made → switches_of new ≡ switches_of old
    unanswered made is = none_switched old new is.1 duty up nodes

    answered_so : (ack : Ack) (made : ℕ) → IsAnswered old.pair new.pair sender (Some ack) made
        → switches_of new ≡ record (switches_of old) { receivers = (switches_of old).receivers ++ answered (switches_of old) DeliverCommand }
    answered_so ack made is =
        sent_switched old new (sent.Acknowledgement sender ack) is.1 duty up nodes
        ∙ ap (λ (l : List NodeName). let s = switches_of old in let t : Switches = record s { receivers = s.receivers ++ l } in t)
        (ap (λ (h : NodeName). h ∷ []) (sym (other_other sender)) ∙ sym (answered_by (switches_of old) i (other sender) to))

    stored_tells : (it : Delivered) (made : ℕ) → IsAnswered old.pair new.pair sender (ack_made it) made → Tells state old new DeliverCommand (replies.Told (delivered_told (it, made)))
    stored_tells (delivered.Stale epoch known) made is = record { plain = tt; failed = tt; after = unanswered made is }
    stored_tells (delivered.Behind len number) made is = record { plain = tt; failed = tt; after = unanswered made is }
    stored_tells (delivered.Cut number) made is = record { plain = tt; failed = tt; after = unanswered made is }
    stored_tells (delivered.Stored ack) made is = record { plain = tt; failed = tt; after = answered_so ack made is }
    stored_tells (delivered.Have ack) made is = record { plain = tt; failed = tt; after = answered_so ack made is }
    stored_tells (delivered.HaveEnd ack) made is = record { plain = tt; failed = tt; after = answered_so ack made is }
    stored_tells (delivered.Acked ack) made is = by_end ack.end
      where
        by_end : (end : Bool) → Tells state old new DeliverCommand (replies.Told (acked_told end ack))
        by_end true = record { plain = tt; failed = tt; after = unanswered made is }
        by_end false = record { plain = tt; failed = tt; after = unanswered made is }

  abbrev StoreRow : List (Option PairFault)
  StoreRow = rows.messages_full old.pair ∷ []

  quiet_store : AreQuiet StoreRow
  quiet_store = (quiet_when _ _ tt, tt)

  -- the sender stays, and so does the receiver where it is up
  stored_nodes : (sender : NodeName) → SameNode old.pair new.pair sender → SameNode old.pair new.pair (other sender) → SameNodes old new
  stored_nodes sender one two = each_node old.pair new.pair sender one two

  back_again : (sender : NodeName) → SameNode old.pair new.pair sender → SameNode old.pair new.pair (other (other sender))
  back_again sender one = subst (SameNode old.pair new.pair) (sym (other_other sender)) one

  store_fails : (sender : NodeName) (m : Message) (f : PairFault) → (f ≡ fault.NoMemory → ⊥) → StoreRest state old.pair new.pair sender m (Err f) → SameNode old.pair new.pair sender
      → Tells state old new DeliverCommand (fault_reply f)
  store_fails sender m (fault.Fault d) some rest same = record {
    plain = tt;
    failed = rest.2;
    after = node_lost old new rest.4 rest.3.1 rest.3.2 (other sender) d rest.0 rest.1.1 (back_again sender same);
  }
  store_fails sender m fault.NoMemory some rest same = absurd (some refl)
  store_fails sender m f some rest same = absurd rest

  none_there : (f : PairFault) → Its None → DeliverCauses state old.pair new.pair i None (Err f) → SwitchesTo state old new DeliverCommand (fault_reply f)
  none_there f is causes =
      let told = fault.NoMessage i (length (sent_of old.pair)) in
      refused_so state old new DeliverCommand f told (same_refusal f told causes.0) causes.1
      (plainly (counts_at state old) (counts_at state new) (switches_of old) DeliverCommand (fault_reply told) (switches_of old) tt tt refl
      (ap (λ (o : Option NodeName). first_off (switches_of old) (with_receiver o)) (receiver_is None is)) refl)

  pub deliver_refused_switches : (f : PairFault) (o : Option Sent) → Its o → DeliverKeeps old.pair new.pair o → DeliverCauses state old.pair new.pair i o (Err f) → (f ≡ fault.NoMemory → ⊥) → SwitchesTo state old new DeliverCommand (fault_reply f)
  deliver_refused_switches f None is keeps causes some = none_there f is causes
  deliver_refused_switches f (Some (sent.Shipment sender m)) is keeps causes some =
      refusal_switches state old new DeliverCommand (other sender) StoreRow quiet_store (ap with_receiver (receiver_is _ is)) refl (Delivered × ℕ) f (StoreRest state old.pair new.pair sender m (Err f)) causes
      (λ none rest. store_fails sender m f some rest keeps)
  deliver_refused_switches f (Some (sent.Acknowledgement to ack)) is keeps causes some =
      refusal_switches state old new DeliverCommand to [] tt (ap with_receiver (receiver_is _ is)) refl (Delivered × ℕ) f (HearRest state old.pair new.pair ack (Err f)) causes (λ none rest. absurd rest)

  pub delivered_switches : (it : Delivered) (made : ℕ) (o : Option Sent) → Its o → DeliverKeeps old.pair new.pair o → DeliverCauses state old.pair new.pair i o (Ok (it, made))
      → SwitchesTo state old new DeliverCommand (replies.Told (delivered_told (it, made)))
  delivered_switches it made None is keeps causes = absurd (no_refusal (it, made) _ causes.0)
  delivered_switches it made (Some (sent.Shipment sender m)) is keeps causes =
      let done = not_refused (rows.shipment_refusal old.pair sender) old.pair new.pair (it, made) (StoreRest state old.pair new.pair sender m (Ok (it, made))) causes in
      let rest = done.1 in
      passed_switches state old new DeliverCommand (other sender) StoreRow quiet_store (ap with_receiver (receiver_is _ is)) refl done.0 _
      (stored_tells sender (receiver_is _ is) rest.1.1 rest.1.2 (stored_nodes sender keeps (up_still old new (other sender) rest.0.0 rest.0.1)) it made rest.3)
  delivered_switches it made (Some (sent.Acknowledgement to ack)) is keeps causes =
      let done = not_refused (rows.ack_refusal old.pair to) old.pair new.pair (it, made) (HearRest state old.pair new.pair ack (Ok (it, made))) causes in
      let rest = done.1 in
      let present = (duty_of old.pair).epoch in
      passed_switches state old new DeliverCommand to [] tt (ap with_receiver (receiver_is _ is)) refl done.0 _
      (subst (λ (x : Delivered × ℕ). Tells state old new DeliverCommand (replies.Told (delivered_told x))) (both it made (heard ack present) 0 (sym rest.0) (sym rest.1))
      (heard_tells ack (nat_lt ack.epoch present) (none_switched old new rest.3 rest.2.1 rest.2.2 keeps)))
    where
      both : (a : Delivered) (m : ℕ) (b : Delivered) (n : ℕ) → b ≡ a → n ≡ m → ◌≡◌ {A = Delivered × ℕ} (b, n) (a, m)
      both a m b n is also = cc

-- ---- changes of duty

module _ {D : Type 0} (state : D → DiskState) (old new : Desk D) (command : Command) where
  change_fails : (duty : Duty) (f : PairFault) → ChangeRest state old.pair new.pair duty (Err f) → SameNodes old new → SameSent old.pair new.pair → Tells state old new command (fault_reply f)
  change_fails duty (fault.Fault d) rest nodes same = record {
    plain = tt;
    failed = subst (λ e. RoseAt (counts_at state old) (counts_at state new) e) (sym rest.0) rest.1;
    after = register_lost old new same rest.3 d rest.0 rest.2 nodes;
  }
  change_fails duty f rest nodes same = absurd rest

  changed_tells : (duty changed : Duty) → ChangeRest state old.pair new.pair duty (Ok changed) → is_up old.pair ≡ true → SameNodes old new → SameSent old.pair new.pair
      → Tells state old new command (replies.Told (world.On_duty changed))
  changed_tells duty changed rest up nodes same = record {
    plain = tt;
    failed = tt;
    after = duty_switched old new same changed (rest.1 ∙ sym rest.0) (rest.3 ∙ sym up) nodes;
  }

module _ {D : Type 0} (state : D → DiskState) (old new : Desk D) (n : NodeName) where
  abbrev TakeRow : List (Option PairFault)
  TakeRow = rows.not_paired old.pair ∷ rows.epoch_end old.pair ∷ []

  quiet_take : AreQuiet TakeRow
  quiet_take = (quiet_when _ _ tt, (quiet_when _ _ tt, tt))

  abbrev TakeCommand : Command
  TakeCommand = commands.Ordered (order.Take n)

  take_fails : (duty : Duty) (f : PairFault) → TakeRest state old.pair new.pair n duty (Err f) → KeepsOther old.pair new.pair n → KeepsTaker old.pair new.pair n (Err f) → Tells state old new TakeCommand (fault_reply f)
  take_fails duty (fault.Damaged d frame) rest keeps taker = record {
    plain = tt;
    failed = tt;
    after = node_lost old new keeps.1 rest.4.1 rest.4.2 n d rest.0 rest.1.1 keeps.0;
  }
  take_fails duty (fault.Fault d) rest keeps taker = change_fails state old new TakeCommand duty (fault.Fault d) rest (each_node old.pair new.pair n taker keeps.0) keeps.1
  take_fails duty f rest keeps taker = absurd rest

  pub take_refused_switches : (duty : Duty) (f : PairFault) → KeepsOther old.pair new.pair n × KeepsTaker old.pair new.pair n (Err f)
      → Unless {T = Duty} (rows.take_refusal old.pair n) old.pair new.pair (Err f) (TakeRest state old.pair new.pair n duty (Err f)) → SwitchesTo state old new TakeCommand (fault_reply f)
  take_refused_switches duty f keeps causes =
      refusal_switches state old new TakeCommand n TakeRow quiet_take refl refl Duty f (TakeRest state old.pair new.pair n duty (Err f)) causes (λ none rest. take_fails duty f rest keeps.0 keeps.1)

  pub taken_switches : (duty changed : Duty) → KeepsOther old.pair new.pair n × KeepsTaker old.pair new.pair n (Ok changed)
      → Unless (rows.take_refusal old.pair n) old.pair new.pair (Ok changed) (TakeRest state old.pair new.pair n duty (Ok changed)) → SwitchesTo state old new TakeCommand (replies.Told (world.On_duty changed))
  taken_switches duty changed keeps causes =
      let done = not_refused (rows.take_refusal old.pair n) old.pair new.pair changed (TakeRest state old.pair new.pair n duty (Ok changed)) causes in
      passed_switches state old new TakeCommand n TakeRow quiet_take refl refl done.0 _
      (changed_tells state old new TakeCommand duty changed done.1 (both_up state old new TakeCommand n TakeRow quiet_take refl refl done.0).0 (each_node old.pair new.pair n keeps.1 keeps.0.0) keeps.0.1)

-- of the holder
module _ {D : Type 0} (state : D → DiskState) (old new : Desk D) (command : Command) (rest : List (Option PairFault)) (are : AreQuiet rest)
    (needs : needed_by (switches_of old) command ≡ with_node (switches_of old).holder) (found : found_up (switches_of old) command ≡ None) (duty : Duty) (keeps : KeepsNodes old.pair new.pair) where
  abbrev ChangeRow : Option PairFault
  ChangeRow = first_of (rows.duty_is_down old.pair ∷ rows.node_is_down old.pair (rows.holder old.pair) ∷ rest)

  pub change_refused_switches : (f : PairFault) → Unless {T = Duty} ChangeRow old.pair new.pair (Err f) (ChangeRest state old.pair new.pair duty (Err f)) → SwitchesTo state old new command (fault_reply f)
  change_refused_switches f causes =
      refusal_switches state old new command (rows.holder old.pair) rest are needs found Duty f (ChangeRest state old.pair new.pair duty (Err f)) causes (λ none more. change_fails state old new command duty f more keeps.0 keeps.1)

  pub changed_switches : (changed : Duty) → Unless ChangeRow old.pair new.pair (Ok changed) (ChangeRest state old.pair new.pair duty (Ok changed)) → SwitchesTo state old new command (replies.Told (world.On_duty changed))
  changed_switches changed causes =
      let done = not_refused ChangeRow old.pair new.pair changed (ChangeRest state old.pair new.pair duty (Ok changed)) causes in
      passed_switches state old new command (rows.holder old.pair) rest are needs found done.0 _
      (changed_tells state old new command duty changed done.1 (both_up state old new command (rows.holder old.pair) rest are needs found done.0).0 keeps.0 keeps.1)

-- what the rows of `ALONE` and `PAIR` have besides
module _ {D : Type 0} (p : Pair D) where
  abbrev pub AloneRow : List (Option PairFault)
  AloneRow = rows.not_paired p ∷ rows.epoch_end p ∷ []

  abbrev pub PairRow : List (Option PairFault)
  PairRow = rows.paired p ∷ rows.in_flight p ∷ rows.not_in_step p ∷ rows.epoch_end p ∷ []

  pub quiet_alone : AreQuiet AloneRow
  quiet_alone = (quiet_when _ _ tt, (quiet_when _ _ tt, tt))

  pub quiet_pair : AreQuiet PairRow
  quiet_pair = (quiet_when _ _ tt, (quiet_when _ _ tt, (quiet_when _ _ tt, (quiet_when _ _ tt, tt))))

-- ---- a node stops and starts

pub on_is : {D : Type 0} (desk : Desk D) (n : NodeName) → is_on (switches_of desk) (disk_of n) ≡ is_node_up desk.pair n
on_is desk A = refl
on_is desk B = refl

module _ {D : Type 0} (state : D → DiskState) (old new : Desk D) (n : NodeName) (keeps : KeepsOther old.pair new.pair n) where
  abbrev StopCommand : Command
  StopCommand = commands.Ordered (order.Stop n)

  stop_off : (up : Bool) → is_node_up old.pair n ≡ up → first_off (switches_of old) (disk_of n ∷ []) ≡ (if up then None else Some (disk_of n))
  stop_off up is = ap (λ (b : Bool). if b then None else Some (disk_of n)) (on_is old n ∙ is)

  stop_case : (up : Bool) → is_node_up old.pair n ≡ up → (f : PairFault) → Unless {T = Unit {0}} (when (not up) (fault.Down (disk_of n))) old.pair new.pair (Err f) ⊥ → SwitchesTo state old new StopCommand (fault_reply f)
  stop_case true is f causes = absurd causes
  stop_case false is f causes =
      refused_so state old new StopCommand f (fault.Down (disk_of n)) (same_refusal f _ causes.0) causes.1
      (is_down (counts_at state old) (counts_at state new) (switches_of old) StopCommand (disk_of n) (stop_off false is) refl)

  pub stop_refused_switches : (f : PairFault) → StopCauses state old.pair new.pair n (Err f) → SwitchesTo state old new StopCommand (fault_reply f)
  stop_refused_switches f causes = stop_case (is_node_up old.pair n) refl f causes

  pub stopped_switches : StopCauses state old.pair new.pair n (Ok tt) → SwitchesTo state old new StopCommand (replies.Told (world.Stopped n))
  stopped_switches causes =
      let rest = (not_refused (rows.node_is_down old.pair n) old.pair new.pair tt (StopRest state old.pair new.pair n (Ok tt)) causes).1 in
      plainly (counts_at state old) (counts_at state new) (switches_of old) StopCommand (replies.Told (world.Stopped n)) (switches_of new) tt tt
      (node_switched old new keeps.1 rest.1.1 rest.1.2 n false rest.0.1 keeps.0) (stop_off true rest.0.0) refl

  abbrev StartCommand : Command
  StartCommand = commands.Ordered (order.Start n)

  abbrev StartRow : Bool → Bool → Option PairFault
  StartRow up m = first_of (when (not up) (fault.Down disk.Duty) ∷ when m (fault.Up (disk_of n)) ∷ [])

  start_off : (up : Bool) → is_up old.pair ≡ up → first_off (switches_of old) (disk.Duty ∷ []) ≡ (if up then None else Some disk.Duty)
  start_off up is = ap (λ (b : Bool). if b then None else Some disk.Duty) is

  start_found : (up m : Bool) → is_up old.pair ≡ up → is_node_up old.pair n ≡ m → found_up (switches_of old) StartCommand ≡ (if up then (if m then Some (disk_of n) else None) else None)
  start_found up m is its =
      ap (λ (b : Bool). if b then (if is_on (switches_of old) (disk_of n) then Some (disk_of n) else None) else None) is
      ∙ ap (λ (b : Bool). if up then (if b then Some (disk_of n) else None) else None) (on_is old n ∙ its)

  start_down : (d : DiskName) → d ≡ disk_of n → KeepsCourse state old.pair new.pair → is_node_up new.pair n ≡ false → switches_of new ≡ switched (switches_of old) d false
  start_down d is course down = node_lost old new keeps.1 course.1 course.2 n d is down keeps.0

  start_tells : (f : PairFault) → StartRest state old.pair new.pair n (Err f) → Tells state old new StartCommand (fault_reply f)
  start_tells (fault.Fault d) rest = record { plain = tt; failed = rest.2.1; after = start_down d rest.2.0 rest.1 rest.0.1 }
  start_tells (fault.Foreign d) rest = record { plain = tt; failed = tt; after = start_down d rest.2.0 rest.1 rest.0.1 }
  start_tells (fault.Damaged d frame) rest = record { plain = tt; failed = tt; after = start_down d rest.2.0 rest.1 rest.0.1 }
  start_tells (fault.Short node have need) rest = record { plain = tt; failed = tt; after = start_down (disk_of node) (ap disk_of rest.2.0) rest.1 rest.0.1 }
  start_tells f rest = absurd rest.2

  start_case : (up m : Bool) → is_up old.pair ≡ up → is_node_up old.pair n ≡ m → (f : PairFault)
      → Unless {T = Started} (StartRow up m) old.pair new.pair (Err f) (StartRest state old.pair new.pair n (Err f)) → SwitchesTo state old new StartCommand (fault_reply f)
  start_case false m is its f causes =
      refused_so state old new StartCommand f (fault.Down disk.Duty) (same_refusal f _ causes.0) causes.1
      (is_down (counts_at state old) (counts_at state new) (switches_of old) StartCommand disk.Duty (start_off false is) (start_found false m is its))
  start_case true true is its f causes =
      refused_so state old new StartCommand f (fault.Up (disk_of n)) (same_refusal f _ causes.0) causes.1
      (is_found_up (counts_at state old) (counts_at state new) (switches_of old) StartCommand (disk_of n) (start_found true true is its) (start_off true is))
  start_case true false is its f causes =
      let it = start_tells f causes in
      plainly (counts_at state old) (counts_at state new) (switches_of old) StartCommand (fault_reply f) (switches_of new) it.plain it.failed it.after (start_off true is) (start_found true false is its)

  pub start_refused_switches : (f : PairFault) → StartCauses state old.pair new.pair n (Err f) → SwitchesTo state old new StartCommand (fault_reply f)
  start_refused_switches f causes = start_case (is_up old.pair) (is_node_up old.pair n) refl refl f causes

  start_passed : (up m : Bool) → StartRow up m ≡ None → (up ≡ true) × (m ≡ false)
  start_passed true false is = (refl, refl)
  start_passed true true is = absurd (none_some _ (sym is))
  start_passed false m is = absurd (none_some _ (sym is))

  pub started_switches : (started : Started) → StartCauses state old.pair new.pair n (Ok started) → SwitchesTo state old new StartCommand (replies.Told (world.Started n started.len started.known))
  started_switches started causes =
      let done = not_refused (rows.start_refusal old.pair n) old.pair new.pair started (StartRest state old.pair new.pair n (Ok started)) causes in
      let rest = done.1 in
      let row = start_passed (is_up old.pair) (is_node_up old.pair n) done.0 in
      plainly (counts_at state old) (counts_at state new) (switches_of old) StartCommand (replies.Told (world.Started n started.len started.known)) (switches_of new) tt tt
      (node_switched old new keeps.1 rest.4.1 rest.4.2 n true rest.0 keeps.0) (start_off true row.0) (start_found true false row.0 row.1)

-- ---- the register starts

module _ {D : Type 0} (state : D → DiskState) (old new : Desk D) (keeps : KeepsNodes old.pair new.pair) where
  abbrev RegisterCommand : Command
  RegisterCommand = commands.Ordered order.StartDuty

  register_found : (up : Bool) → is_up old.pair ≡ up → found_up (switches_of old) RegisterCommand ≡ (if up then Some disk.Duty else None)
  register_found up is = ap (λ (b : Bool). if b then Some disk.Duty else None) is

  register_tells : (told : replies.Reply) → is_up old.pair ≡ false → Tells state old new RegisterCommand told → SwitchesTo state old new RegisterCommand told
  register_tells told down it =
      plainly (counts_at state old) (counts_at state new) (switches_of old) RegisterCommand told (switches_of new) it.plain it.failed it.after refl (register_found false down)

  register_down : (d : DiskName) → d ≡ disk.Duty → is_up old.pair ≡ false → KeepsCourse state old.pair new.pair → switches_of new ≡ switched (switches_of old) d false
  register_down d is down course = register_lost old new keeps.1 course.1 d is (course.2 ∙ down) keeps.0

  pub register_refused_switches : (f : PairFault) → StartDutyRest state old.pair new.pair (Err f) → SwitchesTo state old new RegisterCommand (fault_reply f)
  register_refused_switches (fault.Up d) rest =
      refused_so state old new RegisterCommand (fault.Up d) (fault.Up d) refl rest.2
      (is_found_up (counts_at state old) (counts_at state new) (switches_of old) RegisterCommand d (register_found true rest.1 ∙ ap (λ (e : DiskName). Some e) (sym rest.0)) refl)
  register_refused_switches (fault.Fault d) rest =
      register_tells (fault_reply (fault.Fault d)) rest.2 (record { plain = tt; failed = subst (λ e. RoseAt (counts_at state old) (counts_at state new) e) (sym rest.0) rest.1; after = register_down d rest.0 rest.2 rest.3 })
  register_refused_switches (fault.Foreign d) rest = register_tells (fault_reply (fault.Foreign d)) rest.1 (record { plain = tt; failed = tt; after = register_down d rest.0 rest.1 rest.2 })
  register_refused_switches (fault.Damaged d frame) rest =
      register_tells (fault_reply (fault.Damaged d frame)) rest.1 (record { plain = tt; failed = tt; after = register_down d rest.0 rest.1 rest.2 })
  register_refused_switches f rest = absurd rest

  pub register_started_switches : (duty : Duty) → is_up old.pair ≡ false → StartDutyRest state old.pair new.pair (Ok duty) → SwitchesTo state old new RegisterCommand (replies.Told (world.Started_duty duty))
  register_started_switches duty down rest = register_tells (replies.Told (world.Started_duty duty)) down (record { plain = tt; failed = tt; after = register_starts old new keeps.1 rest.2 keeps.0 })

-- ---- the status

module _ {D : Type 0} (state : D → DiskState) (desk : Desk D) where
  abbrev StatusCommand : Command
  StatusCommand = commands.Ordered order.Status

  abbrev StatusBy : Bool → PairStatus → Result PairStatus PairFault
  StatusBy up status = status_or (when (not up) (fault.Down disk.Duty)) status

  status_off : (up : Bool) → is_up desk.pair ≡ up → first_off (switches_of desk) (disk.Duty ∷ []) ≡ (if up then None else Some disk.Duty)
  status_off up is = ap (λ (b : Bool). if b then None else Some disk.Duty) is

  status_refused : (up : Bool) → is_up desk.pair ≡ up → (status : PairStatus) (f : PairFault) → Err f ≡ StatusBy up status → SwitchesTo state desk desk StatusCommand (fault_reply f)
  status_refused true is status f told = absurd (no_refusal status f (sym told))
  status_refused false is status f told =
      refused_so state desk desk StatusCommand f (fault.Down disk.Duty) (same_refusal f _ told) refl
      (is_down (counts_at state desk) (counts_at state desk) (switches_of desk) StatusCommand disk.Duty (status_off false is) refl)

  pub status_refused_switches : (f : PairFault) → StatusCauses desk.pair (Err f) → SwitchesTo state desk desk StatusCommand (fault_reply f)
  status_refused_switches f causes = status_refused (is_up desk.pair) refl _ f causes

  status_up : (up : Bool) (status told : PairStatus) → Ok told ≡ StatusBy up status → up ≡ true
  status_up true status told is = refl
  status_up false status told is = absurd (no_refusal told _ is)

  pub status_told_switches : (status : PairStatus) → StatusCauses desk.pair (Ok status) → SwitchesTo state desk desk StatusCommand (replies.Told (report_told status))
  status_told_switches status causes =
      plainly (counts_at state desk) (counts_at state desk) (switches_of desk) StatusCommand (replies.Told (report_told status)) (switches_of desk) tt tt refl (status_off true (status_up (is_up desk.pair) _ status causes)) refl
