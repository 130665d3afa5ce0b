-- What each call of the pair tells, why each answer comes, and what stays beside it, over any disk.
use Rattle.std.specs.Prelude.{◌≡◌, ◌⊎◌, ℕ, ◌+◌, ◌-◌, ◌<◌, ◌≤◌, nat_lt, max, not, if◌then◌else◌, Bool, true, false, List, [], ◌∷◌, ◌++◌, length, Option, Some, None, Result, Ok, Err, OnErr, IfErr}
use Rattle.ali_base.specs.Steps.{when}
use Rattle.ali_base.specs.declared.duty.Duty.{Duty}
use Rattle.ali_base.specs.declared.names.DiskName.{DiskName}
use Rattle.ali_base.specs.declared.names.DiskName.TheVariants as disks
use Rattle.ali_base.specs.declared.names.NodeName.{NodeName}
use Rattle.ali_base.specs.declared.names.NodeName.TheVariants as node
use Rattle.crash_disk.specs.DiskState.{DiskState}
use Rattle.duty_register.specs.DutiesRead as read
use Rattle.duty_register.specs.DutyImage as duties
use Rattle.duty_register.specs.declared.faults.RegisterFault.{RegisterFault}
use Rattle.duty_register.specs.declared.faults.RegisterFault.TheVariants as opening
use Rattle.node_journal.specs.JournalImage.{IsForeign, IsDamaged}
use Rattle.office_entry.specs.declared.entry.Entry.{Entry}
use Rattle.office_state.specs.Due.{due_of}
use Rattle.pair_world.specs.Refusals as refusals
use Rattle.pair_world.specs.Refusals.{disk_of}
use Rattle.pair_world.specs.World.{other}
use Rattle.world_rows.specs.Counts.{RoseAt}
use Rattle.world_rows.specs.Told as tells
use Rattle.world_rows.specs.Told.{Told, Refused, Not_due, Foreign, Damaged, Ready, Written, Booked, Stopped, Started, Behind, Cut, Stored, Have, Have_end, Acked, Acked_end, Told_status}
use Rattle.pair_node.specs.LearnedEntries.{IsGone, IsVerdictAt, Learns, IsBadFrame}
use Rattle.pair_node.specs.NodeState.{journal_of, learned_of}
use Rattle.pair_core.specs.Pair.{node_of, is_node_up, is_up, len_of, count_of, table_of, duty_of, bounds_of, counts_of, disk_at, sent_of, acked_of, ended_of}
use Rattle.pair_core.specs.PairRefusals as rows
use Rattle.pair_node.specs.StartedNode.{HasFrames}
use Rattle.pair_node.specs.StoredMessage.{StoreAnswers, HasEpochs, after_message}
use Rattle.pair_node.specs.Messages.{IsMessage, ack_made}
use Rattle.node_journal.specs.OpenJournal.{epochs_of}
use Rattle.pair_world.specs.Frames.{Frame}
use Rattle.pair_node.specs.declared.message.Message.{Message}
use Rattle.pair_node.specs.declared.node.Node.{Node}
use Rattle.pair_core.specs.declared.faults.PairFault.{PairFault}
use Rattle.pair_core.specs.declared.faults.PairFault.TheVariants as fault
use Rattle.pair_node.specs.declared.faults.StartFault.{StartFault}
use Rattle.pair_node.specs.declared.faults.StartFault.TheVariants as starting
use Rattle.pair_core.specs.declared.pair_writes.Booked.{Booked as BookedEntry}
use Rattle.pair_core.specs.declared.starting.Started.{Started as StartedNode}
use Rattle.pair_node.specs.declared.message.Ack.{Ack}
use Rattle.pair_node.specs.declared.message.Delivered.{Delivered}
use Rattle.pair_node.specs.declared.message.Delivered.TheVariants as delivered
use Rattle.pair_core.specs.declared.pair.Pair.{Pair}
use Rattle.pair_core.specs.declared.pair.PairStatus.{PairStatus}
use Rattle.pair_core.specs.declared.sent.Sent.{Sent}
use Rattle.pair_core.specs.declared.sent.Sent.TheVariants as sent

-- a refusal as it is told; want of memory is none
abbrev pub fault_told : PairFault → Option Told
fault_told (fault.Down disk) = Some (Refused (refusals.Down disk))
fault_told (fault.Up disk) = Some (Refused (refusals.Up disk))
fault_told (fault.OutOfDuty node epoch holder) = Some (Refused (refusals.Out_of_duty node epoch holder))
fault_told (fault.InFlight number) = Some (Refused (refusals.In_flight number))
fault_told fault.NoFlight = Some (Refused refusals.No_flight)
fault_told (fault.Unstored number epoch) = Some (Refused (refusals.Unstored number epoch))
fault_told (fault.NoEntry number len) = Some (Refused (refusals.No_entry number len))
fault_told (fault.NoMessage number sent) = Some (Refused (refusals.No_message number sent))
fault_told (fault.MessagesFull limit) = Some (Refused (refusals.Messages_full limit))
fault_told (fault.NotPaired epoch holder) = Some (Refused (refusals.Not_paired epoch holder))
fault_told (fault.Paired epoch holder) = Some (Refused (refusals.Paired epoch holder))
fault_told (fault.NotInStep ended due) = Some (Refused (refusals.Not_in_step ended due))
fault_told (fault.EpochEnd epoch) = Some (Refused (refusals.Epoch_end epoch))
fault_told (fault.NotDue due) = Some (Not_due due)
fault_told (fault.Full limit) = Some (Refused (refusals.Full limit))
fault_told (fault.Fault disk) = Some (tells.Failed disk)
fault_told (fault.Foreign disk) = Some (Foreign disk)
fault_told (fault.Damaged disk frame) = Some (Damaged disk frame)
fault_told (fault.Short node have need) = Some (Refused (refusals.Short node have need))
fault_told fault.NoMemory = None

-- what is told of a call: of what it gives, or of its refusal
abbrev pub told : {T : Type 0} → (T → Told) → Result T PairFault → Option Told
told of (Ok value) = Some (of value)
told of (Err refusal) = fault_told refusal

abbrev pub ready_told : Unit {0} → Told
ready_told done = Ready

-- an entry was written in this epoch
abbrev pub written_told : ℕ → ℕ → Told
written_told epoch number = Written number epoch

abbrev pub booked_told : BookedEntry → Told
booked_told booked = Booked booked.number (record { code = booked.code; detail = booked.detail })

abbrev pub stopped_told : NodeName → Unit {0} → Told
stopped_told n done = Stopped n

abbrev pub started_told : NodeName → StartedNode → Told
started_told n started = Started n started.len started.known

-- that an acknowledgement was heard
abbrev pub acked_told : Bool → Ack → Told
acked_told true ack = Acked_end ack.number ack.epoch
acked_told false ack = Acked ack.number ack.epoch

-- what a delivery comes to, with the number that the acknowledgement got, 0 where it got none
abbrev pub delivered_told : Delivered × ℕ → Told
delivered_told (delivered.Stale epoch known, made) = Refused (refusals.Stale epoch known)
delivered_told (delivered.Behind len number, made) = Behind len number
delivered_told (delivered.Cut number, made) = Cut number
delivered_told (delivered.Stored ack, made) = Stored ack.number made
delivered_told (delivered.Have ack, made) = Have ack.number made
delivered_told (delivered.HaveEnd ack, made) = Have_end ack.number made
delivered_told (delivered.Acked ack, made) = acked_told ack.end ack

abbrev pub passed_told : Delivered → Told
passed_told it = delivered_told (it, 0)

abbrev pub report_told : PairStatus → Told
report_told status =
    Told_status (record {
      duty = status.duty;
      count = status.count;
      pending = status.flight;
      length_a = status.len_a;
      length_b = status.len_b;
    })

-- the numbers after an acknowledgement was heard, where there was one: that of a frame counts it, that of the end the frames before it, and the end
abbrev pub acked_after : Option Ack → ℕ → ℕ
acked_after None acked = acked
acked_after (Some ack) acked = max acked (if ack.end then ack.number - 1 else ack.number)

abbrev pub ended_after : Option Ack → ℕ → ℕ
ended_after None ended = ended
ended_after (Some ack) ended = if ack.end then max ended ack.number else ended

-- A node did with a message what the table of deliveries says, by the epochs of its journal alone, so over any disk.
pub record IsStored {D : Type 0} (old new : Node D) (m : Message) (it : Delivered) : Type 0 where
  pub answers : StoreAnswers old new m (Ok it)
  pub left : (frames : List (Frame Entry)) → HasEpochs old frames → HasEpochs new (after_message old m frames)

-- whether passing a frame on may come to this: it is never stale, and is no acknowledgement
abbrev pub may_pass : Delivered → Bool
may_pass (delivered.Stale epoch known) = false
may_pass (delivered.Acked ack) = false
may_pass it = true

-- Frame k was passed on from this node to the other: the message was made, and stored, and the acknowledgement that this made was heard. The holder's journal stays, and no message takes a number.
pub record IsPassed {D : Type 0} (state : D → DiskState) (old new : Pair D) (n : NodeName) (k : ℕ) (it : Delivered) : Type 0 where
  pub message : Message
  pub made : IsMessage state (node_of old n) k (duty_of old).epoch message
  pub stored : IsStored (node_of old (other n)) (node_of new (other n)) message it
  pub epochs : epochs_of (journal_of (node_of new n)) ≡ epochs_of (journal_of (node_of old n))
  pub acked : acked_of new ≡ acked_after (ack_made it) (acked_of old)
  pub ended : ended_of new ≡ ended_after (ack_made it) (ended_of old)
  pub sent : sent_of new ≡ sent_of old
  pub fresh : may_pass it ≡ true

-- The acknowledgement that a delivery made, if any, is the last message, and its number was told; 0 where none was made.
abbrev pub IsAnswered : {D : Type 0} → Pair D → Pair D → NodeName → Option Ack → ℕ → Type 0
IsAnswered old new to None made = (made ≡ 0) × (sent_of new ≡ sent_of old)
IsAnswered old new to (Some ack) made = (made ≡ length (sent_of old) + 1) × (sent_of new ≡ sent_of old ++ sent.Acknowledgement to ack ∷ [])

-- what comes of an acknowledgement: it is heard, or stale where its epoch is before the present one
abbrev pub heard : Ack → ℕ → Delivered
heard ack present = if nat_lt ack.epoch present then delivered.Stale ack.epoch present else delivered.Acked ack

abbrev pub counted : Ack → ℕ → Option Ack
counted ack present = when (not (nat_lt ack.epoch present)) ack

-- A call is refused by its row's first refusal that holds, and then nothing changes; where none holds, the rest says why the answer comes.
abbrev pub Unless : {P T : Type 0} → Option PairFault → P → P → Result T PairFault → Type 0 → Type 0
Unless (Some refusal) old new result Rest = (result ≡ Err refusal) × (new ≡ old)
Unless None old new result Rest = Rest

-- What a call keeps beside what it is about.
module _ {D : Type 0} (old new : Pair D) where
  -- the node is up or down as it was
  abbrev pub SameNode : NodeName → Type 0
  SameNode n = is_node_up new n ≡ is_node_up old n

  -- the messages on their way are those from before
  abbrev pub SameSent : Type 0
  SameSent = sent_of new ≡ sent_of old

  -- a call of this node keeps the other one and the messages
  abbrev pub KeepsOther : NodeName → Type 0
  KeepsOther n = SameNode (other n) × SameSent

  -- a call of the register keeps both nodes and the messages
  abbrev pub KeepsNodes : Type 0
  KeepsNodes = ((n : NodeName) → SameNode n) × SameSent

  -- a takeover keeps its node too, but where the answer is that its disk is damaged
  abbrev pub KeepsTaker : NodeName → Result Duty PairFault → Type 0
  KeepsTaker n (Err (fault.Damaged disk frame)) = Unit {0}
  KeepsTaker n result = SameNode n

  -- a shipment of this node keeps the other one, and the messages where it is refused or fails
  abbrev pub ShipKeeps : NodeName → Result ℕ PairFault → Type 0
  ShipKeeps n result = SameNode (other n) × OnErr result SameSent

  -- the delivery of a shipment keeps its sender, that of an acknowledgement both nodes
  abbrev pub DeliverKeeps : Option Sent → Type 0
  DeliverKeeps None = Unit {0}
  DeliverKeeps (Some (sent.Shipment sender message)) = SameNode sender
  DeliverKeeps (Some (sent.Acknowledgement to ack)) = (n : NodeName) → SameNode n

  -- each node whose disk is not this one is up or down as it was
  abbrev pub KeepsApart : DiskName → Type 0
  KeepsApart disk = (n : NodeName) → (disk_of n ≡ disk → ⊥) → SameNode n

  -- where a disk failed in the call, or is damaged, each node whose disk that is not
  abbrev pub KeepsSound : PairFault → Type 0
  KeepsSound (fault.Fault disk) = KeepsApart disk
  KeepsSound (fault.Damaged disk frame) = KeepsApart disk
  KeepsSound refusal = Unit {0}

  -- passing frames on keeps the messages, and each node whose disk neither failed nor is damaged
  abbrev pub PassKeeps : {T : Type 0} → Result T PairFault → Type 0
  PassKeeps result = SameSent × IfErr result KeepsSound

module _ {D : Type 0} (state : D → DiskState) (old new : Pair D) where
  -- the disk failed in the call
  abbrev pub Failed : DiskName → Type 0
  Failed disk = RoseAt (counts_of state old) (counts_of state new) disk

  -- the node is up before the call and after it; down before and after; or it goes down
  abbrev pub StaysUp : NodeName → Type 0
  StaysUp n = (is_node_up old n ≡ true) × (is_node_up new n ≡ true)

  abbrev pub StaysDown : NodeName → Type 0
  StaysDown n = (is_node_up old n ≡ false) × (is_node_up new n ≡ false)

  abbrev pub GoesDown : NodeName → Type 0
  GoesDown n = (is_node_up old n ≡ true) × (is_node_up new n ≡ false)

  -- what stays where no event is done: how many entries are booked, the duty, and whether the register is up
  abbrev pub KeepsCourse : Type 0
  KeepsCourse = (count_of new ≡ count_of old) × (duty_of new ≡ duty_of old) × (is_up new ≡ is_up old)

  -- a booked frame of the node is not there, or is not its entry, or not one that may be booked
  abbrev pub IsBad : NodeName → ℕ → Type 0
  IsBad n k = ((k ≡ len_of old n + 1) × (len_of old n < count_of old)) ⊎ IsBadFrame state (node_of old n) (node_of new n) k

  -- Why the table of a node does not learn: its disk failed; a frame on it is bad; or memory ran out. Nothing else is answered.
  abbrev pub LearningCauses : NodeName → PairFault → Type 0
  LearningCauses n (fault.Fault disk) = (disk ≡ disk_of n) × GoesDown n × Failed disk
  LearningCauses n (fault.Damaged disk frame) = (disk ≡ disk_of n) × GoesDown n × IsBad n frame
  LearningCauses n fault.NoMemory = StaysUp n
  LearningCauses n refusal = ⊥

  abbrev pub ReadyRest : NodeName → Result (Unit {0}) PairFault → Type 0
  ReadyRest n (Ok done) = StaysUp n × KeepsCourse × (len_of new n ≡ len_of old n) × (learned_of (node_of new n) ≡ count_of new)
  ReadyRest n (Err refusal) = LearningCauses n refusal × KeepsCourse

  abbrev pub ReadyCauses : NodeName → Result (Unit {0}) PairFault → Type 0
  ReadyCauses n result = Unless (rows.ready_refusal old n) old new result (ReadyRest n result)

  -- Of a write besides: the entry may not be booked next; the journal is full.
  abbrev pub WriteRest : NodeName → Entry → Result ℕ PairFault → Type 0
  WriteRest n entry (Ok number) =
      StaysUp n × KeepsCourse × (len_of old n ≡ count_of old) × (number ≡ count_of old + 1) × (len_of new n ≡ number)
  WriteRest n entry (Err (fault.NotDue due)) = StaysUp n × KeepsCourse × (due_of (table_of new n).state entry ≡ Err due)
  WriteRest n entry (Err (fault.Full limit)) = StaysUp n × KeepsCourse × (limit ≡ (bounds_of old).frames) × (len_of old n ≡ limit)
  WriteRest n entry (Err refusal) = LearningCauses n refusal × KeepsCourse

  abbrev pub WriteCauses : NodeName → Entry → Result ℕ PairFault → Type 0
  WriteCauses n entry result = Unless (rows.write_refusal old n) old new result (WriteRest n entry result)

  abbrev pub BookRest : NodeName → Result BookedEntry PairFault → Type 0
  BookRest n (Ok booked) =
      StaysUp n × (count_of old < len_of old n) × (booked.number ≡ count_of old + 1) × (count_of new ≡ count_of old + 1)
      × (duty_of new ≡ duty_of old) × (is_up new ≡ true)
      × ((ready : Node D) × Learns state (node_of old n) ready × Learns state ready (node_of new n)
      × (learned_of ready ≡ count_of old) × IsVerdictAt state ready booked.number (record { code = booked.code; detail = booked.detail }))
  BookRest n (Err refusal) = LearningCauses n refusal × KeepsCourse

  abbrev pub BookCauses : Result BookedEntry PairFault → Type 0
  BookCauses result = Unless (rows.book_refusal old) old new result (BookRest (rows.holder old) result)

  -- A stop is refused exactly where the node is down.
  abbrev pub StopRest : NodeName → Result (Unit {0}) PairFault → Type 0
  StopRest n (Ok done) = GoesDown n × KeepsCourse
  StopRest n (Err refusal) = ⊥

  abbrev pub StopCauses : NodeName → Result (Unit {0}) PairFault → Type 0
  StopCauses n result = Unless (rows.node_is_down old n) old new result (StopRest n result)

  -- Why a node is not started besides: its disk failed; the image is no journal of the node, or damaged; or the journal has fewer frames than it must have.
  abbrev pub StartFailure : NodeName → PairFault → Type 0
  StartFailure n (fault.Fault disk) = (disk ≡ disk_of n) × Failed disk
  StartFailure n (fault.Foreign disk) =
      (disk ≡ disk_of n) × ((image : List ℕ) → (state (disk_at old (disk_of n))).content ≡ Some image → IsForeign n image)
  StartFailure n (fault.Damaged disk frame) =
      (disk ≡ disk_of n)
      × ((image : List ℕ) → (state (disk_at old (disk_of n))).content ≡ Some image → IsDamaged n (bounds_of old).frames frame image)
  StartFailure n (fault.Short node have need) =
      (node ≡ n) × (have < need) × (need ≡ rows.needed_length old n)
      × ((image : List ℕ) → (state (disk_at old (disk_of n))).content ≡ Some image → HasFrames n have image)
  StartFailure n refusal = ⊥

  abbrev pub StartRest : NodeName → Result StartedNode PairFault → Type 0
  StartRest n (Ok started) =
      (is_node_up new n ≡ true) × (started.len ≡ len_of new n) × (started.known ≡ (duty_of old).epoch)
      × (rows.needed_length old n ≤ started.len) × KeepsCourse
  StartRest n (Err refusal) = StaysDown n × KeepsCourse × StartFailure n refusal

  abbrev pub StartCauses : NodeName → Result StartedNode PairFault → Type 0
  StartCauses n result = Unless (rows.start_refusal old n) old new result (StartRest n result)

  -- A change of duty: it is done, over this history; or the register's disk failed, and it is down.
  abbrev pub ChangeRest : Duty → Result Duty PairFault → Type 0
  ChangeRest duty (Ok changed) = (changed ≡ duty) × (duty_of new ≡ duty) × (count_of new ≡ duty.floor) × (is_up new ≡ true)
  ChangeRest duty (Err (fault.Fault disk)) =
      (disk ≡ disks.Duty) × Failed disks.Duty × (is_up new ≡ false) × (duty_of new ≡ duty_of old) × (count_of new ≡ count_of old)
  ChangeRest duty (Err refusal) = ⊥

  -- A takeover besides: a booked frame of the node is not there, and it goes down.
  abbrev pub TakeRest : NodeName → Duty → Result Duty PairFault → Type 0
  TakeRest n duty (Err (fault.Damaged disk frame)) =
      (disk ≡ disk_of n) × GoesDown n × (frame ≡ len_of old n + 1) × (len_of old n < count_of old) × KeepsCourse
  TakeRest n duty result = ChangeRest duty result

  -- The image stands for duties of which the last is neither the one from before nor that of the failed change.
  abbrev pub IsAnother : ℕ → List ℕ → Type 0
  IsAnother frame image =
      (list : List Duty) × (duty : Duty) × duties.StandsFor list image × read.EndsWith list duty × (duty.epoch ≡ frame + 1)
      × (duty ≡ duty_of old → ⊥) × (old.failed ≡ Some duty → ⊥)

  -- A start of the register: it is up, with the duty from before or the one of the failed change; or its disk failed, is no register, or damaged; or tells another duty, which is damage too.
  abbrev pub StartDutyRest : Result Duty PairFault → Type 0
  StartDutyRest (Ok duty) =
      ((duty ≡ duty_of old) ⊎ (old.failed ≡ Some duty)) × (duty_of new ≡ duty) × (is_up new ≡ true) × (count_of new ≡ max (count_of old) duty.floor)
      × (is_up old ≡ false)
  StartDutyRest (Err (fault.Up disk)) = (disk ≡ disks.Duty) × (is_up old ≡ true) × (new ≡ old)
  StartDutyRest (Err (fault.Fault disk)) = (disk ≡ disks.Duty) × Failed disks.Duty × (is_up old ≡ false) × KeepsCourse
  StartDutyRest (Err (fault.Foreign disk)) =
      (disk ≡ disks.Duty) × (is_up old ≡ false) × KeepsCourse
      × ((image : List ℕ) → (state (disk_at old disks.Duty)).content ≡ Some image → duties.IsForeign image)
  StartDutyRest (Err (fault.Damaged disk frame)) =
      (disk ≡ disks.Duty) × (is_up old ≡ false) × KeepsCourse
      × ((image : List ℕ) → (state (disk_at old disks.Duty)).content ≡ Some image → duties.IsDamaged (bounds_of old).last_epoch frame image ⊎ IsAnother frame image)
  StartDutyRest (Err refusal) = ⊥

  -- Of a shipment: memory ran out, which is asked first; the holder's disk failed; or the frame on it is gone.
  abbrev pub ShipRest : NodeName → ℕ → Result ℕ PairFault → Type 0
  ShipRest n k (Ok number) =
      StaysUp n × KeepsCourse × (number ≡ length (sent_of old) + 1)
      × ((m : Message) × IsMessage state (node_of old n) k (duty_of old).epoch m × (sent_of new ≡ sent_of old ++ sent.Shipment n m ∷ []))
  ShipRest n k (Err (fault.Fault disk)) = (disk ≡ disk_of n) × GoesDown n × Failed disk × KeepsCourse
  ShipRest n k (Err (fault.Damaged disk frame)) =
      (disk ≡ disk_of n) × GoesDown n × (frame ≡ k) × IsGone state (journal_of (node_of old n)) k × KeepsCourse
  ShipRest n k (Err fault.NoMemory) = StaysUp n × KeepsCourse
  ShipRest n k (Err refusal) = ⊥

  abbrev pub ShipCauses : NodeName → ℕ → Result ℕ PairFault → Type 0
  ShipCauses n k result = Unless (rows.ship_refusal old n k) old new result (ShipRest n k result)

  -- Of the delivery of a message of this sender to the other node: it is stored; or memory ran out, or the node's disk failed.
  abbrev pub StoreRest : NodeName → Message → Result (Delivered × ℕ) PairFault → Type 0
  StoreRest sender m (Ok (it, made)) =
      StaysUp (other sender) × KeepsCourse × IsStored (node_of old (other sender)) (node_of new (other sender)) m it
      × IsAnswered old new sender (ack_made it) made
  StoreRest sender m (Err (fault.Fault disk)) =
      (disk ≡ disk_of (other sender)) × GoesDown (other sender) × Failed disk × KeepsCourse × (sent_of new ≡ sent_of old)
  StoreRest sender m (Err fault.NoMemory) = StaysUp (other sender) × KeepsCourse × (sent_of new ≡ sent_of old)
  StoreRest sender m (Err refusal) = ⊥

  -- Of the delivery of an acknowledgement: it is heard, or stale.
  abbrev pub HearRest : Ack → Result (Delivered × ℕ) PairFault → Type 0
  HearRest ack (Ok (it, made)) =
      let present = (duty_of old).epoch in
      (it ≡ heard ack present) × (made ≡ 0) × KeepsCourse × (sent_of new ≡ sent_of old)
      × (acked_of new ≡ acked_after (counted ack present) (acked_of old)) × (ended_of new ≡ ended_after (counted ack present) (ended_of old))
  HearRest ack (Err refusal) = ⊥

  -- of the delivery of this message
  abbrev pub DeliverCauses : ℕ → Option Sent → Result (Delivered × ℕ) PairFault → Type 0
  DeliverCauses i None result = (result ≡ Err (fault.NoMessage i (length (sent_of old)))) × (new ≡ old)
  DeliverCauses i (Some (sent.Shipment sender message)) result =
      Unless (rows.shipment_refusal old sender) old new result (StoreRest sender message result)
  DeliverCauses i (Some (sent.Acknowledgement to ack)) result = Unless (rows.ack_refusal old to) old new result (HearRest ack result)

  -- Of passing a frame on: the holder's disk failed, or the frame on it is gone; the other node is down; or its disk failed.
  abbrev pub PassRest : NodeName → ℕ → Result Delivered PairFault → Type 0
  PassRest n k (Ok it) = StaysUp n × StaysUp (other n) × KeepsCourse × IsPassed state old new n k it
  PassRest n k (Err (fault.Down disk)) = (disk ≡ disk_of (other n)) × StaysUp n × StaysDown (other n) × KeepsCourse
  PassRest n k (Err (fault.Fault disk)) =
      (((disk ≡ disk_of n) × GoesDown n) ⊎ ((disk ≡ disk_of (other n)) × GoesDown (other n))) × Failed disk × KeepsCourse
  PassRest n k (Err (fault.Damaged disk frame)) =
      (disk ≡ disk_of n) × GoesDown n × (frame ≡ k) × IsGone state (journal_of (node_of old n)) k × KeepsCourse
  PassRest n k (Err refusal) = ⊥

  abbrev pub PassCauses : ℕ → Result Delivered PairFault → Type 0
  PassCauses k result = Unless (rows.shipping_refusal old k) old new result (PassRest (rows.holder old) k result)

-- why the node is not started
abbrev pub pair_fault : NodeName → StartFault → PairFault
pair_fault n starting.DiskFault = fault.Fault (disk_of n)
pair_fault n starting.Foreign = fault.Foreign (disk_of n)
pair_fault n (starting.Damaged frame) = fault.Damaged (disk_of n) frame
pair_fault n (starting.Short have need) = fault.Short n have need
pair_fault n starting.NoMemory = fault.NoMemory

-- why the register is not started
abbrev pub register_fault : RegisterFault → PairFault
register_fault opening.DiskFault = fault.Fault disks.Duty
register_fault opening.Foreign = fault.Foreign disks.Duty
register_fault (opening.Damaged frame) = fault.Damaged disks.Duty frame

-- the status, or the refusal where there is one
abbrev pub status_or : Option PairFault → PairStatus → Result PairStatus PairFault
status_or None status = Ok status
status_or (Some refusal) status = Err refusal

-- The status is refused exactly where the register is down.
abbrev pub StatusCauses : {D : Type 0} → Pair D → Result PairStatus PairFault → Type 0
StatusCauses pair result =
    result ≡ status_or (rows.duty_is_down pair) (record {
      duty = duty_of pair;
      count = count_of pair;
      flight = rows.flight_told pair;
      len_a = rows.length_told pair node.A;
      len_b = rows.length_told pair node.B;
    })
