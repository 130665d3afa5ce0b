-- The pair of nodes: what it shows of the replicated world, and what each of its calls does there.
use Rattle.std.specs.Prelude.{◌≡◌, ◌⊎◌, ℕ, suc, ◌<◌, ◌≤◌, min, ◌||◌, not, if◌then◌else◌, Result, Ok, Err, Bool, true, List, [], length, map, Option, Some, None, is_none}
use Rattle.ali_base.specs.Faults.{Rose}
use Rattle.ali_base.specs.declared.duty.Duty.{Duty}
use Rattle.ali_base.specs.declared.duty.Mode.{Mode}
use Rattle.ali_base.specs.declared.duty.Mode.TheVariants.{Both, Alone}
use Rattle.ali_base.specs.declared.names.DiskName.{DiskName}
use Rattle.ali_base.specs.declared.names.DiskName.TheVariants as disks
use Rattle.ali_base.specs.declared.names.NodeName.{NodeName}
use Rattle.ali_base.specs.declared.names.NodeName.TheVariants.{A, B}
use Rattle.crash_disk.specs.CrashOutcomes.{Stays}
use Rattle.crash_disk.specs.DiskState.{DiskState, AlwaysTell}
use Rattle.crash_disk.specs.Moments.{EachMoment}
use Rattle.duty_register.specs.DutiesRead as read
use Rattle.duty_register.specs.DutyImage as duties
use Rattle.duty_register.specs.OpenRegister as register
use Rattle.duty_register.specs.declared.register.Register.{Register}
use Rattle.node_journal.specs.JournalImage.{StandsFor, IsForeign, IsDamaged}
use Rattle.node_journal.specs.OpenJournal as journal
use Rattle.office_entry.specs.declared.entry.Entry.{Entry}
use Rattle.office_state.specs.History as history
use Rattle.office_state.specs.OfficeState.{OfficeState}
use Rattle.office_state.specs.declared.limits.Limits.{Limits}
use Rattle.pair_world.specs.Changes.{shipped}
use Rattle.pair_world.specs.Frames.{Frame}
use Rattle.pair_world.specs.Moments.{IsUnderWay}
use Rattle.pair_world.specs.Refusals.{disk_of, is_alone}
use Rattle.pair_world.specs.Step.{Bounds, Deliver}
use Rattle.pair_world.specs.World.{World, NodeState, node_at, failed_write_at, duty_list, MayHold, MayList, opened_from, without_doubt, is_node, other}
use Rattle.world_rows.specs.Counts.{Counts, NeverFall}
use Rattle.world_rows.specs.Histories.{due_after, IsLawful}
use Rattle.world_rows.specs.Rows.{Row}
use Rattle.world_rows.specs.Told.{Told}
use Rattle.world_rows.specs.WorldSteps.{OfficeEvent, Comes}
use Rattle.pair_node.specs.NodeState as node
use Rattle.pair_core.specs.PairNodes.{node_in, sent_told}
use Rattle.pair_node.specs.StartedNode.{HasFrames}
use Rattle.pair_core.specs.declared.faults.OpenEnd.{OpenEnd}
use Rattle.pair_core.specs.declared.faults.OpenEnd.TheVariants as ends
use Rattle.pair_node.specs.declared.node.Node.{Node}
use Rattle.pair_core.specs.declared.pair.Pair.{Pair}
use Rattle.pair_core.specs.declared.sent.Sent.{Sent}

-- its node of this name
abbrev pub node_of : {D : Type 0} → Pair D → NodeName → Node D
node_of pair n = node_in pair.nodes n

-- whether the node of this name is up
abbrev pub is_node_up : {D : Type 0} → Pair D → NodeName → Bool
is_node_up pair n = node.is_usable (node_of pair n)

-- how many frames its journal has
abbrev pub len_of : {D : Type 0} → Pair D → NodeName → ℕ
len_of pair n = node.count_of (node_of pair n)

-- the table of the node of this name
abbrev pub table_of : {D : Type 0} → Pair D → NodeName → OfficeState
table_of pair n = node.office_of (node_of pair n)

-- the present duty; after a change that the disk refused, the one from before
abbrev pub duty_of : {D : Type 0} → Pair D → Duty
duty_of pair = pair.duty

-- whether the register is up: no change of duty is in doubt
abbrev pub is_up : {D : Type 0} → Pair D → Bool
is_up pair = is_none pair.failed

-- how many entries are booked
abbrev pub count_of : {D : Type 0} → Pair D → ℕ
count_of pair = pair.count

-- the greatest number that the other node acknowledged in this epoch, and the greatest end of the history; 0 for none
abbrev pub acked_of : {D : Type 0} → Pair D → ℕ
acked_of pair = pair.acked

abbrev pub ended_of : {D : Type 0} → Pair D → ℕ
ended_of pair = pair.ended

-- what is on its way between the nodes
abbrev pub sent_of : {D : Type 0} → Pair D → List Sent
sent_of pair = pair.messages.items

-- the disk of each name
abbrev pub disk_at : {D : Type 0} → Pair D → DiskName → D
disk_at pair disks.A = node.disk_of pair.nodes.a
disk_at pair disks.B = node.disk_of pair.nodes.b
disk_at pair disks.Duty = register.disk_of pair.register

-- how many frames each journal may have, and the last epoch
abbrev pub bounds_of : {D : Type 0} → Pair D → Bounds
bounds_of pair =
    record { frames = journal.limit_of (node.journal_of pair.nodes.a); last_epoch = register.last_epoch_of pair.register }

-- how often each disk has failed
abbrev pub counts_of : {D : Type 0} → (D → DiskState) → Pair D → Counts
counts_of state pair =
    record {
      a = (state (disk_at pair disks.A)).faults;
      b = (state (disk_at pair disks.B)).faults;
      duty = (state (disk_at pair disks.Duty)).faults;
    }

-- The node is in this state, and its disk may stand besides for what a failed write left. Each image that a crash now may leave stands for one of the two journals; while the node is up, it represents the one that the world has; and its table is one of this office's, under these limits.
pub record ShowsNode {D : Type 0} (state : D → DiskState) (limits : Limits) (n : NodeName) (own : Node D) (s : NodeState Entry) (failed : Option (List (Frame Entry))) : Type 0 where
  pub up : s.up ≡ node.is_usable own
  pub known : s.known ≡ node.known_of own
  pub images : (image : List ℕ) → (state (node.disk_of own)).may_leave image
      → (frames : List (Frame Entry)) × StandsFor n frames image × ((s.journal ≡ frames) ⊎ (failed ≡ Some frames))
  pub table : (booked : List Entry) × history.Represents limits (node.office_of own) booked
  pub frames : node.is_usable own ≡ true → node.Represents state limits own s.journal

-- The pair is in this world. Each image that a crash now may leave of the register's disk stands for one of the lists of duties that the world gives it; while the register is up, it represents the one that the world has.
pub record Shows {D : Type 0} (state : D → DiskState) (limits : Limits) (pair : Pair D) (w : World Entry) : Type 0 where
  pub tells : AlwaysTell state
  pub nodes : (n : NodeName) → ShowsNode state limits n (node_of pair n) (node_at w.base.nodes n) (failed_write_at w.failed_writes n)
  pub duty : duty_of pair ≡ w.base.duty
  pub register_up : w.register_up ≡ is_up pair
  pub failed : pair.failed ≡ w.failed_duty
  pub images : (image : List ℕ) → (state (disk_at pair disks.Duty)).may_leave image
      → (list : List Duty) × duties.StandsFor list image × MayList w list
  pub duties : is_up pair ≡ true → register.Represents state pair.register (duty_list w.base.duty w.base.past)
  pub count : count_of pair ≡ length w.base.booked
  pub acked : pair.acked ≡ w.base.acked
  pub ended : pair.ended ≡ w.base.ended
  pub messages : map sent_told (sent_of pair) ≡ w.base.messages

-- What a call is in the world: in each lawful world that the pair shows before it, the row of its event gives what is told, and the pair shows the world after.
abbrev pub Does : {D : Type 0} → (D → DiskState) → Pair D → Pair D → (Limits → Bool → World Entry → Row Told (World Entry)) → Option Told → Type 0
Does state old new row told =
    (limits : Limits) (w : World Entry) → Shows state limits old w → IsLawful limits (bounds_of old) w
    → (v : World Entry) × Shows state limits new v × Comes (counts_of state old) (counts_of state new) w (row limits) told v

-- the world before the event, or one that a fault of it leaves, in which something holds
abbrev pub UnderWay : Limits → Bounds → World Entry → OfficeEvent → (World Entry → Type 0) → Type 0
UnderWay limits bounds w event P = (u : World Entry) × IsUnderWay (due_after limits) bounds w event u × P u

-- the image stands for a journal that the node's disk may have then
abbrev pub LeavesJournal : Limits → Bounds → World Entry → OfficeEvent → NodeName → List ℕ → Type 0
LeavesJournal limits bounds w event n image =
    (frames : List (Frame Entry)) × StandsFor n frames image × UnderWay limits bounds w event (λ u. MayHold u n frames)

-- the image stands for duties that the register's disk may have then
abbrev pub LeavesDuties : Limits → Bounds → World Entry → OfficeEvent → List ℕ → Type 0
LeavesDuties limits bounds w event image =
    (list : List Duty) × duties.StandsFor list image × UnderWay limits bounds w event (λ u. MayList u list)

-- What a crash leaves of the three disks at any moment of the event, each for itself.
pub record AreMoments {D : Type 0} (state : D → DiskState) (limits : Limits) (old new : Pair D) (w : World Entry) (event : OfficeEvent) : Type 0 where
  pub a : EachMoment (state (disk_at old disks.A)) (state (disk_at new disks.A)) (LeavesJournal limits (bounds_of old) w event A)
  pub b : EachMoment (state (disk_at old disks.B)) (state (disk_at new disks.B)) (LeavesJournal limits (bounds_of old) w event B)
  pub duty : EachMoment (state (disk_at old disks.Duty)) (state (disk_at new disks.Duty)) (LeavesDuties limits (bounds_of old) w event)

-- A crash at any moment of the call leaves images that stand for what the world before the event gives the disks, or one that a fault of the event leaves.
abbrev pub Moments : {D : Type 0} → (D → DiskState) → Pair D → Pair D → OfficeEvent → Type 0
Moments state old new event =
    (limits : Limits) (w : World Entry) → Shows state limits old w → IsLawful limits (bounds_of old) w → AreMoments state limits old new w event

-- What no call changes: the limits of the journals and the last epoch. No count of faults falls, and no entry that is booked is lost.
pub record IsCall {D : Type 0} (state : D → DiskState) (old new : Pair D) : Type 0 where
  pub bounds : bounds_of new ≡ bounds_of old
  pub counts : NeverFall (counts_of state old) (counts_of state new)
  pub booked : count_of old ≤ count_of new

-- these three disks by their names
abbrev pub handed : {D : Type 0} → (a b duty : D) → DiskName → D
handed a b duty disks.A = a
handed a b duty disks.B = b
handed a b duty disks.Duty = duty

-- The disks after the call in the place of those before it: no byte is changed, and no count of faults falls.
pub record AreKept {D : Type 0} (state : D → DiskState) (old new : DiskName → D) : Type 0 where
  pub stay : (disk : DiskName) → Stays (state (old disk)) (state (new disk))
  pub faults : (disk : DiskName) → (state (old disk)).faults ≤ (state (new disk)).faults

-- how long the journal of a node must be under this duty when the pair is opened: as the history was when it began, where the node is its holder or the mode is Both
abbrev pub length_at_opening : Duty → NodeName → ℕ
length_at_opening duty n = if is_node n duty.holder || not (is_alone duty.mode) then duty.floor else 0

-- how many entries are booked when the pair is opened, by the lengths of the journals of the holder and of the other node: all that the holder's has; in mode Both as much of it as the other has too
abbrev pub booked_at_opening : Mode → (holder other : ℕ) → ℕ
booked_at_opening Alone holder other = holder
booked_at_opening Both holder other = min holder other

-- Opened: no byte is changed, both nodes are up, and no message is sent. Each journal is as long as the duty asks, and the booked history is known from the two. Where the disks tell their bytes, they stand for two journals and for duties; and where disks always do, the pair shows the world that is opened over them.
pub record IsOpened {D : Type 0} (state : D → DiskState) (a b duty : D) (limits : Limits) (frames last_epoch : ℕ) (pair : Pair D) : Type 0 where
  pub kept : AreKept state (handed a b duty) (disk_at pair)
  pub bounds : bounds_of pair ≡ record { frames = frames; last_epoch = last_epoch }
  pub up : is_up pair ≡ true
  pub nodes_up : (n : NodeName) → is_node_up pair n ≡ true
  pub sent : sent_of pair ≡ []
  pub enough : (n : NodeName) → length_at_opening (duty_of pair) n ≤ len_of pair n
  pub count :
      count_of pair
      ≡ booked_at_opening (duty_of pair).mode (len_of pair (duty_of pair).holder) (len_of pair (other (duty_of pair).holder))
  pub shown : (image_a image_b image_duty : List ℕ)
      → (state a).content ≡ Some image_a → (state b).content ≡ Some image_b → (state duty).content ≡ Some image_duty
      → (journal_a : List (Frame Entry)) × (journal_b : List (Frame Entry)) × (list : List Duty)
      × StandsFor A journal_a image_a × StandsFor B journal_b image_b × duties.StandsFor list image_duty
      × (length journal_a ≤ frames) × (length journal_b ≤ frames) × ((duty_of pair).epoch ≤ last_epoch) × read.EndsWith list (duty_of pair)
      × (AlwaysTell state → Shows state limits pair (without_doubt (opened_from list journal_a journal_b)))

-- the image is none that the disk of this name could have, or is damaged at this frame
abbrev pub IsForeignTo : DiskName → List ℕ → Type 0
IsForeignTo disks.A image = IsForeign A image
IsForeignTo disks.B image = IsForeign B image
IsForeignTo disks.Duty image = duties.IsForeign image

abbrev pub IsDamagedAt : (frames last_epoch : ℕ) → DiskName → ℕ → List ℕ → Type 0
IsDamagedAt frames last_epoch disks.A k image = IsDamaged A frames k image
IsDamagedAt frames last_epoch disks.B k image = IsDamaged B frames k image
IsDamagedAt frames last_epoch disks.Duty k image = duties.IsDamaged last_epoch k image

-- what a refusal to open says of the bytes of a disk; of a failure, that the count of faults rose
abbrev pub OpenCause : {D : Type 0} → (D → DiskState) → (old new : DiskName → D) → (frames last_epoch : ℕ) → OpenEnd → Type 0
OpenCause state old new frames last_epoch (ends.OpenFault disk) = Rose (state (old disk)).faults (state (new disk)).faults
OpenCause state old new frames last_epoch (ends.Foreign disk) =
    (image : List ℕ) → (state (old disk)).content ≡ Some image → IsForeignTo disk image
OpenCause state old new frames last_epoch (ends.Damaged disk k) =
    (image : List ℕ) → (state (old disk)).content ≡ Some image → IsDamagedAt frames last_epoch disk k image
OpenCause state old new frames last_epoch (ends.Short node have floor) =
    (have < floor)
    × ((image : List ℕ) → (state (old (disk_of node))).content ≡ Some image → HasFrames node have image)
    × ((image : List ℕ) → (state (old disks.Duty)).content ≡ Some image
    → (list : List Duty) × (duty : Duty) × duties.StandsFor list image × read.EndsWith list duty × (floor ≡ length_at_opening duty node))
OpenCause state old new frames last_epoch ends.NoMemory = Unit {0}

-- The register's bytes, where the disk tells them, stand for duties of which this is the last, and its epoch is within the last one.
abbrev pub IsPresent : DiskState → ℕ → Duty → Type 0
IsPresent s last_epoch duty =
    (duty.epoch ≤ last_epoch)
    × ((image : List ℕ) → s.content ≡ Some image → (list : List Duty) × duties.StandsFor list image × read.EndsWith list duty)

-- The bytes of the node's disk, where it tells them, stand for a journal that is as long as this duty asks.
abbrev pub IsEnough : DiskState → NodeName → ℕ → Duty → Type 0
IsEnough s n frames duty =
    (image : List ℕ) → s.content ≡ Some image
    → (journal : List (Frame Entry)) × StandsFor n journal image × (length journal ≤ frames) × (length_at_opening duty n ≤ length journal)

-- what the disks are that are opened before this one: the register, then that of node a
abbrev pub AreOpenedBefore : {D : Type 0} → (D → DiskState) → (old : DiskName → D) → (frames last_epoch : ℕ) → DiskName → Type 0
AreOpenedBefore state old frames last_epoch disks.Duty = Unit {0}
AreOpenedBefore state old frames last_epoch disks.A = (duty : Duty) × IsPresent (state (old disks.Duty)) last_epoch duty
AreOpenedBefore state old frames last_epoch disks.B =
    (duty : Duty) × IsPresent (state (old disks.Duty)) last_epoch duty × IsEnough (state (old disks.A)) A frames duty

-- the same by the refusal: want of memory comes of the nodes alone
abbrev pub OpenedBefore : {D : Type 0} → (D → DiskState) → (old : DiskName → D) → (frames last_epoch : ℕ) → OpenEnd → Type 0
OpenedBefore state old frames last_epoch (ends.OpenFault disk) = AreOpenedBefore state old frames last_epoch disk
OpenedBefore state old frames last_epoch (ends.Foreign disk) = AreOpenedBefore state old frames last_epoch disk
OpenedBefore state old frames last_epoch (ends.Damaged disk k) = AreOpenedBefore state old frames last_epoch disk
OpenedBefore state old frames last_epoch (ends.Short node have floor) = AreOpenedBefore state old frames last_epoch (disk_of node)
OpenedBefore state old frames last_epoch ends.NoMemory = AreOpenedBefore state old frames last_epoch disks.A

-- The disks are handed back: no byte is changed, the image is as the refusal says, and those of the disks before it were opened.
pub record IsRefused {D : Type 0} (state : D → DiskState) (a b duty : D) (frames last_epoch : ℕ) (back : D × D × D × OpenEnd) : Type 0 where
  pub kept : AreKept state (handed a b duty) (handed back.0 back.1 back.2)
  pub cause : OpenCause state (handed a b duty) (handed back.0 back.1 back.2) frames last_epoch back.3
  pub before : OpenedBefore state (handed a b duty) frames last_epoch back.3

-- when each answer of an opening comes
abbrev pub OpenAnswers : {D : Type 0} → (D → DiskState) → (a b duty : D) → Limits → (frames last_epoch : ℕ) → Result (Pair D) (D × D × D × OpenEnd) → Type 0
OpenAnswers state a b duty limits frames last_epoch (Ok pair) = IsOpened state a b duty limits frames last_epoch pair
OpenAnswers state a b duty limits frames last_epoch (Err back) = IsRefused state a b duty frames last_epoch back

-- the three disks, as they are
abbrev pub Closes : {D : Type 0} → Pair D → D × D × D → Type 0
Closes pair back = (back.0 ≡ disk_at pair disks.A) × (back.1 ≡ disk_at pair disks.B) × (back.2 ≡ disk_at pair disks.Duty)

-- A crash at any moment of passing frame k on leaves what the delivery of the message leaves, as the last one on its way.
abbrev pub PassMoments : {D : Type 0} → (D → DiskState) → Pair D → Pair D → ℕ → Type 0
PassMoments state old new k =
    (limits : Limits) (w : World Entry) → Shows state limits old w → IsLawful limits (bounds_of old) w
    → AreMoments state limits old new (record w { base = shipped w.base k }) (Deliver (suc (length w.base.messages)))
