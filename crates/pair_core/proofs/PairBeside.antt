-- What stays beside the node, the register or the messages that a call is about.
use Rattle.std.proofs.Common.{◌≡◌, ℕ, refl, sym, ap, subst, ◌∙◌, Option, Some, None, Result, Ok, Err, true}
use Rattle.ali_base.specs.declared.duty.Duty.{Duty}
use Rattle.ali_base.specs.declared.names.NodeName.{NodeName}
use Rattle.ali_base.specs.declared.names.NodeName.TheVariants.{A, B}
use Rattle.crash_disk.specs.DiskState.{DiskState}
use Rattle.office_entry.specs.declared.entry.Entry.{Entry}
use Rattle.pair_node.specs.NodeState.{is_usable}
use Rattle.pair_node.specs.declared.message.Ack.{Ack}
use Rattle.pair_node.specs.declared.message.Delivered.{Delivered}
use Rattle.pair_node.specs.declared.message.Message.{Message}
use Rattle.pair_node.specs.declared.node.Node.{Node}
use Rattle.pair_world.specs.Refusals.{disk_of}
use Rattle.pair_world.specs.World.{other}
use Rattle.pair_core.specs.Pair.{node_of, is_node_up, duty_of, sent_of}
use Rattle.pair_core.specs.PairAnswers.{Unless, SameNode, SameSent, KeepsOther, KeepsNodes, KeepsTaker, KeepsApart, KeepsSound, DeliverKeeps, counted, heard}
use Rattle.pair_core.specs.PairChanges.{IsBesideNode, IsChange, ChangeLeaves}
use Rattle.pair_core.specs.PairDuties.{IsBesideRegister, HasEntered}
use Rattle.pair_core.specs.PairMessages.{IsBesideMessages, IsHeard, IsMade, MadeAnswers, hearing}
use Rattle.pair_core.specs.PairNodes.{node_in, put}
use Rattle.pair_core.specs.PairRefusals as rows
use Rattle.pair_core.specs.PairWrites.{AppendAnswers, HasOneMore}
use Rattle.pair_core.specs.declared.faults.PairFault.{PairFault}
use Rattle.pair_core.specs.declared.faults.PairFault.TheVariants as fault
use Rattle.pair_core.specs.declared.nodes.Nodes.{Nodes}
use Rattle.pair_core.specs.declared.pair.Pair.{Pair}
use Rattle.pair_core.specs.declared.sent.Sent.{Sent}
use Rattle.pair_core.specs.declared.sent.Sent.TheVariants as sent

-- ---- one node changes

put_beside : {D : Type 0} (nodes : Nodes D) (n : NodeName) (x : Node D) → node_in (put nodes n x) (other n) ≡ node_in nodes (other n)
put_beside nodes A x = refl
put_beside nodes B x = refl

module _ {D : Type 0} (old new : Pair D) (n : NodeName) where
  other_kept : new.nodes ≡ put old.nodes n (node_of new n) → SameNode old new (other n)
  other_kept nodes = ap (λ (x : Nodes D). is_usable (node_in x (other n))) nodes ∙ ap is_usable (put_beside old.nodes n (node_of new n))

  pub beside_keeps : IsBesideNode old new n → KeepsOther old new n
  beside_keeps beside = (other_kept beside.nodes, ap (λ ms. ms.items) beside.messages)

  pub counted_keeps : HasOneMore old new n → KeepsOther old new n
  counted_keeps more = (other_kept more.nodes, ap (λ ms. ms.items) more.messages)

  pub here_keeps : new ≡ old → KeepsOther old new n
  here_keeps is = (ap (λ (p : Pair D). is_node_up p (other n)) is, ap (λ (p : Pair D). sent_of p) is)

  pub append_keeps : (state : D → DiskState) (entry : Entry) (result : Result ℕ PairFault) → AppendAnswers state old new n entry result → KeepsOther old new n
  append_keeps state entry (Ok number) written = beside_keeps written.beside
  append_keeps state entry (Err (fault.NotDue due)) answer = here_keeps answer.1
  append_keeps state entry (Err (fault.Full limit)) written = beside_keeps written.beside
  append_keeps state entry (Err (fault.Fault disk)) answer = beside_keeps answer.1.beside
  append_keeps state entry (Err refusal) answer = absurd answer

-- one part after another
pub keeps_on : {D : Type 0} (old mid new : Pair D) (n : NodeName) → KeepsOther old mid n → KeepsOther mid new n → KeepsOther old new n
keeps_on old mid new n first second = (second.0 ∙ first.0, second.1 ∙ first.1)

-- ---- the register changes

known_kept : {D : Type 0} (nodes : Nodes D) (n : NodeName) (epoch : ℕ) (k : NodeName) → is_usable (node_in (put nodes n (record (node_in nodes n) { known = epoch })) k) ≡ is_usable (node_in nodes k)
known_kept nodes A epoch A = refl
known_kept nodes A epoch B = refl
known_kept nodes B epoch A = refl
known_kept nodes B epoch B = refl

module _ {D : Type 0} (old new : Pair D) where
  all_kept : new.nodes ≡ old.nodes → (k : NodeName) → SameNode old new k
  all_kept nodes k = ap (λ (x : Nodes D). is_usable (node_in x k)) nodes

  taught_kept : (n : NodeName) (epoch : ℕ) → new.nodes ≡ put old.nodes n (record (node_of old n) { known = epoch }) → (k : NodeName) → SameNode old new k
  taught_kept n epoch nodes k = ap (λ (x : Nodes D). is_usable (node_in x k)) nodes ∙ known_kept old.nodes n epoch k

  pub change_keeps : (state : D → DiskState) (duty : Duty) (result : Result Duty PairFault) → IsChange state old new duty result → KeepsNodes old new
  change_keeps state duty result changed = (by_result result changed.leaves, ap (λ ms. ms.items) changed.messages)
    where
      by_result : (r : Result Duty PairFault) → ChangeLeaves state old new duty r → (k : NodeName) → SameNode old new k
      by_result (Ok d) leaves = taught_kept duty.holder duty.epoch leaves.0
      by_result (Err f) leaves = all_kept leaves.0

  pub register_keeps : IsBesideRegister old new → KeepsNodes old new
  register_keeps beside = (all_kept beside.nodes, ap (λ ms. ms.items) beside.messages)

  pub enter_keeps : (duty : Duty) (booked : ℕ) → HasEntered old new duty booked → KeepsNodes old new
  enter_keeps duty booked entered = (taught_kept duty.holder duty.epoch entered.nodes, ap (λ ms. ms.items) entered.messages)

  -- a takeover that changed the duty, or was refused by the register
  pub taker_keeps : (n : NodeName) (result : Result Duty PairFault) → KeepsNodes old new → KeepsOther old new n × KeepsTaker old new n result
  taker_keeps n result keeps = ((keeps.0 (other n), keeps.1), by_result result)
    where
      by_result : (r : Result Duty PairFault) → KeepsTaker old new n r
      by_result (Ok duty) = keeps.0 n
      by_result (Err (fault.Damaged disk frame)) = tt
      by_result (Err f) = keeps.0 n

pub nodes_on : {D : Type 0} (old mid new : Pair D) → KeepsNodes old mid → KeepsNodes mid new → KeepsNodes old new
nodes_on old mid new first second = (λ k. second.0 k ∙ first.0 k, second.1 ∙ first.1)

pub taker_here : {D : Type 0} (p : Pair D) (n : NodeName) (result : Result Duty PairFault) → KeepsOther p p n × KeepsTaker p p n result
taker_here p n result = taker_keeps p p n result (λ k. refl, refl)

-- ---- messages

other_other : (n : NodeName) → other (other n) ≡ n
other_other A = refl
other_other B = refl

module _ {D : Type 0} (old new : Pair D) where
  -- the messages change
  pub messages_keep : IsBesideMessages old new → (k : NodeName) → SameNode old new k
  messages_keep beside = all_kept old new beside.nodes

  -- room for one more
  pub room_keeps : IsBesideMessages old new → SameSent old new → (n : NodeName) → KeepsOther old new n
  room_keeps beside same n = (messages_keep beside (other n), same)

  -- of a delivery to the other node
  pub sender_keeps : (sender receiver : NodeName) → receiver ≡ other sender → KeepsOther old new receiver → SameNode old new sender
  sender_keeps sender receiver is keeps = subst (SameNode old new) (ap other is ∙ other_other sender) keeps.0

  -- an acknowledgement is delivered
  pub heard_keeps : (to : NodeName) (ack : Ack) (result : Result (Delivered × ℕ) PairFault) → IsHeard old new to ack result → (k : NodeName) → SameNode old new k
  heard_keeps to ack result is k = by_refusal (rows.ack_refusal old to) is
    where
      by_refusal : (o : Option PairFault) → Unless o old new result ((result ≡ Ok (heard ack (duty_of old).epoch, 0)) × (new ≡ hearing old (counted ack (duty_of old).epoch))) → SameNode old new k
      by_refusal (Some f) h = ap (λ (p : Pair D). is_node_up p k) h.1
      by_refusal None h = ap (λ (p : Pair D). is_node_up p k) h.1

pub delivered_here : {D : Type 0} (p : Pair D) (message : Option Sent) → DeliverKeeps p p message
delivered_here p None = tt
delivered_here p (Some (sent.Shipment sender message)) = refl
delivered_here p (Some (sent.Acknowledgement to ack)) = λ n. refl

-- ---- frames that are passed on

-- the node whose disk is not this one's is the other
apart_is : (n k : NodeName) → (disk_of k ≡ disk_of n → ⊥) → other n ≡ k
apart_is A A not = absurd (not refl)
apart_is A B not = refl
apart_is B A not = refl
apart_is B B not = absurd (not refl)

module _ {D : Type 0} (old new : Pair D) where
  -- where one node changes, the nodes of the other disks are as they were
  pub apart_keeps : (n : NodeName) → SameNode old new (other n) → KeepsApart old new (disk_of n)
  apart_keeps n same k not = subst (SameNode old new) (apart_is n k not) same

  -- where both nodes are as they were
  pub sound_keeps : (f : PairFault) → ((k : NodeName) → SameNode old new k) → KeepsSound old new f
  sound_keeps (fault.Fault disk) same = λ k not. same k
  sound_keeps (fault.Damaged disk frame) same = λ k not. same k
  sound_keeps f same = tt

  -- a message is not made
  pub unmade_keeps : (state : D → DiskState) (n : NodeName) (k : ℕ) (f : PairFault) → IsMade state old new n k (Err f) → SameSent old new × KeepsSound old new f
  unmade_keeps state n k f made = (keeps.1, by_fault f made.answer)
    where
      keeps : KeepsOther old new n
      keeps = beside_keeps old new n made.beside

      by_fault : (f : PairFault) → MadeAnswers state old new n k (Err f) → KeepsSound old new f
      by_fault (fault.Fault disk) answer = subst (KeepsApart old new) (sym answer.0) (apart_keeps n keeps.0)
      by_fault (fault.Damaged disk frame) answer = subst (KeepsApart old new) (sym answer.0) (apart_keeps n keeps.0)
      by_fault f answer = absurd answer

  -- a message is made: its node is up still
  pub made_keeps : (state : D → DiskState) (n : NodeName) (k : ℕ) (m : Message) → is_node_up old n ≡ true → IsMade state old new n k (Ok m) → (j : NodeName) → SameNode old new j
  made_keeps state n k m up made j = by_name n j refl
    where
      same : SameNode old new n
      same = made.answer.2 ∙ sym up

      keeps : KeepsOther old new n
      keeps = beside_keeps old new n made.beside

      by_name : (l j : NodeName) → l ≡ n → SameNode old new j
      by_name A A is = subst (SameNode old new) (sym is) same
      by_name A B is = subst (λ h. SameNode old new (other h)) (sym is) keeps.0
      by_name B A is = subst (λ h. SameNode old new (other h)) (sym is) keeps.0
      by_name B B is = subst (SameNode old new) (sym is) same

-- the other node's disk failed
pub unstored_keeps : {D : Type 0} (old mid new : Pair D) (r : NodeName) → ((k : NodeName) → SameNode old mid k) → SameSent old mid → KeepsOther mid new r → SameSent old new × KeepsSound old new (fault.Fault (disk_of r))
unstored_keeps old mid new r same sent keeps = (keeps.1 ∙ sent, apart_keeps old new r (keeps.0 ∙ same (other r)))
