-- What a write and a booking change of a pair whose holder's table is ready.
use Rattle.std.specs.Prelude.{◌≡◌, ℕ, ◌+◌, Result, Ok, Err}
use Rattle.crash_disk.specs.DiskState.{DiskState}
use Rattle.ali_base.specs.declared.names.NodeName.{NodeName}
use Rattle.node_journal.specs.JournalState.{with_frame}
use Rattle.node_journal.specs.declared.faults.AppendFault.{AppendFault}
use Rattle.node_journal.specs.declared.faults.AppendFault.TheVariants as appending
use Rattle.office_entry.specs.declared.entry.Entry.{Entry}
use Rattle.office_state.specs.Due.{IsDue, due_of}
use Rattle.office_state.specs.declared.verdict.Verdict.{Verdict}
use Rattle.pair_world.specs.Refusals.{disk_of}
use Rattle.pair_node.specs.WrittenFrame.{Becomes, CrashesBetween, IsFixed, WriteAnswers}
use Rattle.pair_node.specs.declared.faults.LearnFault.{LearnFault}
use Rattle.pair_core.specs.Pair.{node_of, table_of, duty_of}
use Rattle.pair_core.specs.PairChanges.{IsBesideNode}
use Rattle.pair_core.specs.PairNodes.{put}
use Rattle.pair_core.specs.declared.faults.PairFault.{PairFault}
use Rattle.pair_core.specs.declared.faults.PairFault.TheVariants as fault
use Rattle.pair_core.specs.declared.pair.Pair.{Pair}

-- An entry that may be booked next in the node's table was to be written in this epoch, and its journal answered so. Nothing else changed.
pub record IsWritten {D : Type 0} (state : D → DiskState) (old new : Pair D) (n : NodeName) (entry : Entry) (epoch : ℕ) (result : Result ℕ AppendFault) : Type 0 where
  pub told : due_of (table_of old n).state entry ≡ Ok tt
  pub due : IsDue (table_of old n).state entry
  pub stored : Becomes state (with_frame entry epoch) (node_of old n) (node_of new n) result
  pub moments : CrashesBetween state (with_frame entry epoch) (node_of old n) (node_of new n)
  pub answer : WriteAnswers state (node_of old n) (node_of new n) epoch result
  pub fixed : IsFixed state (node_of old n) (node_of new n)
  pub beside : IsBesideNode old new n

-- when each answer of a write comes, once the table is ready
abbrev pub AppendAnswers : {D : Type 0} → (D → DiskState) → Pair D → Pair D → NodeName → Entry → Result ℕ PairFault → Type 0
AppendAnswers state old new n entry (Ok number) = IsWritten state old new n entry (duty_of old).epoch (Ok number)
AppendAnswers state old new n entry (Err (fault.NotDue due)) = (due_of (table_of old n).state entry ≡ Err due) × (new ≡ old)
AppendAnswers state old new n entry (Err (fault.Full limit)) =
    IsWritten state old new n entry (duty_of old).epoch (Err (appending.Full limit))
AppendAnswers state old new n entry (Err (fault.Fault disk)) =
    (disk ≡ disk_of n) × IsWritten state old new n entry (duty_of old).epoch (Err appending.DiskFault)
AppendAnswers state old new n entry (Err refusal) = ⊥

-- One entry more is booked. One node may have changed besides, and nothing else.
pub record HasOneMore {D : Type 0} (old new : Pair D) (n : NodeName) : Type 0 where
  pub nodes : new.nodes ≡ put old.nodes n (node_of new n)
  pub register : new.register ≡ old.register
  pub duty : new.duty ≡ old.duty
  pub failed : new.failed ≡ old.failed
  pub count : new.count ≡ old.count + 1
  pub acked : new.acked ≡ old.acked
  pub ended : new.ended ≡ old.ended
  pub messages : new.messages ≡ old.messages

-- the pending entry is booked where the node learned it
abbrev pub CountsNext : {D : Type 0} → Pair D → Pair D → NodeName → Result Verdict LearnFault → Type 0
CountsNext old new n (Ok verdict) = HasOneMore old new n
CountsNext old new n (Err failed) = IsBesideNode old new n
