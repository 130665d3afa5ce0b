-- What the parts of an opening do.
use Rattle.std.specs.Prelude.{◌≡◌, ℕ, ◌≤◌, true, [], None, Result, Ok, Err}
use Rattle.ali_base.specs.declared.duty.Duty.{Duty}
use Rattle.ali_base.specs.declared.names.DiskName.TheVariants as disks
use Rattle.ali_base.specs.declared.names.NodeName.{NodeName}
use Rattle.ali_base.specs.declared.names.NodeName.TheVariants.{A, B}
use Rattle.crash_disk.specs.DiskState.{DiskState}
use Rattle.duty_register.specs.OpenRegister as registers
use Rattle.duty_register.specs.declared.faults.RegisterFault.{RegisterFault}
use Rattle.duty_register.specs.declared.faults.RegisterFault.TheVariants as opening
use Rattle.duty_register.specs.declared.register.Register.{Register}
use Rattle.node_journal.specs.OpenJournal as journals
use Rattle.office_state.specs.declared.limits.Limits.{Limits}
use Rattle.pair_node.specs.NodeState.{journal_of, count_of, learned_of, known_of}
use Rattle.pair_node.specs.StartedNode.{Asked, IsStarted, IsRefused}
use Rattle.pair_node.specs.declared.faults.StartFault.{StartFault}
use Rattle.pair_node.specs.declared.faults.StartFault.TheVariants as starting
use Rattle.pair_node.specs.declared.node.Node.{Node}
use Rattle.pair_world.specs.Refusals.{disk_of}
use Rattle.pair_world.specs.World.{other}
use Rattle.pair_core.specs.Pair.{length_at_opening, booked_at_opening}
use Rattle.pair_core.specs.PairNodes.{node_in}
use Rattle.pair_core.specs.declared.faults.OpenEnd.{OpenEnd}
use Rattle.pair_core.specs.declared.faults.OpenEnd.TheVariants as ends
use Rattle.pair_core.specs.declared.nodes.Nodes.{Nodes}
use Rattle.pair_core.specs.declared.pair.Pair.{Pair}

-- what a node is asked under this duty
abbrev pub asked_under : Duty → NodeName → Limits → ℕ → Asked
asked_under duty n limits frames = record {
  name = n;
  known = duty.epoch;
  need = length_at_opening duty n;
  limits = limits;
  limit = frames;
}

-- why the pair is not opened, by why its register is not
abbrev pub register_end : RegisterFault → OpenEnd
register_end opening.DiskFault = ends.OpenFault disks.Duty
register_end opening.Foreign = ends.Foreign disks.Duty
register_end (opening.Damaged frame) = ends.Damaged disks.Duty frame

-- the same, by why its node is not
abbrev pub node_end : NodeName → StartFault → OpenEnd
node_end n starting.DiskFault = ends.OpenFault (disk_of n)
node_end n starting.Foreign = ends.Foreign (disk_of n)
node_end n (starting.Damaged frame) = ends.Damaged (disk_of n) frame
node_end n (starting.Short have need) = ends.Short n have need
node_end n starting.NoMemory = ends.NoMemory

-- The node is started, with the length that it must have under this duty; or its disk is handed back.
abbrev pub StartsUnder : {D : Type 0} → (D → DiskState) → D → NodeName → Duty → Limits → ℕ → Result (Node D) (D × OpenEnd) → Type 0
StartsUnder state disk n duty limits frames (Ok node) = IsStarted state disk (asked_under duty n limits frames) node
StartsUnder state disk n duty limits frames (Err back) =
    (fault : StartFault) × (back.1 ≡ node_end n fault) × IsRefused state disk (asked_under duty n limits frames) back.0 fault

-- how many entries are booked, by the journals of these nodes
abbrev pub booked_in : {D : Type 0} → Nodes D → Duty → ℕ
booked_in nodes duty =
    booked_at_opening duty.mode (count_of (node_in nodes duty.holder)) (count_of (node_in nodes (other duty.holder)))

-- The nodes are started under the duty of the register.
pub record MayJoin {D : Type 0} (a b : Node D) (register : Register D) : Type 0 where
  pub named_a : journals.name_of (journal_of a) ≡ A
  pub named_b : journals.name_of (journal_of b) ≡ B
  pub limits : journals.limit_of (journal_of a) ≡ journals.limit_of (journal_of b)
  pub learned_a : learned_of a ≡ 0
  pub learned_b : learned_of b ≡ 0
  pub known_a : known_of a ≡ (registers.duty_of register).epoch
  pub known_b : known_of b ≡ (registers.duty_of register).epoch
  pub enough_a : length_at_opening (registers.duty_of register) A ≤ count_of a
  pub enough_b : length_at_opening (registers.duty_of register) B ≤ count_of b
  pub counted : 1 ≤ (registers.duty_of register).epoch
  pub within : (registers.duty_of register).epoch ≤ registers.last_epoch_of register
  pub usable : registers.is_usable register ≡ true

-- The pair of these nodes and this register: nothing is acknowledged, and no message on its way.
pub record IsJoined {D : Type 0} (a b : Node D) (opened : Register D) (pair : Pair D) : Type 0 where
  pub nodes : pair.nodes ≡ record { a = a; b = b }
  pub register : pair.register ≡ opened
  pub duty : pair.duty ≡ registers.duty_of opened
  pub failed : pair.failed ≡ None
  pub count : pair.count ≡ booked_in pair.nodes (registers.duty_of opened)
  pub acked : pair.acked ≡ 0
  pub ended : pair.ended ≡ 0
  pub messages : pair.messages.items ≡ []
