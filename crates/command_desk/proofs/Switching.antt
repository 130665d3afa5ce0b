-- What the calls of the pair switch, over any disks: a refusal of a call's row is told and nothing changes; `DOWN` is the first that is down of those that the command needs.
use Rattle.std.proofs.Common.{◌≡◌, ◌⊎◌, inl, inr, Bool, true, false, not, if◌then◌else◌, List, [], ◌∷◌, refl, ap, sym, ◌∙◌, subst, Option, Some, None, Result, Err}
use Rattle.std.proofs.lemmas.List.Elements.{All-cons, All-nil}
use Rattle.ali_base.specs.Steps.{when}
use Rattle.ali_base.specs.declared.names.DiskName.{DiskName}
use Rattle.ali_base.specs.declared.names.DiskName.TheVariants as disk
use Rattle.ali_base.specs.declared.names.NodeName.{NodeName}
use Rattle.ali_base.specs.declared.names.NodeName.TheVariants.{A, B}
use Rattle.command_machine.specs.Replies as replies
use Rattle.command_machine.specs.Switches.{Switches, After, HasFailed, IsSwitched, first_off, found_up, needed_by, with_node}
use Rattle.command_desk.specs.DeskSteps.{IsPlain}
use Rattle.command_desk.specs.MadeReply.{fault_reply, switches_of}
use Rattle.command_desk.specs.declared.desk.Desk.{Desk}
use Rattle.office_commands.specs.Commands.{Command}
use Rattle.pair_core.specs.Pair.{is_node_up, is_up}
use Rattle.pair_core.specs.PairAnswers.{Unless}
use Rattle.pair_core.specs.PairRefusals as rows
use Rattle.pair_core.specs.PairRefusals.{first_of, or_first}
use Rattle.pair_core.specs.declared.faults.PairFault.{PairFault}
use Rattle.pair_core.specs.declared.faults.PairFault.TheVariants as fault
use Rattle.pair_world.specs.Refusals.{Down, Up, disk_of}
use Rattle.pair_world.proofs.Items.{none_some, some_is}
use Rattle.world_rows.specs.Counts.{Counts}
use Rattle.world_rows.specs.Told as world

-- ---- the first refusal of a row

pub or_some : (f : PairFault) (rest : List (Option PairFault)) → or_first (Some f) rest ≡ Some f
or_some f [] = refl
or_some f (next ∷ more) = or_some f more

pub none_first : (rest : List (Option PairFault)) → or_first None rest ≡ first_of rest
none_first [] = refl
none_first (next ∷ more) = refl

-- of the register and this node, the one that is down
abbrev pub down_of : Bool → Bool → DiskName → Option DiskName
down_of false node d = Some disk.Duty
down_of true false d = Some d
down_of true true d = None

-- a row that begins with the register and a node: `DOWN` of the first that is down; or the rest
pub row_case : (register node : Bool) (d : DiskName) (rest : List (Option PairFault)) (f : PairFault)
    → first_of (when (not register) (fault.Down disk.Duty) ∷ when (not node) (fault.Down d) ∷ rest) ≡ Some f
    → ((e : DiskName) × (f ≡ fault.Down e) × (down_of register node d ≡ Some e)) ⊎ ((down_of register node d ≡ None) × (first_of rest ≡ Some f))
row_case false node d rest f h = inl (disk.Duty, sym (some_is (fault.Down disk.Duty) f (sym (or_some (fault.Down disk.Duty) rest) ∙ h)), refl)
row_case true false d rest f h = inl (d, sym (some_is (fault.Down d) f (sym (or_some (fault.Down d) rest) ∙ h)), refl)
row_case true true d rest f h = inr (refl, sym (none_first rest) ∙ h)

pub row_none : (register node : Bool) (d : DiskName) (rest : List (Option PairFault))
    → first_of (when (not register) (fault.Down disk.Duty) ∷ when (not node) (fault.Down d) ∷ rest) ≡ None
    → (down_of register node d ≡ None) × (first_of rest ≡ None)
row_none false node d rest h = absurd (none_some (fault.Down disk.Duty) (sym h ∙ or_some (fault.Down disk.Duty) rest))
row_none true false d rest h = absurd (none_some (fault.Down d) (sym h ∙ or_some (fault.Down d) rest))
row_none true true d rest h = (refl, sym (none_first rest) ∙ h)

-- what the switches say of the two
pub first_off_is : {D : Type 0} (desk : Desk D) (n : NodeName) → first_off (switches_of desk) (with_node n) ≡ down_of (is_up desk.pair) (is_node_up desk.pair n) (disk_of n)
first_off_is desk A = by_case (is_up desk.pair) (is_node_up desk.pair A)
  where
    by_case : (r a : Bool) → (if r then (if a then None else Some disk.A) else Some disk.Duty) ≡ down_of r a disk.A
    by_case false a = refl
    by_case true false = refl
    by_case true true = refl
first_off_is desk B = by_case (is_up desk.pair) (is_node_up desk.pair B)
  where
    by_case : (r b : Bool) → (if r then (if b then None else Some disk.B) else Some disk.Duty) ≡ down_of r b disk.B
    by_case false b = refl
    by_case true false = refl
    by_case true true = refl

-- ---- refusals that are neither `DOWN` nor `UP` and switch nothing

abbrev pub IsQuiet : PairFault → Type 0
IsQuiet (fault.Down d) = ⊥
IsQuiet (fault.Up d) = ⊥
IsQuiet (fault.Fault d) = ⊥
IsQuiet (fault.Foreign d) = ⊥
IsQuiet (fault.Damaged d frame) = ⊥
IsQuiet (fault.Short node have need) = ⊥
IsQuiet f = Unit {0}

pub record Quiet (f : PairFault) : Type 0 where
  pub plain : IsPlain (fault_reply f)
  pub failed : (before now : Counts) → HasFailed before now (fault_reply f)
  pub after : (s : Switches) (command : Command) → After s command (fault_reply f) s

pub quiet : (f : PairFault) → IsQuiet f → Quiet f
quiet (fault.OutOfDuty n e h) is = record { plain = tt; failed = λ before now. tt; after = λ s command. refl }
quiet (fault.InFlight n) is = record { plain = tt; failed = λ before now. tt; after = λ s command. refl }
quiet fault.NoFlight is = record { plain = tt; failed = λ before now. tt; after = λ s command. refl }
quiet (fault.Unstored n e) is = record { plain = tt; failed = λ before now. tt; after = λ s command. refl }
quiet (fault.NoEntry n l) is = record { plain = tt; failed = λ before now. tt; after = λ s command. refl }
quiet (fault.NoMessage n sent) is = record { plain = tt; failed = λ before now. tt; after = λ s command. refl }
quiet (fault.MessagesFull l) is = record { plain = tt; failed = λ before now. tt; after = λ s command. refl }
quiet (fault.NotPaired e h) is = record { plain = tt; failed = λ before now. tt; after = λ s command. refl }
quiet (fault.Paired e h) is = record { plain = tt; failed = λ before now. tt; after = λ s command. refl }
quiet (fault.NotInStep e d) is = record { plain = tt; failed = λ before now. tt; after = λ s command. refl }
quiet (fault.EpochEnd e) is = record { plain = tt; failed = λ before now. tt; after = λ s command. refl }
quiet (fault.NotDue due) is = record { plain = tt; failed = λ before now. tt; after = λ s command. refl }
quiet (fault.Full l) is = record { plain = tt; failed = λ before now. tt; after = λ s command. refl }
quiet fault.NoMemory is = record { plain = tt; failed = λ before now. tt; after = λ s command. refl }
quiet (fault.Down d) is = absurd is
quiet (fault.Up d) is = absurd is
quiet (fault.Fault d) is = absurd is
quiet (fault.Foreign d) is = absurd is
quiet (fault.Damaged d frame) is = absurd is
quiet (fault.Short node have need) is = absurd is

-- a row of such refusals
abbrev pub AreQuiet : List (Option PairFault) → Type 0
AreQuiet [] = Unit {0}
AreQuiet (o ∷ more) = ((f : PairFault) → o ≡ Some f → IsQuiet f) × AreQuiet more

pub quiet_when : (b : Bool) (f : PairFault) → IsQuiet f → (g : PairFault) → when b f ≡ Some g → IsQuiet g
quiet_when true f is g h = subst (λ (x : PairFault). IsQuiet x) (some_is f g h) is
quiet_when false f is g h = absurd (none_some g h)

pub first_quiet : (rest : List (Option PairFault)) → AreQuiet rest → (f : PairFault) → first_of rest ≡ Some f → IsQuiet f
first_quiet [] are f h = absurd (none_some f h)
first_quiet (None ∷ more) are f h = first_quiet more are.1 f (sym (none_first more) ∙ h)
first_quiet (Some g ∷ more) are f h = subst (λ (x : PairFault). IsQuiet x) (some_is g f (sym (or_some g more) ∙ h)) (are.0 g refl)

-- ---- a reply alone

module _ (before now : Counts) (s : Switches) (command : Command) where
  -- one in which no one that is needed was down, nor anyone found up
  pub plainly : (told : replies.Reply) (t : Switches) → IsPlain told → HasFailed before now told → After s command told t
      → first_off s (needed_by s command) ≡ None → found_up s command ≡ None → IsSwitched before now s command (told ∷ []) t
  plainly told t plain failed after none found = record {
    down = λ d. (λ is. absurd (no_down told d plain (head_is told _ is)), λ is. absurd (none_some d (sym none ∙ is)));
    left = λ d more is other. absurd (no_down told d plain (first_is told more _ is));
    up = λ d. (λ is. absurd (no_up told d plain (head_is told _ is)), λ is. absurd (none_some d (sym found ∙ is)));
    failed = All-cons (HasFailed before now) told [] failed (All-nil (HasFailed before now));
    after = (t, after, refl);
  }
    where
      head_is : (a b : replies.Reply) → a ∷ [] ≡ b ∷ [] → a ≡ b
      head_is a b is = cc

      first_is : (a : replies.Reply) (more : List replies.Reply) (b : replies.Reply) → a ∷ [] ≡ b ∷ more → a ≡ b
      first_is a more b is = cc

      no_down : (told : replies.Reply) (d : DiskName) → IsPlain told → told ≡ replies.Told (world.Refused (Down d)) → ⊥
      no_down told d plain is = subst (λ (r : replies.Reply). IsPlain r) is plain

      no_up : (told : replies.Reply) (d : DiskName) → IsPlain told → told ≡ replies.Told (world.Refused (Up d)) → ⊥
      no_up told d plain is = subst (λ (r : replies.Reply). IsPlain r) is plain

  -- `DOWN`, of the first that is down
  pub is_down : (d : DiskName) → first_off s (needed_by s command) ≡ Some d → found_up s command ≡ None
      → IsSwitched before now s command (replies.Told (world.Refused (Down d)) ∷ []) s
  is_down d first found = record {
    down = λ e. (λ is. first ∙ ap (λ (x : DiskName). Some x) (same_down d e is), λ is. ap (λ (x : DiskName). replies.Told (world.Refused (Down x)) ∷ []) (some_is d e (sym first ∙ is)));
    left = λ e more is other. absurd (other (no_more d e more is));
    up = λ e. (λ is. absurd (cc is), λ is. absurd (none_some e (sym found ∙ is)));
    failed = All-cons (HasFailed before now) (replies.Told (world.Refused (Down d))) [] tt (All-nil (HasFailed before now));
    after = (s, refl, refl);
  }
    where
      same_down : (a b : DiskName) → replies.Told (world.Refused (Down a)) ∷ [] ≡ replies.Told (world.Refused (Down b)) ∷ [] → a ≡ b
      same_down a b is = cc

      no_more : (a b : DiskName) (more : List replies.Reply) → replies.Told (world.Refused (Down a)) ∷ [] ≡ replies.Told (world.Refused (Down b)) ∷ more → more ≡ []
      no_more a b more is = cc

  -- `UP`
  pub is_found_up : (d : DiskName) → found_up s command ≡ Some d → first_off s (needed_by s command) ≡ None
      → IsSwitched before now s command (replies.Told (world.Refused (Up d)) ∷ []) s
  is_found_up d found none = record {
    down = λ e. (λ is. absurd (cc is), λ is. absurd (none_some e (sym none ∙ is)));
    left = λ e more is other. absurd (cc is);
    up = λ e. (λ is. found ∙ ap (λ (x : DiskName). Some x) (same_up d e is), λ is. ap (λ (x : DiskName). replies.Told (world.Refused (Up x)) ∷ []) (some_is d e (sym found ∙ is)));
    failed = All-cons (HasFailed before now) (replies.Told (world.Refused (Up d))) [] tt (All-nil (HasFailed before now));
    after = (s, refl, refl);
  }
    where
      same_up : (a b : DiskName) → replies.Told (world.Refused (Up a)) ∷ [] ≡ replies.Told (world.Refused (Up b)) ∷ [] → a ≡ b
      same_up a b is = cc

-- ---- a call whose row begins with the register and a node

-- a refusal of its row
pub row_refused : {D : Type 0} (desk : Desk D) (n : NodeName) (rest : List (Option PairFault)) (f : PairFault)
    → first_of (rows.duty_is_down desk.pair ∷ rows.node_is_down desk.pair n ∷ rest) ≡ Some f → AreQuiet rest
    → (before now : Counts) (command : Command) → needed_by (switches_of desk) command ≡ with_node n → found_up (switches_of desk) command ≡ None
    → IsSwitched before now (switches_of desk) command (fault_reply f ∷ []) (switches_of desk)
row_refused desk n rest f row are before now command needs found = elim (row_case (is_up desk.pair) (is_node_up desk.pair n) (disk_of n) rest f row) [
  | inl down ↦ (
      let first : first_off (switches_of desk) (needed_by (switches_of desk) command) ≡ Some down.0 = ap (first_off (switches_of desk)) needs ∙ first_off_is desk n ∙ down.2 in
      subst (λ (x : PairFault). IsSwitched before now (switches_of desk) command (fault_reply x ∷ []) (switches_of desk)) (sym down.1)
      (is_down before now (switches_of desk) command down.0 first found))
  | inr rest_of ↦ (
      let none : first_off (switches_of desk) (needed_by (switches_of desk) command) ≡ None = ap (first_off (switches_of desk)) needs ∙ first_off_is desk n ∙ rest_of.0 in
      let q = quiet f (first_quiet rest are f rest_of.1) in
      plainly before now (switches_of desk) command (fault_reply f) (switches_of desk) q.plain (q.failed before now) (q.after (switches_of desk) command) none found)
]

-- where none holds, no one that is needed is down
pub row_passed : {D : Type 0} (desk : Desk D) (n : NodeName) (rest : List (Option PairFault))
    → first_of (rows.duty_is_down desk.pair ∷ rows.node_is_down desk.pair n ∷ rest) ≡ None
    → (command : Command) → needed_by (switches_of desk) command ≡ with_node n → first_off (switches_of desk) (needed_by (switches_of desk) command) ≡ None
row_passed desk n rest row command needs =
    ap (first_off (switches_of desk)) needs ∙ first_off_is desk n ∙ (row_none (is_up desk.pair) (is_node_up desk.pair n) (disk_of n) rest row).0

-- ---- by the causes of a call

-- it is refused by its row, or it is not
pub unless_case : {P T : Type 0} (o : Option PairFault) (old new : P) (result : Result T PairFault) (Rest : Type 0) → Unless o old new result Rest
    → ((f : PairFault) × (o ≡ Some f) × (result ≡ Err f) × (new ≡ old)) ⊎ ((o ≡ None) × Rest)
unless_case (Some f) old new result Rest is = inl (f, refl, is.0, is.1)
unless_case None old new result Rest is = inr (refl, is)
