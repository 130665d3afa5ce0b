-- What each resolution of a world in doubt has, and what a run that begins now finds.
use Rattle.std.proofs.Common.{◌≡◌, inl, inr, Bool, true, false, cond, List, refl, ap, sym, ◌∙◌, subst, Option, Some, None}
use Rattle.ali_base.specs.declared.names.NodeName.{NodeName}
use Rattle.ali_base.specs.declared.names.NodeName.TheVariants.{A, B}
use Rattle.ali_base.specs.declared.duty.Mode.TheVariants.{Both}
use Rattle.ali_base.specs.declared.duty.Duty.{Duty}
use Rattle.pair_world.specs.Frames.{Frame, Begins}
use Rattle.pair_world.specs.World.{NodeState, node_at, put_node, Resolved, with_nodes, with_duty, recovered, failed_write_at, World, Choice, picked_node, picked_nodes, with_failed_duty, unrecovered, resolved, MayHold, MayRead, Nodes, opened, without_doubt}
use Rattle.pair_world.specs.Changes.{register_started}
use Rattle.pair_world.proofs.Parts.{IsParts, IsKept}
use Rattle.pair_world.proofs.Lists.{Begins-refl, Begins-trans}
use Rattle.pair_world.proofs.Worlds.{both_begin, recover_sound, halt_sound, recovered_booked, open_begins}
use Rattle.pair_world.proofs.Doubts.{same_journal}
use Rattle.pair_world.proofs.Recovery.{recovery_longer}
use Rattle.pair_world.proofs.Kept.{none_failed}
use Rattle.pair_world.proofs.Items.{some_is, none_some}

abbrev SameJournals : {E : Type 0} → Resolved E → Resolved E → Type 0
SameJournals x y = (y.nodes.a.journal ≡ x.nodes.a.journal) × (y.nodes.b.journal ≡ x.nodes.b.journal)

module _ {E : Type 0} (due : List E → E → Type 0) (w : World E) (s : IsKept due w) where
  -- each choice, recovered where the register is down, has the parts
  pub resolved_sound : (c : Choice) → IsParts due (resolved c w)
  resolved_sound c = by_register w.register_up
    where
      by_duty : (o : Option Duty) → w.failed_duty ≡ o → (b : Bool) → IsParts due (recovered (with_failed_duty o b (unrecovered c w)))
      by_duty None e b = recover_sound due (unrecovered c w) (s.unrecovered_parts c)
      by_duty (Some d) e false = recover_sound due (unrecovered c w) (s.unrecovered_parts c)
      by_duty (Some d) e true = s.recovered_parts c d e

      by_register : (b : Bool) → IsParts due (cond b (unrecovered c w) (recovered (with_failed_duty w.failed_duty c.duty (unrecovered c w))))
      by_register true = s.unrecovered_parts c
      by_register false = by_duty w.failed_duty refl c.duty

  -- and its history begins with the one before
  pub resolved_longer : (c : Choice) → Begins (resolved c w).booked w.base.booked
  resolved_longer c = by_register w.register_up
    where
      same : Begins (recovered (unrecovered c w)).booked w.base.booked
      same = subst (λ z. Begins z w.base.booked) (sym (recovered_booked due (unrecovered c w) (s.unrecovered_parts c))) (Begins-refl w.base.booked)

      by_duty : (o : Option Duty) → w.failed_duty ≡ o → (b : Bool) → Begins (recovered (with_failed_duty o b (unrecovered c w))).booked w.base.booked
      by_duty None e b = same
      by_duty (Some d) e false = same
      by_duty (Some d) e true = recovery_longer due (unrecovered c w) d (s.unrecovered_parts c) (s.recovered_parts c d e)

      by_register : (b : Bool) → Begins (cond b (unrecovered c w) (recovered (with_failed_duty w.failed_duty c.duty (unrecovered c w)))).booked w.base.booked
      by_register true = Begins-refl w.base.booked
      by_register false = by_duty w.failed_duty refl c.duty

  -- the lists of the disks are those of a choice
  held : (n : NodeName) (j : List (Frame E)) → MayHold w n j → (b : Bool) × ((picked_node (failed_write_at w.failed_writes n) b (node_at w.base.nodes n)).journal ≡ j)
  held n j (inl is) = (false, first (failed_write_at w.failed_writes n) (node_at w.base.nodes n) ∙ is)
    where
      first : (x : Option (List (Frame E))) (st : NodeState E) → (picked_node x false st).journal ≡ st.journal
      first None st = refl
      first (Some k) st = refl
  held n j (inr is) = (true, ap (λ x. (picked_node x true (node_at w.base.nodes n)).journal) is)

  journals_are : (c : Choice) → ((resolved c w).nodes.a.journal ≡ (unrecovered c w).nodes.a.journal) × ((resolved c w).nodes.b.journal ≡ (unrecovered c w).nodes.b.journal)
  journals_are c = by_register w.register_up
    where
      recovered_same : (y : Resolved E) → y.nodes ≡ (unrecovered c w).nodes → SameJournals (unrecovered c w) (recovered y)
      recovered_same y e = (same_journal y.duty.holder A y.nodes y.duty.epoch ∙ ap (λ (ns : Nodes E). ns.a.journal) e, same_journal y.duty.holder B y.nodes y.duty.epoch ∙ ap (λ (ns : Nodes E). ns.b.journal) e)

      by_duty : (o : Option Duty) (b : Bool) → SameJournals (unrecovered c w) (recovered (with_failed_duty o b (unrecovered c w)))
      by_duty None b = recovered_same (unrecovered c w) refl
      by_duty (Some d) false = recovered_same (unrecovered c w) refl
      by_duty (Some d) true = recovered_same (with_duty (unrecovered c w) d) refl

      by_register : (b : Bool) → SameJournals (unrecovered c w) (cond b (unrecovered c w) (recovered (with_failed_duty w.failed_duty c.duty (unrecovered c w))))
      by_register true = (refl, refl)
      by_register false = by_duty w.failed_duty c.duty

  duties_read : (d : Duty) (ds : List Duty) → MayRead w d ds → (b : Bool) × ((c : Choice) → c.duty ≡ b → ((resolved c w).duty ≡ d) × ((resolved c w).past ≡ ds))
  duties_read d ds (inl is) = (false, λ c e. by_register c e w.register_up)
    where
      by_duty : (c : Choice) (o : Option Duty) (b : Bool) → b ≡ false → ((with_failed_duty o b (unrecovered c w)).duty ≡ d) × ((with_failed_duty o b (unrecovered c w)).past ≡ ds)
      by_duty c None b e = is
      by_duty c (Some f) false e = is
      by_duty c (Some f) true e = absurd (cc)

      by_register : (c : Choice) → c.duty ≡ false → (r : Bool) → ((cond r (unrecovered c w) (recovered (with_failed_duty w.failed_duty c.duty (unrecovered c w)))).duty ≡ d) × ((cond r (unrecovered c w) (recovered (with_failed_duty w.failed_duty c.duty (unrecovered c w)))).past ≡ ds)
      by_register c e true = is
      by_register c e false = by_duty c w.failed_duty c.duty e
  duties_read d ds (inr is) = (true, λ c e. by_register c e w.register_up refl)
    where
      by_duty : (c : Choice) (o : Option Duty) → o ≡ Some d → (b : Bool) → b ≡ true → ((with_failed_duty o b (unrecovered c w)).duty ≡ d) × ((with_failed_duty o b (unrecovered c w)).past ≡ ds)
      by_duty c None e b t = absurd (none_some d e)
      by_duty c (Some f) e true t = (some_is f d e, is.1)
      by_duty c (Some f) e false t = absurd (cc)

      by_register : (c : Choice) → c.duty ≡ true → (r : Bool) → w.register_up ≡ r → ((cond r (unrecovered c w) (recovered (with_failed_duty w.failed_duty c.duty (unrecovered c w)))).duty ≡ d) × ((cond r (unrecovered c w) (recovered (with_failed_duty w.failed_duty c.duty (unrecovered c w)))).past ≡ ds)
      by_register c e true up = absurd (none_failed due w s up d is.0)
      by_register c e false up = by_duty c w.failed_duty is.0 c.duty e

  -- what a run finds that begins now is sound, and nothing booked is lost
  pub reopened_keeps : (d : Duty) (ds : List Duty) (ja jb : List (Frame E)) → MayRead w d ds → MayHold w A ja → MayHold w B jb → IsParts due (opened d ds ja jb) × Begins (opened d ds ja jb).booked w.base.booked
  reopened_keeps d ds ja jb register disk_a disk_b =
      let r = duties_read d ds register in
      let a = held A ja disk_a in
      let b = held B jb disk_b in
      let c : Choice = record { a = a.0; b = b.0; duty = r.0 } in
      let is = r.1 c refl in
      let j = journals_are c in
      let same : opened (resolved c w).duty (resolved c w).past (resolved c w).nodes.a.journal (resolved c w).nodes.b.journal ≡ opened d ds ja jb =
      ap (λ z. opened z (resolved c w).past (resolved c w).nodes.a.journal (resolved c w).nodes.b.journal) is.0
      ∙ ap (λ z. opened d z (resolved c w).nodes.a.journal (resolved c w).nodes.b.journal) is.1
      ∙ ap (λ z. opened d ds z (resolved c w).nodes.b.journal) (j.0 ∙ a.1)
      ∙ ap (λ z. opened d ds ja z) (j.1 ∙ b.1) in
      subst (λ (y : Resolved E). IsParts due y × Begins y.booked w.base.booked) same
      (halt_sound due (resolved c w) (resolved_sound c), Begins-trans (open_begins due (resolved c w) (resolved_sound c)) (resolved_longer c))

  -- the world is the choice of each disk's first list
  first_is : (c : Choice) → c.a ≡ false → c.b ≡ false → unrecovered c w ≡ w.base
  first_is c a b = ap (λ ns. with_nodes w.base ns) (ap (λ st. put_node (picked_nodes c w.failed_writes w.base.nodes) A st) (first w.failed_writes.a c.a w.base.nodes.a a) ∙ ap (λ st. put_node w.base.nodes B st) (first w.failed_writes.b c.b w.base.nodes.b b))
    where
      first : (x : Option (List (Frame E))) (b : Bool) (st : NodeState E) → b ≡ false → picked_node x b st ≡ st
      first None b st e = refl
      first (Some j) b st e = ap (λ z. picked_node (Some j) z st) e

  abbrev first_choice : Choice
  first_choice = record { a = false; b = false; duty = false }

  pub base_sound : IsParts due w.base
  base_sound = subst (IsParts due) (first_is first_choice refl refl) (s.unrecovered_parts first_choice)

  -- a list that a disk may hold is its node's in some resolution
  in_choice : (P : List (Frame E) → Type 0) (n : NodeName) (j : List (Frame E)) → MayHold w n j → ((c : Choice) → P (node_at (unrecovered c w).nodes n).journal) → P j
  in_choice P n j may all =
      let h = held n j may in
      by_node n h.0 h.1 all
    where
      by_node : (n : NodeName) (b : Bool) → (picked_node (failed_write_at w.failed_writes n) b (node_at w.base.nodes n)).journal ≡ j → ((c : Choice) → P (node_at (unrecovered c w).nodes n).journal) → P j
      by_node A b is all = subst P is (all (record { a = b; b = false; duty = false }))
      by_node B b is all = subst P is (all (record { a = false; b = b; duty = false }))

  -- in mode Both the history is in each journal
  pub held_begins : (n : NodeName) (j : List (Frame E)) → w.base.duty.mode ≡ Both → MayHold w n j → Begins j w.base.booked
  held_begins n j both may = in_choice (λ z. Begins z w.base.booked) n j may (λ c. both_begin due (unrecovered c w) (s.unrecovered_parts c) both n)

  -- and always in the holder's
  pub own_begins : (n : NodeName) (j : List (Frame E)) → n ≡ w.base.duty.holder → MayHold w n j → Begins j w.base.booked
  own_begins n j own may = in_choice (λ z. Begins z w.base.booked) n j may (λ c. subst (λ m. Begins (node_at (unrecovered c w).nodes m).journal w.base.booked) (sym own) (s.unrecovered_parts c).booked.begins)

  pub register_started_longer : (b : Bool) → Begins (register_started w b).base.booked w.base.booked
  register_started_longer b = by_duty w.failed_duty refl b
    where
      same : Begins (recovered w.base).booked w.base.booked
      same = subst (λ z. Begins z w.base.booked) (sym (recovered_booked due w.base base_sound)) (Begins-refl w.base.booked)

      by_duty : (o : Option Duty) → w.failed_duty ≡ o → (b : Bool) → Begins (recovered (with_failed_duty o b w.base)).booked w.base.booked
      by_duty None e b = same
      by_duty (Some d) e false = same
      by_duty (Some d) e true = subst (λ y. Begins (recovered (with_duty y d)).booked w.base.booked) (first_is first_choice refl refl) (recovery_longer due (unrecovered first_choice w) d (s.unrecovered_parts first_choice) (s.recovered_parts first_choice d e))

pub without_doubt_kept : {E : Type 0} (due : List E → E → Type 0) (w : Resolved E) → IsParts due w → IsKept due (without_doubt w)
without_doubt_kept {E} due w s = record { one_journal = λ n up. none n; one_duty = λ e. refl; unrecovered_parts = λ c. s; recovered_parts = λ c d e. absurd (none_some d e); sure_taker = λ d e. absurd (none_some d e) }
  where
    none : (n : NodeName) → failed_write_at {E = E} (record { a = None; b = None }) n ≡ None
    none A = refl
    none B = refl
