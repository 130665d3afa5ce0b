-- The worlds that a pair shows before and after its register is started.
use Rattle.std.proofs.Common.{◌≡◌, ℕ, suc, ◌<◌, ◌≤◌, ◌⊎◌, inl, inr, List, [], ◌∷◌, ◌++◌, length, map, take, refl, sym, ap, subst, ◌∙◌, arith, Option, Some, None, Bool, true, false, cond, nat_lt}
use Rattle.std.specs.Prelude.{is_none, max, reverse, if◌then◌else◌}
use Rattle.std.proofs.lemmas.Bool.Decides.{nat_tests}
use Rattle.std.proofs.lemmas.List.{length-take, length-reverse, reverse-append, reverse-reverse}
use Rattle.ali_base.specs.declared.duty.Duty.{Duty}
use Rattle.ali_base.specs.declared.names.DiskName.TheVariants as disks
use Rattle.ali_base.specs.declared.names.NodeName.{NodeName}
use Rattle.ali_base.specs.declared.names.NodeName.TheVariants.{A, B}
use Rattle.crash_disk.specs.CrashOutcomes.{Stays}
use Rattle.crash_disk.specs.DiskState.{DiskState, IsSound}
use Rattle.duty_register.specs.DutiesRead.{EndsWith}
use Rattle.duty_register.specs.DutyImage as duties
use Rattle.duty_register.specs.OpenRegister as register
use Rattle.duty_register.specs.declared.register.Register.{Register}
use Rattle.office_entry.specs.declared.entry.Entry.{Entry}
use Rattle.office_state.specs.declared.limits.Limits.{Limits}
use Rattle.pair_world.specs.Changes.{register_started}
use Rattle.pair_world.specs.Frames.{Frame}
use Rattle.pair_world.specs.SoundWorld.{AreCounted, Floored}
use Rattle.pair_world.specs.Step.{Bounds}
use Rattle.pair_world.specs.World.{World, Resolved, Nodes, NodeState, Choice, node_at, put_node, failed_write_at, duty_list, MayList, MayRead, picked_node, picked_nodes, unrecovered, resolved, recovered, with_nodes, with_failed_duty}
use Rattle.pair_world.proofs.DutyLists.{read_list}
use Rattle.pair_core.specs.Pair.{Shows, ShowsNode, node_of, disk_at, is_up}
use Rattle.pair_core.specs.PairDuties.{HasEntered, IsBesideRegister}
use Rattle.pair_core.specs.PairNodes.{node_in, put, sent_told}
use Rattle.pair_core.specs.declared.nodes.Nodes.{Nodes as OwnNodes}
use Rattle.pair_core.specs.declared.pair.Pair.{Pair}
use Rattle.world_rows.specs.Histories.{IsLawful}

-- ---- lists of duties

-- a list that ends with a duty is one of it and those before it
ends_with : (list : List Duty) (duty : Duty) (ends : EndsWith list duty) → list ≡ duty_list duty (reverse ends.0)
ends_with list duty ends = ends.1 ∙ sym (reverse-reverse (ends.0 ++ duty ∷ [])) ∙ ap reverse (reverse-append ends.0 (duty ∷ []))

-- there are as many duties as their epochs count
counted_length : (duty : Duty) (past : List Duty) → AreCounted duty past → duty.epoch ≡ suc (length past)
counted_length duty [] counted = counted
counted_length duty (before ∷ past) counted = counted.0 ∙ ap suc (counted_length before past counted.1)

-- where the history has at least the floor after a recovery, it is as long as the longer of the two
pub recovered_length : (booked journal : List (Frame Entry)) (floor : ℕ) → floor ≤ length (if nat_lt (length booked) floor then take floor journal else booked) → length (if nat_lt (length booked) floor then take floor journal else booked) ≡ max (length booked) floor
recovered_length booked journal floor fits = by_test (nat_lt (length booked) floor) refl fits
  where
    by_test : (t : Bool) → nat_lt (length booked) floor ≡ t → floor ≤ length (cond t (take floor journal) booked) → length (cond t (take floor journal) booked) ≡ max (length booked) floor
    by_test true is fits =
        let short : length booked < floor = grind (arith, nat_tests) in
        let len = length-take floor journal in
        omega (arith, len, short, fits)
    by_test false is fits = omega (arith, fits)

-- the register told this list, which ends so
pub record IsTold (w : World Entry) (list : List Duty) (duty : Duty) : Type 0 where
  pub past : List Duty
  pub lasted : Bool
  pub list_is : list ≡ duty_list duty past
  pub base_is : with_failed_duty w.failed_duty lasted w.base ≡ record w.base { duty = duty; past = past }
  pub one_of : (w.base.duty ≡ duty) ⊎ (w.failed_duty ≡ Some duty)

not_lasted : (failed : Option Duty) (base : Resolved Entry) → with_failed_duty failed false base ≡ base
not_lasted None base = refl
not_lasted (Some duty) base = refl

pub is_told : (w : World Entry) (list : List Duty) (duty : Duty) → MayList w list → EndsWith list duty → IsTold w list duty
is_told w list duty may ends = by_read (read_list w duty (reverse ends.0) (subst (MayList w) (ends_with list duty ends) may))
  where
    by_read : MayRead w duty (reverse ends.0) → IsTold w list duty
    by_read (inl is) = record {
      past = reverse ends.0;
      lasted = false;
      list_is = ends_with list duty ends;
      base_is = not_lasted w.failed_duty w.base ∙ (λ i. record w.base { duty = is.0 i; past = is.1 i });
      one_of = inl is.0;
    }
    by_read (inr is) = record {
      past = reverse ends.0;
      lasted = true;
      list_is = ends_with list duty ends;
      base_is = ap (λ (f : Option Duty). with_failed_duty f true w.base) is.0 ∙ (λ i. record w.base { duty = duty; past = is.1 i });
      one_of = inr is.0;
    }

-- ---- the world whose register is started

pick_none : (x : Option (List (Frame Entry))) (s : NodeState Entry) → picked_node x false s ≡ s
pick_none None s = refl
pick_none (Some journal) s = refl

module _ (limits : Limits) (bounds : Bounds) (w : World Entry) (lawful : IsLawful limits bounds w) where
  resolved_is : w.register_up ≡ false → (lasted : Bool) → resolved (record { a = false; b = false; duty = lasted }) w ≡ (register_started w lasted).base
  resolved_is down lasted =
      let c : Choice = record { a = false; b = false; duty = lasted } in
      let nodes_are : picked_nodes c w.failed_writes w.base.nodes ≡ w.base.nodes = λ i. record { a = pick_none w.failed_writes.a w.base.nodes.a i; b = pick_none w.failed_writes.b w.base.nodes.b i } in
      ap (λ (b : Bool). if b then unrecovered c w else recovered (with_failed_duty w.failed_duty lasted (unrecovered c w))) down
      ∙ ap (λ (nodes : Nodes Entry). recovered (with_failed_duty w.failed_duty lasted (with_nodes w.base nodes))) nodes_are

  -- it has at least the floor
  started_floor : w.register_up ≡ false → (lasted : Bool) → (register_started w lasted).base.duty.floor ≤ length (register_started w lasted).base.booked
  started_floor down lasted = subst (λ (u : Resolved Entry). u.duty.floor ≤ length u.booked) (resolved_is down lasted) ((lawful.sound.parts (record { a = false; b = false; duty = lasted })).holds Floored).below

  pub started_count : w.register_up ≡ false → (list : List Duty) (duty : Duty) (told : IsTold w list duty) → length (recovered (record w.base { duty = duty; past = told.past })).booked ≡ max (length w.base.booked) duty.floor
  started_count down list duty told =
      recovered_length w.base.booked (node_at w.base.nodes duty.holder).journal duty.floor
      (subst (λ (u : Resolved Entry). (recovered u).duty.floor ≤ length (recovered u).booked) told.base_is (started_floor down told.lasted))

  -- no more duties than the last epoch allows
  pub list_within : (list : List Duty) → MayList w list → (duty : Duty) × (past : List Duty) × (list ≡ duty_list duty past) × AreCounted duty past → length list ≤ bounds.last_epoch
  list_within list may (duty, past, is, counted) =
      let within = (lawful.within.duties duty past (read_list w duty past (subst (MayList w) is may))).to in
      let len = ap length is ∙ length-reverse (duty ∷ past) in
      let epoch = counted_length duty past counted in
      omega (arith, within, len, epoch)

module _ {D : Type 0} (state : D → DiskState) (limits : Limits) (old mid : Pair D) (w : World Entry) (shown : Shows state limits old w) where
  -- what the disk tells stands for a list that the world gives
  pub told_image : ((disk : D) → IsSound (state disk)) → (image : List ℕ) × ((state (disk_at old disks.Duty)).content ≡ Some image) × (list : List Duty) × duties.StandsFor list image × MayList w list
  told_image sound =
      let told = shown.tells (disk_at old disks.Duty) in
      let given = shown.images told.0 ((sound (disk_at old disks.Duty)).as_read told.0 told.1) in
      (told.0, told.1, given.0, given.1, given.2)

  -- the register that is opened again represents such a list
  pub found : ((image : List ℕ) (list other : List Duty) → duties.StandsFor list image → duties.StandsFor other image → list ≡ other) → ((disk : D) → IsSound (state disk)) → register.IsOpened state (disk_at old disks.Duty) (register.last_epoch_of old.register) mid.register
      → (list : List Duty) × MayList w list × register.Represents state mid.register list
  found known sound opened =
      let told = shown.tells (disk_at old disks.Duty) in
      let given = shown.images told.0 ((sound (disk_at old disks.Duty)).as_read told.0 told.1) in
      let now = opened.shown told.0 told.1 in
      (given.0, given.2, subst (register.Represents state mid.register) (known told.0 now.0 given.0 now.1 given.1) now.2)

  -- the register is read, and is down as before: the world stays
  pub read_shown : IsBesideRegister old mid → mid.failed ≡ old.failed → is_up old ≡ false → Stays (state (disk_at old disks.Duty)) (state (disk_at mid disks.Duty)) → Shows state limits mid w
  read_shown beside failed down stays = record {
    tells = shown.tells;
    nodes = subst (λ (x : OwnNodes D). (k : NodeName) → ShowsNode state limits k (node_in x k) (node_at w.base.nodes k) (failed_write_at w.failed_writes k)) (sym beside.nodes) shown.nodes;
    duty = beside.duty ∙ shown.duty;
    register_up = shown.register_up ∙ ap (λ (f : Option Duty). is_none f) (sym failed);
    failed = failed ∙ shown.failed;
    images = λ image left. shown.images image (stays.crash image left);
    duties = λ up. absurd (not_both (ap (λ (f : Option Duty). is_none f) (sym failed) ∙ up));
    count = beside.count ∙ shown.count;
    acked = beside.acked ∙ shown.acked;
    ended = beside.ended ∙ shown.ended;
    messages = ap (λ ms. map sent_told ms.items) beside.messages ∙ shown.messages;
  }
    where
      not_both : is_up old ≡ true → ⊥
      not_both up = absurd (cc)

  knows : (n : NodeName) (epoch : ℕ) → ShowsNode state limits n (record (node_of old n) { known = epoch }) (record (node_at w.base.nodes n) { known = epoch }) (failed_write_at w.failed_writes n)
  knows n epoch =
      let s = shown.nodes n in
      record { up = s.up; known = refl; images = s.images; table = s.table; frames = λ is. let r = s.frames is in record { journal = r.journal; table = r.table } }

  nodes_know : (n : NodeName) (epoch : ℕ) (k : NodeName) → ShowsNode state limits k (node_in (put old.nodes n (record (node_of old n) { known = epoch })) k) (node_at (put_node w.base.nodes n (record (node_at w.base.nodes n) { known = epoch })) k) (failed_write_at w.failed_writes k)
  nodes_know A epoch A = knows A epoch
  nodes_know A epoch B = shown.nodes B
  nodes_know B epoch A = shown.nodes A
  nodes_know B epoch B = knows B epoch

  -- the register is up, with this duty
  pub started_shown : (new : Pair D) (duty : Duty) (past : List Duty) (count : ℕ) → IsBesideRegister old mid → HasEntered mid new duty count → register.Represents state mid.register (duty_list duty past) → count ≡ length (recovered (record w.base { duty = duty; past = past })).booked
      → Shows state limits new (record w { base = recovered (record w.base { duty = duty; past = past }); register_up = true; failed_duty = None })
  started_shown new duty past count beside entered now long =
      let nodes_are : new.nodes ≡ put old.nodes duty.holder (record (node_of old duty.holder) { known = duty.epoch }) = subst (λ (x : OwnNodes D). new.nodes ≡ put x duty.holder (record (node_in x duty.holder) { known = duty.epoch })) beside.nodes entered.nodes in
      let kept : register.Represents state new.register (duty_list duty past) = subst (λ (r : Register D). register.Represents state r (duty_list duty past)) (sym entered.register) now in
      record {
        tells = shown.tells;
        nodes = subst (λ (x : OwnNodes D). (k : NodeName) → ShowsNode state limits k (node_in x k) (node_at (put_node w.base.nodes duty.holder (record (node_at w.base.nodes duty.holder) { known = duty.epoch })) k) (failed_write_at w.failed_writes k)) (sym nodes_are) (nodes_know duty.holder duty.epoch);
        duty = entered.duty;
        register_up = sym (ap (λ (f : Option Duty). is_none f) entered.failed);
        failed = entered.failed;
        images = λ image left. (duty_list duty past, subst (duties.StandsFor (duty_list duty past)) (sym (kept.kept.synced.durable image left)) kept.kept.stands, inl refl);
        duties = λ up. kept;
        count = entered.count ∙ long;
        acked = entered.acked;
        ended = entered.ended;
        messages = ap (λ ms. map sent_told ms.items) (entered.messages ∙ beside.messages) ∙ shown.messages;
      }
