-- What a pair shows after a start of a node, and what the row of a start gives.
use Rattle.std.proofs.Common.{◌≡◌, ◌≢◌, ℕ, ◌<◌, ◌≤◌, ◌⊎◌, inl, inr, List, [], ◌∷◌, length, refl, sym, ap, subst, ◌∙◌, arith, Option, Some, None, Result, Ok, Err, Bool, true, false}
use Rattle.std.specs.Prelude.{is_none, not, nat_lt, option_map, ◌||◌, if◌then◌else◌}
use Rattle.std.proofs.lemmas.Bool.Decides.{nat_tests}
use Rattle.ali_base.specs.Faults.{Rose}
use Rattle.ali_base.specs.Steps.{when}
use Rattle.ali_base.specs.declared.duty.Duty.{Duty}
use Rattle.ali_base.specs.declared.names.DiskName.{DiskName}
use Rattle.ali_base.specs.declared.names.DiskName.TheVariants as disks
use Rattle.ali_base.specs.declared.names.NodeName.{NodeName}
use Rattle.ali_base.specs.declared.names.NodeName.TheVariants.{A, B}
use Rattle.crash_disk.specs.CrashOutcomes.{Stays}
use Rattle.crash_disk.specs.DiskState.{DiskState, IsSound}
use Rattle.duty_register.specs.OpenRegister as register
use Rattle.node_journal.specs.JournalImage.{StandsFor, StandsForSome, IsForeign, IsDamaged, IsDamagedSomewhere}
use Rattle.node_journal.specs.OpenJournal as journals
use Rattle.office_entry.specs.declared.entry.Entry.{Entry}
use Rattle.office_state.specs.OfficeState.{limits_of}
use Rattle.office_state.specs.declared.limits.Limits.{Limits}
use Rattle.office_state.proofs.SoundOffices.{limits_kept}
use Rattle.pair_world.specs.Changes.{started}
use Rattle.pair_world.specs.Frames.{Frame}
use Rattle.pair_world.specs.Refusals as refusals
use Rattle.pair_world.specs.Refusals.{Refusal, Test, disk_of, is_alone}
use Rattle.pair_world.specs.World.{World, Nodes, NodeState, MayHold, node_at, put_node, picked_node, failed_write_at, put_failed_write, is_node}
use Rattle.world_rows.specs.Counts.{Counts, RoseAt, count_at}
use Rattle.world_rows.specs.Histories.{IsLawful, state_of}
use Rattle.world_rows.specs.Rows.{Row, Gives, MayFail, Success}
use Rattle.world_rows.specs.Told.{Told, Refused, Failed, Started}
use Rattle.world_rows.specs.WorldRows as world
use Rattle.world_rows.specs.WorldRows.{start_row, journal_at}
use Rattle.world_rows.specs.WorldSteps.{Comes}
use Rattle.pair_node.specs.NodeState as node
use Rattle.pair_node.specs.StartedNode.{HasForgotten, HasFrames, IsRefused, IsStarted, RestartAnswers, Asked, asked_again}
use Rattle.pair_node.specs.declared.faults.StartFault.{StartFault}
use Rattle.pair_node.specs.declared.faults.StartFault.TheVariants as starting
use Rattle.pair_core.specs.declared.starting.Started.{Started as StartedNode}
use Rattle.pair_node.proofs.Quiet.{long_as}
use Rattle.pair_core.specs.Pair.{Shows, IsCall, node_of, is_node_up, len_of, duty_of, disk_at, bounds_of, counts_of}
use Rattle.pair_core.specs.PairAnswers.{StartCauses, StartRest, StartFailure, KeepsCourse, Unless, pair_fault, fault_told}
use Rattle.pair_core.specs.PairChanges.{IsBesideNode}
use Rattle.pair_core.specs.PairNodes.{node_in}
use Rattle.pair_core.specs.PairRefusals as rows
use Rattle.pair_core.specs.declared.faults.PairFault.{PairFault}
use Rattle.pair_core.specs.declared.faults.PairFault.TheVariants as fault
use Rattle.pair_core.specs.declared.nodes.Nodes.{Nodes as OwnNodes}
use Rattle.pair_core.specs.declared.pair.Pair.{Pair}
use Rattle.pair_core.proofs.PairRows.{AreRow, passed, duty_is_down, node_is_up, all_none, not_when}
use Rattle.pair_core.proofs.PairShown.{at_node, at_each, limit_a}

-- ---- what one node's disk and limit are in the pair

module _ {D : Type 0} (p : Pair D) where
  pub disk_is : (n : NodeName) → disk_at p (disk_of n) ≡ node.disk_of (node_of p n)
  disk_is A = refl
  disk_is B = refl

  pub limit_is : (n : NodeName) → journals.limit_of (node.journal_of (node_of p n)) ≡ (bounds_of p).frames
  limit_is A = refl
  limit_is B = sym p.limits

pub was_down_for : {D : Type 0} (p : Pair D) (n : NodeName) → rows.start_refusal p n ≡ None → is_node_up p n ≡ false
was_down_for p n none = not_when (is_node_up p n) (fault.Up (disk_of n)) (all_none (rows.duty_is_down p ∷ rows.node_is_up p n ∷ []) none).1.0

-- where no refusal holds, the rest says why the answer comes
pub unless : {D : Type 0} (state : D → DiskState) (old new : Pair D) (n : NodeName) (result : Result StartedNode PairFault) → rows.start_refusal old n ≡ None → StartRest state old new n result → StartCauses state old new n result
unless state old new n result none rest = subst (λ (o : Option PairFault). Unless o old new result (StartRest state old new n result)) (sym none) rest

pub rose_at : {D : Type 0} (state : D → DiskState) (old new : Pair D) (n : NodeName) → Rose (state (node.disk_of (node_of old n))).faults (state (node.disk_of (node_of new n))).faults → RoseAt (counts_of state old) (counts_of state new) (disk_of n)
rose_at state old new A rose = rose
rose_at state old new B rose = rose

-- where one node changes and nothing else, it is a call
pub is_call : {D : Type 0} (state : D → DiskState) (old new : Pair D) (n : NodeName) → IsBesideNode old new n → journals.IsFixed state (node.journal_of (node_of old n)) (node.journal_of (node_of new n)) → IsCall state old new
is_call {D = D} state old new n beside fixed =
    let frames : (bounds_of new).frames ≡ (bounds_of old).frames = ap (λ (x : OwnNodes D). journals.limit_of (node.journal_of x.a)) beside.nodes ∙ limit_a old n (node_of new n) fixed.limit in
    let last : (bounds_of new).last_epoch ≡ (bounds_of old).last_epoch = ap register.last_epoch_of beside.register in
    record {
      bounds = λ i. record { frames = frames i; last_epoch = last i };
      counts = never;
      booked = omega (arith, beside.count);
    }
  where
    never_in : (k : NodeName) → (state (node.disk_of (node_of old k))).faults ≤ (state (node.disk_of (node_of new k))).faults
    never_in k =
        subst (λ (x : OwnNodes D). (state (node.disk_of (node_of old k))).faults ≤ (state (node.disk_of (node_in x k))).faults) (sym beside.nodes)
        (at_each old n (node_of new n) (λ k y. (state (node.disk_of (node_of old k))).faults ≤ (state (node.disk_of y)).faults) (λ k. omega arith) fixed.faults k)

    never : (disk : DiskName) → count_at (counts_of state old) disk ≤ count_at (counts_of state new) disk
    never disks.A = never_in A
    never disks.B = never_in B
    never disks.Duty = subst (λ r. (state (disk_at old disks.Duty)).faults ≤ (state (register.disk_of r)).faults) (sym beside.register) (omega arith)

-- the list that the disk has, by whether the failed write lasted
which : (s : NodeState Entry) (o : Option (List (Frame Entry))) (frames : List (Frame Entry)) → (s.journal ≡ frames) ⊎ (o ≡ Some frames) → (lasted : Bool) × ((picked_node o lasted s).journal ≡ frames)
which s None frames (inl same) = (false, same)
which s (Some list) frames (inl same) = (false, same)
which s None frames (inr e) = absurd (cc)
which s (Some list) frames (inr e) = (true, cc)

put_same : (nodes : Nodes Entry) (n : NodeName) → put_node nodes n (node_at nodes n) ≡ nodes
put_same nodes A = refl
put_same nodes B = refl

-- the journal on which a node starts
abbrev begun : World Entry → NodeName → Bool → List (Frame Entry)
begun w n lasted = (picked_node (failed_write_at w.failed_writes n) lasted (node_at w.base.nodes n)).journal

begun_is : (w : World Entry) (n : NodeName) (lasted : Bool) → journal_at (started w n lasted) n ≡ begun w n lasted
begun_is w A lasted = refl
begun_is w B lasted = refl

others_stay : (w : World Entry) (n k : NodeName) → (k ≡ n → ⊥) → failed_write_at (put_failed_write w.failed_writes n None) k ≡ failed_write_at w.failed_writes k
others_stay w A A other = absurd (other refl)
others_stay w A B other = refl
others_stay w B A other = refl
others_stay w B B other = absurd (other refl)

-- ---- what the pair shows

module _ {D : Type 0} (state : D → DiskState) (limits : Limits) (old new : Pair D) (w : World Entry) (n : NodeName) (shown : Shows state limits old w) (beside : IsBesideNode old new n) where
  -- started over these frames
  started_shown : (lasted : Bool) (frames : List (Frame Entry)) → begun w n lasted ≡ frames → node.Represents state limits (node_of new n) frames → is_node_up new n ≡ true → node.known_of (node_of new n) ≡ w.base.duty.epoch
      → Shows state limits new (started w n lasted)
  started_shown lasted frames is now up known =
      let kept = now.journal.kept in
      at_node state limits old new w n shown beside (record (picked_node (failed_write_at w.failed_writes n) lasted (node_at w.base.nodes n)) { up = true; known = w.base.duty.epoch }) (put_failed_write w.failed_writes n None) (others_stay w n) (record {
        up = sym up;
        known = sym known;
        images = λ image left. (
          frames,
          subst (λ x. StandsFor n frames x) (sym (kept.synced.durable image left)) (subst (λ name. StandsFor name frames kept.image) (new.named n) kept.stands),
          inl is,
        );
        table = (_, now.table);
        frames = λ _. subst (λ fs. node.Represents state limits (node_of new n) fs) (sym is) now;
      })

  -- it stays down
  stays_down : Stays (state (node.disk_of (node_of old n))) (state (node.disk_of (node_of new n))) → is_node_up old n ≡ false → is_node_up new n ≡ false → node.known_of (node_of new n) ≡ node.known_of (node_of old n)
      → HasForgotten state (node_of old n) (node_of new n) → Shows state limits new w
  stays_down stays was down known forgotten =
      subst (λ (nodes : Nodes Entry). Shows state limits new (record w { base = record w.base { nodes = nodes } })) (put_same w.base.nodes n)
      (at_node state limits old new w n shown beside (node_at w.base.nodes n) w.failed_writes (λ k other. refl) (record {
        up = (shown.nodes n).up ∙ was ∙ sym down;
        known = (shown.nodes n).known ∙ sym known;
        images = λ image left. (shown.nodes n).images image (stays.crash image left);
        table = ([], forgotten.history limits (shown.nodes n).table.0 (shown.nodes n).table.1);
        frames = λ up. absurd (cc);
      }))

  -- the image that a disk tells is one of those that the world gives it
  held_as : (image : List ℕ) (frames : List (Frame Entry)) → IsSound (state (node.disk_of (node_of old n)))
      → ((name : NodeName) (image : List ℕ) (frames others : List (Frame Entry)) → StandsFor name frames image → StandsFor name others image → frames ≡ others)
      → (state (node.disk_of (node_of old n))).content ≡ Some image → StandsFor n frames image → (lasted : Bool) × (begun w n lasted ≡ frames)
  held_as image frames sound one told stands =
      let held = (shown.nodes n).images image (sound.as_read image told) in
      which (node_at w.base.nodes n) (failed_write_at w.failed_writes n) frames (subst (MayHold w n) (one n image held.0 frames held.1 stands) held.2)

-- ---- the row of a start

tested : (b : Bool) (refusal : Refusal) → b ≡ true → option_map Refused (when b refusal) ≡ Some (Refused refusal)
tested b refusal is = ap (λ (t : Bool). option_map Refused (when t refusal)) is

untested : (b : Bool) (refusal : Refusal) → b ≡ false → option_map Refused (when b refusal) ≡ None
untested b refusal is = ap (λ (t : Bool). option_map Refused (when t refusal)) is

lt_true : (m n : ℕ) → m < n → nat_lt m n ≡ true
lt_true m n h = grind (arith, nat_tests)

lt_false : (m n : ℕ) → n ≤ m → nat_lt m n ≡ false
lt_false m n h = grind (arith, nat_tests)

module _ {D : Type 0} (state : D → DiskState) (limits : Limits) (p : Pair D) (w : World Entry) (shown : Shows state limits p w) (n : NodeName) where
  -- what is refused before the disk is read
  pub start_items : AreRow (rows.duty_is_down p ∷ rows.node_is_up p n ∷ []) (refusals.duty_is_down w ∷ refusals.node_is_up w n ∷ [])
  start_items = (duty_is_down state limits p w shown, λ _. (node_is_up state limits p w shown n, λ _. tt))

  needed_is : rows.needed_length p n ≡ refusals.needed_length w n
  needed_is = λ i. if is_node n (shown.duty i).holder || not (is_alone (shown.duty i).mode) then shown.count i else 0

  -- the rest of the row
  abbrev pub start_rest : Bool → Row Told (World Entry)
  start_rest lasted =
      let v = started w n lasted in
      MayFail (disk_of n) w
      (world.unless (state_of limits w) (Test (refusals.short w n (journal_at v n)) ∷ [])
      (Success (Started n (length (journal_at v n)) w.base.duty.epoch) v))

  module _ (before now : Counts) (lasted : Bool) where
    long : length (begun w n lasted) ≡ length (journal_at (started w n lasted) n)
    long = ap (λ (fs : List (Frame Entry)). length fs) (sym (begun_is w n lasted))

    start_short : (have need : ℕ) → have ≡ length (begun w n lasted) → need ≡ rows.needed_length p n → have < need
        → Gives before now Failed w (start_rest lasted) (Refused (refusals.Short n have need)) w
    start_short have need is needed short =
        let have_is : have ≡ length (journal_at (started w n lasted) n) = is ∙ long in
        let need_is : need ≡ refusals.needed_length w n = needed ∙ needed_is in
        let told = tested _ (refusals.Short n have need) (lt_true have need short) in
        inr (inl (
          subst (λ (k : ℕ). option_map Refused (when (nat_lt k (refusals.needed_length w n)) (refusals.Short n k (refusals.needed_length w n))) ≡ Some (Refused (refusals.Short n have need))) have_is
              (subst (λ (k : ℕ). option_map Refused (when (nat_lt have k) (refusals.Short n have k)) ≡ Some (Refused (refusals.Short n have need))) need_is told),
          refl,
        ))

    start_done : (len known : ℕ) → len ≡ length (begun w n lasted) → known ≡ w.base.duty.epoch → rows.needed_length p n ≤ len
        → Gives before now Failed w (start_rest lasted) (Started n len known) (started w n lasted)
    start_done len known is known_is enough =
        let len_is : len ≡ length (journal_at (started w n lasted) n) = is ∙ long in
        let all : refusals.needed_length w n ≤ length (journal_at (started w n lasted) n) = subst (λ (k : ℕ). refusals.needed_length w n ≤ k) len_is (subst (λ (k : ℕ). k ≤ len) needed_is enough) in
        inr (inr (untested _ (refusals.Short n (length (journal_at (started w n lasted) n)) (refusals.needed_length w n)) (lt_false _ _ all), (λ i. Started n (len_is i) (known_is i), refl)))

-- ---- what a start does

module _ {D : Type 0} (state : D → DiskState) (limits : Limits) (old new : Pair D) (w : World Entry) (n : NodeName) (shown : Shows state limits old w) (beside : IsBesideNode old new n) (none : rows.start_refusal old n ≡ None) (sound : IsSound (state (node.disk_of (node_of old n))))
    (one : (name : NodeName) (image : List ℕ) (frames others : List (Frame Entry)) → StandsFor name frames image → StandsFor name others image → frames ≡ others) where
  abbrev asked : Asked
  asked = asked_again (node_of old n) (duty_of old).epoch (rows.needed_length old n)

  abbrev Done : Option Told → Type 0
  Done told = (v : World Entry) × Shows state limits new v × Comes (counts_of state old) (counts_of state new) w (λ lasted u. start_row limits u n lasted) told v

  lifted : (lasted : Bool) (told : Told) (v : World Entry) → Gives (counts_of state old) (counts_of state new) Failed w (start_rest state limits old w shown n lasted) told v
      → Gives (counts_of state old) (counts_of state new) Failed w (start_row limits w n lasted) told v
  lifted lasted told v gives =
      passed (counts_of state old) (counts_of state new) (state_of limits w) w (start_rest state limits old w shown n lasted) (rows.duty_is_down old ∷ rows.node_is_up old n ∷ []) (refusals.duty_is_down w ∷ refusals.node_is_up w n ∷ []) told v
      (start_items state limits old w shown n) none gives

  was_down : is_node_up old n ≡ false
  was_down = was_down_for old n none

  named_as : (P : NodeName → List ℕ → Type 0) → ((image : List ℕ) → (state (node.disk_of (node_of old n))).content ≡ Some image → P asked.name image) → (image : List ℕ) → (state (node.disk_of (node_of old n))).content ≡ Some image → P n image
  named_as P says image told = subst (λ name. P name image) (old.named n) (says image told)

  pub started_does : IsStarted state (node.disk_of (node_of old n)) asked (node_of new n) → (len known : ℕ) → len ≡ len_of new n → known ≡ node.known_of (node_of new n) → Done (Some (Started n len known))
  started_does is_started len known len_is known_is =
      let table = (shown.nodes n).table in
      let same : limits_of (node.office_of (node_of old n)).state ≡ limits = ap limits_of table.1.same ∙ limits_kept limits table.0 in
      let told = shown.tells (node.disk_of (node_of old n)) in
      let found = is_started.shown told.0 told.1 in
      let frames : List (Frame Entry) = found.0 in
      let now : node.Represents state limits (node_of new n) frames = subst (λ l. node.Represents state l (node_of new n) frames) same found.2 in
      let stands : StandsFor n frames told.0 = subst (λ name. StandsFor name frames told.0) (old.named n) found.1 in
      let lasted = held_as state limits old new w n shown beside told.0 frames sound one told.1 stands in
      let epoch : (duty_of old).epoch ≡ w.base.duty.epoch = ap (λ (d : Duty). d.epoch) shown.duty in
      let long : len ≡ length (begun w n lasted.0) = len_is ∙ long_as state limits (node_of new n) frames now ∙ sym (ap (λ (fs : List (Frame Entry)). length fs) lasted.1) in (
        started w n lasted.0,
        started_shown state limits old new w n shown beside lasted.0 frames lasted.1 now is_started.usable (is_started.known ∙ epoch),
        (lasted.0, lifted lasted.0 (Started n len known) (started w n lasted.0) (start_done state limits old w shown n (counts_of state old) (counts_of state new) lasted.0 len known long (known_is ∙ is_started.known ∙ epoch) (subst (λ (k : ℕ). rows.needed_length old n ≤ k) (sym len_is) is_started.enough))),
      )

  module _ (lawful : IsLawful limits (bounds_of old) w)
      (not_foreign : (name : NodeName) (image : List ℕ) (frames : List (Frame Entry)) → StandsFor name frames image → IsForeign name image → ⊥)
      (not_damaged : (name : NodeName) (image : List ℕ) (limit : ℕ) → StandsForSome name limit image → IsDamagedSomewhere name limit image → ⊥)
      (forgotten : HasForgotten state (node_of old n) (node_of new n)) (down : is_node_up new n ≡ false) (known : node.known_of (node_of new n) ≡ node.known_of (node_of old n)) where
    not_started : (f : StartFault) → IsRefused state (node.disk_of (node_of old n)) asked (node.disk_of (node_of new n)) f → f ≢ starting.NoMemory → Done (fault_told (pair_fault n f))
    not_started starting.DiskFault refused other = (
      w,
      stays_down state limits old new w n shown beside refused.stays was_down down known forgotten,
      (false, lifted false (Failed (disk_of n)) w (inl (refl, refl, rose_at state old new n refused.cause))),
    )
    not_started starting.Foreign refused other =
        let told = shown.tells (node.disk_of (node_of old n)) in
        let held = (shown.nodes n).images told.0 (sound.as_read told.0 told.1) in
        absurd (not_foreign n told.0 held.0 held.1 (named_as IsForeign refused.cause told.0 told.1))
    not_started (starting.Damaged k) refused other =
        let told = shown.tells (node.disk_of (node_of old n)) in
        let held = (shown.nodes n).images told.0 (sound.as_read told.0 told.1) in
        let room : length held.0 ≤ asked.limit = subst (λ (most : ℕ). length held.0 ≤ most) (sym (limit_is old n)) (lawful.within.journals n held.0 held.2).room in
        absurd (not_damaged n told.0 asked.limit (held.0, room, held.1) (k, named_as (λ name image. IsDamaged name asked.limit k image) refused.cause told.0 told.1))
    not_started (starting.Short have need) refused other =
        let told = shown.tells (node.disk_of (node_of old n)) in
        let found = named_as (λ name image. HasFrames name have image) refused.cause.2 told.0 told.1 in
        let lasted = held_as state limits old new w n shown beside told.0 found.0 sound one told.1 found.2 in (
          w,
          stays_down state limits old new w n shown beside refused.stays was_down down known forgotten,
          (
            lasted.0,
            lifted lasted.0 (Refused (refusals.Short n have need)) w (start_short state limits old w shown n (counts_of state old) (counts_of state new) lasted.0 have need (sym found.1 ∙ sym (ap (λ (fs : List (Frame Entry)). length fs) lasted.1)) refused.cause.1 refused.cause.0),
          ),
        )
    not_started starting.NoMemory refused other = absurd (other refl)

  pub refused_does : (f : StartFault) (told : PairFault) → told ≡ pair_fault n f → IsLawful limits (bounds_of old) w
      → ((name : NodeName) (image : List ℕ) (frames : List (Frame Entry)) → StandsFor name frames image → IsForeign name image → ⊥)
      → ((name : NodeName) (image : List ℕ) (limit : ℕ) → StandsForSome name limit image → IsDamagedSomewhere name limit image → ⊥)
      → RestartAnswers state (node_of old n) (node_of new n) (duty_of old).epoch (rows.needed_length old n) (Err f)
      → Done (fault_told told)
  refused_does f told is lawful not_foreign not_damaged answers =
      let answer = answers.answer in
      subst (λ (x : PairFault). Done (fault_told x)) (sym is) (not_started lawful not_foreign not_damaged answers.forgotten answer.2 answer.3 f answer.0 answer.1)

-- ---- why each answer comes

module _ {D : Type 0} (state : D → DiskState) (old new : Pair D) (n : NodeName) (beside : IsBesideNode old new n) where
  keeps : KeepsCourse state old new
  keeps = (beside.count, beside.duty, ap (λ (f : Option Duty). is_none f) beside.failed)

  abbrev again : Asked
  again = asked_again (node_of old n) (duty_of old).epoch (rows.needed_length old n)

  -- what is said of the node's disk is said of the disk of this name
  said_of : (P Q : List ℕ → Type 0) → ((image : List ℕ) → P image → Q image) → ((image : List ℕ) → (state (node.disk_of (node_of old n))).content ≡ Some image → P image)
      → (image : List ℕ) → (state (disk_at old (disk_of n))).content ≡ Some image → Q image
  said_of P Q gives says image told = gives image (says image (subst (λ (d : D). (state d).content ≡ Some image) (disk_is old n) told))

  failure : (f : StartFault) → IsRefused state (node.disk_of (node_of old n)) again (node.disk_of (node_of new n)) f → f ≢ starting.NoMemory → StartFailure state old new n (pair_fault n f)
  failure starting.DiskFault refused other = (refl, rose_at state old new n refused.cause)
  failure starting.Foreign refused other = (refl, said_of (IsForeign again.name) (IsForeign n) (λ image is. subst (λ name. IsForeign name image) (old.named n) is) refused.cause)
  failure (starting.Damaged k) refused other = (
    refl,
    said_of (IsDamaged again.name again.limit k) (IsDamaged n (bounds_of old).frames k)
        (λ image is. subst (λ (most : ℕ). IsDamaged n most k image) (limit_is old n) (subst (λ name. IsDamaged name again.limit k image) (old.named n) is)) refused.cause,
  )
  failure (starting.Short have need) refused other = (
    refl,
    refused.cause.0,
    refused.cause.1,
    said_of (HasFrames again.name have) (HasFrames n have) (λ image is. subst (λ name. HasFrames name have image) (old.named n) is) refused.cause.2,
  )
  failure starting.NoMemory refused other = absurd (other refl)

  pub refused_rest : (f : StartFault) (told : PairFault) → told ≡ pair_fault n f → is_node_up old n ≡ false
      → RestartAnswers state (node_of old n) (node_of new n) (duty_of old).epoch (rows.needed_length old n) (Err f) → StartRest state old new n (Err told)
  refused_rest f told is was answers =
      let answer = answers.answer in
      subst (λ (x : PairFault). StartRest state old new n (Err x)) (sym is) ((was, answer.2), keeps, failure f answer.0 answer.1)

  pub started_rest : IsStarted state (node.disk_of (node_of old n)) again (node_of new n) → (len known : ℕ) → len ≡ len_of new n → known ≡ node.known_of (node_of new n)
      → StartRest state old new n (Ok (record { len = len; known = known }))
  started_rest begun len known len_is known_is =
      (begun.usable, len_is, known_is ∙ begun.known, subst (λ (k : ℕ). rows.needed_length old n ≤ k) (sym len_is) begun.enough, keeps)
