-- How the refusals of a pair are those of the world that it shows, and what a row gives then.
use Rattle.std.proofs.Common.{◌≡◌, ℕ, suc, ◌<◌, ◌⊎◌, inl, inr, List, [], ◌∷◌, length, map, refl, sym, ap, subst, ◌∙◌, arith, Option, Some, None, Bool, true, false}
use Rattle.std.proofs.lemmas.Bool.Decides.{nat_tests}
use Rattle.std.specs.Prelude.{not, option_map, nat_lt, nat_le, ◌&&◌, ◌||◌, if◌then◌else◌}
use Rattle.ali_base.specs.Steps.{when}
use Rattle.ali_base.specs.declared.duty.Duty.{Duty}
use Rattle.ali_base.specs.declared.duty.Mode.{Mode}
use Rattle.ali_base.specs.declared.duty.Mode.TheVariants.{Both, Alone}
use Rattle.ali_base.specs.declared.names.DiskName.TheVariants as disks
use Rattle.ali_base.specs.declared.names.NodeName.{NodeName}
use Rattle.crash_disk.specs.DiskState.{DiskState}
use Rattle.office_entry.specs.declared.entry.Entry.{Entry}
use Rattle.office_state.specs.OfficeState.{State}
use Rattle.office_state.specs.declared.limits.Limits.{Limits}
use Rattle.pair_world.specs.Refusals as refusals
use Rattle.pair_world.specs.Refusals.{Refusal, Item, Test, is_alone}
use Rattle.pair_world.specs.World.{World, is_node}
use Rattle.world_rows.specs.Counts.{Counts}
use Rattle.world_rows.specs.Rows.{Row, Gives}
use Rattle.world_rows.specs.Told.{Told, Refused, Failed}
use Rattle.world_rows.specs.WorldRows.{unless}
use Rattle.world_rows.specs.WorldSteps.{Comes}
use Rattle.pair_core.specs.Pair.{Shows, duty_of, is_up, is_node_up, bounds_of, counts_of}
use Rattle.pair_core.specs.PairAnswers.{fault_told}
use Rattle.pair_core.specs.PairChanges.{MayChange}
use Rattle.pair_core.specs.PairRefusals as rows
use Rattle.pair_core.specs.PairRefusals.{first_of, or_first}
use Rattle.pair_core.specs.declared.faults.PairFault.{PairFault}
use Rattle.pair_core.specs.declared.faults.PairFault.TheVariants as fault
use Rattle.pair_core.specs.declared.pair.Pair.{Pair}

-- a refusal of the pair is this one of the world
abbrev pub Matches : Option PairFault → Option Refusal → Type 0
Matches own told = option_map fault_told own ≡ option_map (λ (r : Refusal). Some (Refused r)) told

-- the refusals of a row are those of the world, each where none before it holds
abbrev pub AreRow : List (Option PairFault) → List (Option Refusal) → Type 0
AreRow [] [] = Unit {0}
AreRow (own ∷ owns) (told ∷ tolds) = Matches own told × (told ≡ None → AreRow owns tolds)
AreRow [] (told ∷ tolds) = ⊥
AreRow (own ∷ owns) [] = ⊥

-- the items of a row of these tests
abbrev pub tests : List (Option Refusal) → List (Item Entry)
tests [] = []
tests (told ∷ tolds) = Test told ∷ tests tolds

pub matched : (b c : Bool) (own : PairFault) (told : Refusal) → b ≡ c → fault_told own ≡ Some (Refused told) → Matches (when b own) (when c told)
matched b true own told is same = ap (λ (x : Bool). option_map fault_told (when x own)) is ∙ ap Some same
matched b false own told is same = ap (λ (x : Bool). option_map fault_told (when x own)) is

first_stays : (f : PairFault) (owns : List (Option PairFault)) → or_first (Some f) owns ≡ Some f
first_stays f [] = refl
first_stays f (own ∷ owns) = first_stays f owns

none_before : (owns : List (Option PairFault)) → or_first None owns ≡ first_of owns
none_before [] = refl
none_before (own ∷ owns) = refl

module _ (before now : Counts) (s : State) (w : World Entry) (row : Row Told (World Entry)) where
  none_told : (told : Option Refusal) → Matches None told → told ≡ None
  none_told None is = refl
  none_told (Some told) is = absurd (cc)

  -- where no refusal holds, the row gives what the rest of it gives
  pub passed : (owns : List (Option PairFault)) (tolds : List (Option Refusal)) (reply : Told) (v : World Entry) → AreRow owns tolds → first_of owns ≡ None
      → Gives before now Failed w row reply v → Gives before now Failed w (unless s (tests tolds) row) reply v
  passed [] [] reply v are none gives = gives
  passed [] (told ∷ tolds) reply v are none gives = absurd are
  passed (own ∷ owns) [] reply v are none gives = absurd are
  passed (None ∷ owns) (told ∷ tolds) reply v are none gives =
      let is = none_told told are.0 in
      inr (ap (option_map Refused) is, passed owns tolds reply v (are.1 is) (sym (none_before owns) ∙ none) gives)
  passed (Some f ∷ owns) (told ∷ tolds) reply v are none gives = absurd (no_some (sym (first_stays f owns) ∙ none))
    where
      no_some : Some f ≡ None → ⊥
      no_some is = absurd (cc)

  some_told : (f : PairFault) (told : Option Refusal) (reply : Told) → Matches (Some f) told → fault_told f ≡ Some reply → option_map Refused told ≡ Some reply
  some_told f None reply is same = absurd (cc)
  some_told f (Some told) reply is same = unwrapped (sym is ∙ ap Some same)
    where
      unwrapped : Some (Some (Refused told)) ≡ Some (Some reply) → Some (Refused told) ≡ Some reply
      unwrapped e = cc

  -- the first that holds is the reply, and nothing changes
  pub refused : (owns : List (Option PairFault)) (tolds : List (Option Refusal)) (f : PairFault) (reply : Told) → AreRow owns tolds → first_of owns ≡ Some f
      → fault_told f ≡ Some reply → Gives before now Failed w (unless s (tests tolds) row) reply w
  refused [] [] f reply are is same = absurd (cc)
  refused [] (told ∷ tolds) f reply are is same = absurd are
  refused (own ∷ owns) [] f reply are is same = absurd are
  refused (None ∷ owns) (told ∷ tolds) f reply are is same =
      let none = none_told told are.0 in
      inr (ap (option_map Refused) none, refused owns tolds f reply (are.1 none) (sym (none_before owns) ∙ is) same)
  refused (Some g ∷ owns) (told ∷ tolds) f reply are is same =
      let e : Some g ≡ Some f = sym (first_stays g owns) ∙ is in
      let g_is : fault_told g ≡ Some reply = (the_same e) ∙ same in
      inl (some_told g told reply are.0 g_is, refl)
    where
      the_same : Some g ≡ Some f → fault_told g ≡ fault_told f
      the_same e = cc

module _ {D : Type 0} (state : D → DiskState) (limits : Limits) (p : Pair D) (w : World Entry) (shown : Shows state limits p w) where
  pub duty_is_down : Matches (rows.duty_is_down p) (refusals.duty_is_down w)
  duty_is_down = matched (not (is_up p)) (not w.register_up) _ _ (ap not (sym shown.register_up)) refl

  pub node_is_down : (n : NodeName) → Matches (rows.node_is_down p n) (refusals.node_is_down w n)
  node_is_down n = matched (not (is_node_up p n)) _ _ _ (ap not (sym (shown.nodes n).up)) refl

  pub node_is_up : (n : NodeName) → Matches (rows.node_is_up p n) (refusals.node_is_up w n)
  node_is_up n = matched (is_node_up p n) _ _ _ (sym (shown.nodes n).up) refl

  pub holder_is_down : Matches (rows.node_is_down p (rows.holder p)) (refusals.node_is_down w w.base.duty.holder)
  holder_is_down = subst (λ (d : Duty). Matches (rows.node_is_down p (rows.holder p)) (refusals.node_is_down w d.holder)) shown.duty (node_is_down (rows.holder p))

  pub not_paired : Matches (rows.not_paired p) (refusals.not_paired w)
  not_paired = subst (λ (d : Duty). Matches (rows.not_paired p) (when (is_alone d.mode) (refusals.Not_paired d.epoch d.holder))) shown.duty
      (matched (is_alone (duty_of p).mode) (is_alone (duty_of p).mode) _ (refusals.Not_paired (duty_of p).epoch (duty_of p).holder) refl refl)

  pub paired : Matches (rows.paired p) (refusals.paired w)
  paired = subst (λ (d : Duty). Matches (rows.paired p) (when (not (is_alone d.mode)) (refusals.Paired d.epoch d.holder))) shown.duty
      (matched (not (is_alone (duty_of p).mode)) (not (is_alone (duty_of p).mode)) _ (refusals.Paired (duty_of p).epoch (duty_of p).holder) refl refl)

  pub epoch_end : Matches (rows.epoch_end p) (refusals.epoch_end w (bounds_of p))
  epoch_end = subst (λ (d : Duty). Matches (rows.epoch_end p) (when (nat_le (bounds_of p).last_epoch d.epoch) (refusals.Epoch_end d.epoch))) shown.duty
      (matched (nat_le (bounds_of p).last_epoch (duty_of p).epoch) _ _ (refusals.Epoch_end (duty_of p).epoch) refl refl)

  -- the row of a takeover
  pub take_row : (n : NodeName) → AreRow (rows.duty_is_down p ∷ rows.node_is_down p n ∷ rows.not_paired p ∷ rows.epoch_end p ∷ [])
      (refusals.duty_is_down w ∷ refusals.node_is_down w n ∷ refusals.not_paired w ∷ refusals.epoch_end w (bounds_of p) ∷ [])
  take_row n = (duty_is_down, λ _. (node_is_down n, λ _. (not_paired, λ _. (epoch_end, λ _. tt))))

  pub not_in_duty : (n : NodeName) → Matches (rows.not_in_duty p n) (refusals.not_in_duty w n)
  not_in_duty n = subst (λ (d : Duty). Matches (rows.not_in_duty p n) (when (is_alone d.mode && not (is_node n d.holder)) (refusals.Out_of_duty n d.epoch d.holder))) shown.duty
      (matched (is_alone (duty_of p).mode && not (is_node n (duty_of p).holder)) _ _ (refusals.Out_of_duty n (duty_of p).epoch (duty_of p).holder) refl refl)

  -- the row of making a table ready
  pub ready_row : (n : NodeName) → AreRow (rows.duty_is_down p ∷ rows.node_is_down p n ∷ rows.not_in_duty p n ∷ [])
      (refusals.duty_is_down w ∷ refusals.node_is_down w n ∷ refusals.not_in_duty w n ∷ [])
  ready_row n = (duty_is_down, λ _. (node_is_down n, λ _. (not_in_duty n, λ _. tt)))

-- ---- what holds where no refusal does

abbrev pub AllNone : List (Option PairFault) → Type 0
AllNone [] = Unit {0}
AllNone (own ∷ owns) = (own ≡ None) × AllNone owns

pub all_none : (owns : List (Option PairFault)) → first_of owns ≡ None → AllNone owns
all_none [] none = tt
all_none (None ∷ owns) none = (refl, all_none owns (sym (none_before owns) ∙ none))
all_none (Some f ∷ owns) none = absurd (no_some (sym (first_stays f owns) ∙ none))
  where
    no_some : Some f ≡ None → ⊥
    no_some is = absurd (cc)

pub not_when : (b : Bool) (f : PairFault) → when b f ≡ None → b ≡ false
not_when true f is = absurd (cc)
not_when false f is = refl

pub when_not : (b : Bool) (f : PairFault) → when (not b) f ≡ None → b ≡ true
when_not true f is = refl
when_not false f is = absurd (cc)

pub both_mode : (m : Mode) → is_alone m ≡ false → m ≡ Both
both_mode Both is = refl
both_mode Alone is = absurd (cc)

pub alone_mode : (m : Mode) → is_alone m ≡ true → m ≡ Alone
alone_mode Both is = absurd (cc)
alone_mode Alone is = refl

pub le_false_lt : (m n : ℕ) → nat_le m n ≡ false → n < m
le_false_lt m n is = grind (arith, nat_tests)

module _ {D : Type 0} (state : D → DiskState) (limits : Limits) (p : Pair D) (w : World Entry) (shown : Shows state limits p w) where
  -- the row of the holder that goes on alone
  pub alone_row : AreRow (rows.duty_is_down p ∷ rows.node_is_down p (rows.holder p) ∷ rows.not_paired p ∷ rows.epoch_end p ∷ [])
      (refusals.duty_is_down w ∷ refusals.node_is_down w w.base.duty.holder ∷ refusals.not_paired w ∷ refusals.epoch_end w (bounds_of p) ∷ [])
  alone_row = (duty_is_down state limits p w shown, λ _. (holder_is_down state limits p w shown, λ _. (not_paired state limits p w shown, λ _. (epoch_end state limits p w shown, λ _. tt))))

-- the change to mode Alone may be done
pub may_leave : {D : Type 0} (p : Pair D) (n : NodeName) → rows.take_refusal p n ≡ None → MayChange p n Alone
may_leave p n none =
    let all = all_none (rows.duty_is_down p ∷ rows.node_is_down p n ∷ rows.not_paired p ∷ rows.epoch_end p ∷ []) none in
    record {
      modes = inl (both_mode (duty_of p).mode (not_when (is_alone (duty_of p).mode) (fault.NotPaired (duty_of p).epoch (rows.holder p)) all.1.1.0), refl);
      epochs_left = le_false_lt (bounds_of p).last_epoch (duty_of p).epoch (not_when (nat_le (bounds_of p).last_epoch (duty_of p).epoch) (fault.EpochEnd (duty_of p).epoch) all.1.1.1.0);
    }

pub up_for : {D : Type 0} (p : Pair D) (rest : List (Option PairFault)) → first_of (rows.duty_is_down p ∷ rest) ≡ None → is_up p ≡ true
up_for p rest none = when_not (is_up p) (fault.Down disks.Duty) (all_none (rows.duty_is_down p ∷ rest) none).0

-- a refusal of a row: the world stays
pub refused_does : {D : Type 0} (state : D → DiskState) (limits : Limits) (p : Pair D) (w : World Entry) → Shows state limits p w → (row : Bool → World Entry → Row Told (World Entry)) (f : PairFault) (owns : List (Option PairFault)) → first_of owns ≡ Some f
    → ((t : Told) → fault_told f ≡ Some t → Gives (counts_of state p) (counts_of state p) Failed w (row false w) t w)
    → (v : World Entry) × Shows state limits p v × Comes (counts_of state p) (counts_of state p) w row (fault_told f) v
refused_does state limits p w shown row f owns is gives = by_told (fault_told f) refl
  where
    by_told : (o : Option Told) → fault_told f ≡ o → (v : World Entry) × Shows state limits p v × Comes (counts_of state p) (counts_of state p) w row o v
    by_told None same = (w, shown, refl)
    by_told (Some t) same = (w, shown, (false, gives t same))
