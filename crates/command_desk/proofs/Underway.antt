-- What `NEXT` and `BATCH` tell and switch over any disks, part after part.
use Rattle.std.proofs.Common.{◌≡◌, ◌≢◌, ◌⊎◌, inl, inr, Bool, true, false, not, List, [], ◌∷◌, ◌++◌, All, refl, ap, sym, ◌∙◌, subst, arith, Option, Some, None}
use Rattle.std.specs.Option.{option_or}
use Rattle.std.proofs.lemmas.List.Elements.{All-append, All-cons, All-nil, All-weaker}
use Rattle.ali_base.specs.Steps.{when}
use Rattle.ali_base.specs.declared.names.DiskName.{DiskName}
use Rattle.ali_base.specs.declared.names.DiskName.TheVariants as disk
use Rattle.catch_up.proofs.Courses.{rose_later}
use Rattle.command_machine.specs.Replies as replies
use Rattle.command_machine.specs.Switches.{Switches, After, AfterAll, HasFailed, IsSwitched, first_off, is_on, with_node}
use Rattle.command_desk.specs.DeskSteps.{IsPlain, IsPlainly, IsUnderway, GoesOn, IsOver}
use Rattle.command_desk.specs.MadeReply.{counts_at, holder_of, left_replies, replies_of, reply_of, switches_of, table_of}
use Rattle.command_desk.specs.declared.desk.Desk.{Desk}
use Rattle.command_desk.specs.declared.reply.LeftBehind.{LeftBehind}
use Rattle.command_desk.specs.declared.reply.Replied.{Replied}
use Rattle.command_desk.proofs.Switching.{down_of, first_off_is, row_none}
use Rattle.crash_disk.specs.DiskState.{DiskState}
use Rattle.office_commands.specs.Commands as commands
use Rattle.office_commands.specs.Commands.{Command}
use Rattle.office_commands.specs.declared.order.Order.TheVariants as order
use Rattle.pair_core.specs.Pair.{is_node_up, is_up}
use Rattle.pair_core.specs.PairRefusals as rows
use Rattle.pair_core.specs.PairRefusals.{first_of}
use Rattle.pair_core.specs.declared.faults.PairFault.TheVariants as fault
use Rattle.pair_world.specs.Refusals.{Down, Up, disk_of}
use Rattle.pair_world.specs.World.{other}
use Rattle.pair_world.proofs.Items.{none_some}
use Rattle.world_rows.specs.Counts.{Counts, NeverFall, count_at}
use Rattle.world_rows.specs.Told as world

-- ---- the register and the holder are up

both_up : (register node : Bool) (d : DiskName) → down_of register node d ≡ None → (register ≡ true) × (node ≡ true)
both_up true true d none = (refl, refl)
both_up true false d none = absurd (none_some d (sym none))
both_up false node d none = absurd (none_some disk.Duty (sym none))

module _ {D : Type 0} (desk : Desk D) where
  pub held_up : rows.held_refusal desk.pair ≡ None → (is_up desk.pair ≡ true) × (is_node_up desk.pair (rows.holder desk.pair) ≡ true)
  held_up held = both_up (is_up desk.pair) (is_node_up desk.pair (rows.holder desk.pair)) (disk_of (rows.holder desk.pair)) (row_none (is_up desk.pair) (is_node_up desk.pair (rows.holder desk.pair)) (disk_of (rows.holder desk.pair)) [] held).0

  pub held_by : is_up desk.pair ≡ true → is_node_up desk.pair (rows.holder desk.pair) ≡ true → rows.held_refusal desk.pair ≡ None
  held_by register node = λ i. first_of (when (not (register i)) (fault.Down disk.Duty) ∷ when (not (node i)) (fault.Down (disk_of (rows.holder desk.pair))) ∷ [])

  -- so no one is down whom the holder's commands need
  pub none_off : rows.held_refusal desk.pair ≡ None → first_off (switches_of desk) (with_node (holder_of desk)) ≡ None
  none_off held = first_off_is desk (holder_of desk) ∙ (row_none (is_up desk.pair) (is_node_up desk.pair (rows.holder desk.pair)) (disk_of (rows.holder desk.pair)) [] held).0

-- ---- lists of replies

no_more : {A : Type 0} (said : List A) (last : A) → said ++ last ∷ [] ≡ [] → ⊥
no_more [] last is = absurd (cc)
no_more (first ∷ said) last is = absurd (cc)

-- the first of a list with a last one
first_is : {A : Type 0} (said : List A) (last x : A) (more : List A) → said ++ last ∷ [] ≡ x ∷ more
    → ((said ≡ []) × (last ≡ x) × (more ≡ [])) ⊎ ((front : List A) × (said ≡ x ∷ front) × (more ≡ front ++ last ∷ []))
first_is [] last x more is = inl (refl, head, tail)
  where
    head : last ≡ x
    head = cc

    tail : more ≡ []
    tail = cc
first_is (first ∷ said) last x more is = inr (said, ap (λ (y : _). y ∷ said) head, tail)
  where
    head : first ≡ x
    head = cc

    tail : more ≡ said ++ last ∷ []
    tail = cc

-- what is switched part after part
pub after_on : (s t u : Switches) (said more : List replies.Reply) → AfterAll commands.Next s said t → AfterAll commands.Next t more u → AfterAll commands.Next s (said ++ more) u
after_on s t u [] more is then = subst (λ (x : Switches). AfterAll commands.Next x more u) is then
after_on s t u (first ∷ said) more (next, one, rest) then = (next, one, after_on next t u said more rest then)

-- a failure that is told of a part is one of the whole
failed_later : (a b c d : Counts) → NeverFall a b → NeverFall c d → (told : replies.Reply) → HasFailed b c told → HasFailed a d told
failed_later a b c d low high (replies.Told (world.Failed disk)) failed = rose_later (count_at a disk) (count_at b disk) (count_at c disk) (count_at d disk) (low disk) (high disk) failed
failed_later a b c d low high told failed = tt

pub all_failed_later : (a b c d : Counts) → NeverFall a b → NeverFall c d → (said : List replies.Reply) → All (HasFailed b c) said → All (HasFailed a d) said
all_failed_later a b c d low high said = All-weaker (HasFailed b c) (HasFailed a d) (failed_later a b c d low high) said

pub no_fall : (a : Counts) → NeverFall a a
no_fall a d = omega arith

-- neither `DOWN` nor `UP`
pub plain_down : (told : replies.Reply) (d : DiskName) → IsPlain told → told ≡ replies.Told (world.Refused (Down d)) → ⊥
plain_down told d plain is = subst (λ (r : replies.Reply). IsPlain r) is plain

pub plain_up : (told : replies.Reply) (d : DiskName) → IsPlain told → told ≡ replies.Told (world.Refused (Up d)) → ⊥
plain_up told d plain is = subst (λ (r : replies.Reply). IsPlain r) is plain

head_is : (a b : replies.Reply) (more : List replies.Reply) → a ∷ [] ≡ b ∷ more → a ≡ b
head_is a b more is = cc

none_told : (a : replies.Reply) (more : List replies.Reply) → [] ≡ a ∷ more → ⊥
none_told a more is = absurd (cc)

-- What was told before the last reply.
pub record IsFront {D : Type 0} (state : D → DiskState) (old mid : Desk D) (said : List replies.Reply) : Type 0 where
  pub failed : All (HasFailed (counts_at state old) (counts_at state mid)) said
  pub after : AfterAll commands.Next (switches_of old) said (switches_of mid)
  pub first : (d : DiskName) (more : List replies.Reply) → said ≡ replies.Told (world.Refused (Down d)) ∷ more
      → (d ≡ disk_of (other (holder_of old))) × (is_on (switches_of old) d ≡ false)
  pub up : (d : DiskName) (more : List replies.Reply) → said ≡ replies.Told (world.Refused (Up d)) ∷ more → ⊥

module _ {D : Type 0} (state : D → DiskState) where
  -- a reply alone
  pub underway_alone : (old new : Desk D) (told : replies.Reply) → IsPlainly state old new told → IsUnderway state old new (told ∷ [])
  underway_alone old new told is = record {
    left = λ d more same. absurd (plain_down told d is.plain (head_is told _ more same));
    up = λ d more same. plain_up told d is.plain (head_is told _ more same);
    failed = All-cons (HasFailed (counts_at state old) (counts_at state new)) told [] is.failed (All-nil (HasFailed (counts_at state old) (counts_at state new)));
    after = (switches_of new, is.after, refl);
  }

  module _ (old mid new : Desk D) (low : NeverFall (counts_at state old) (counts_at state mid)) (high : NeverFall (counts_at state mid) (counts_at state new)) where
    -- a last reply after a front
    pub underway_on : (said : List replies.Reply) (told : replies.Reply) → IsFront state old mid said → IsUnderway state mid new (told ∷ []) → IsUnderway state old new (said ++ told ∷ [])
    underway_on said told front last = record {
      left =
          λ d more same. (elim (first_is said told (replies.Told (world.Refused (Down d))) more same) [
            | inl it ↦ absurd ((last.left d [] (ap (λ (r : replies.Reply). r ∷ []) it.1)).0 refl)
            | inr it ↦ (λ none. no_more it.0 told (sym it.2 ∙ none), (front.first d it.0 it.1).0, (front.first d it.0 it.1).1)
          ]);
      up =
          λ d more same. (elim (first_is said told (replies.Told (world.Refused (Up d))) more same) [
            | inl it ↦ last.up d [] (ap (λ (r : replies.Reply). r ∷ []) it.1)
            | inr it ↦ front.up d it.0 it.1
          ]);
      failed =
          All-append (HasFailed (counts_at state old) (counts_at state new)) said (told ∷ [])
          (all_failed_later (counts_at state old) (counts_at state old) (counts_at state mid) (counts_at state new) (no_fall (counts_at state old)) high said front.failed)
          (all_failed_later (counts_at state old) (counts_at state mid) (counts_at state new) (counts_at state new) low (no_fall (counts_at state new)) (told ∷ []) last.failed);
      after = after_on (switches_of old) (switches_of mid) (switches_of new) said (told ∷ []) front.after last.after;
    }

    -- after a part that tells nothing
    pub underway_since : switches_of mid ≡ switches_of old → (said : List replies.Reply) → IsUnderway state mid new said → IsUnderway state old new said
    underway_since same said is = record {
      left =
          λ d more told.
          let it = is.left d more told in
          (it.0, it.1 ∙ ap (λ (s : Switches). disk_of (other s.holder)) same, sym (ap (λ (s : Switches). is_on s d) same) ∙ it.2);
      up = is.up;
      failed = all_failed_later (counts_at state old) (counts_at state mid) (counts_at state new) (counts_at state new) low (no_fall (counts_at state new)) said is.failed;
      after = subst (λ (s : Switches). AfterAll commands.Next s said (switches_of new)) same is.after;
    }

    -- ---- the command goes on

    pub goes_since : GoesOn state old mid None → (left : Option LeftBehind) → GoesOn state mid new left → GoesOn state old new left
    goes_since first left then =
        let same : switches_of mid ≡ switches_of old = first.after in
        record {
          failed = all_failed_later (counts_at state old) (counts_at state mid) (counts_at state new) (counts_at state new) low (no_fall (counts_at state new)) (left_replies left) then.failed;
          after = subst (λ (s : Switches). AfterAll commands.Next s (left_replies left) (switches_of new)) same then.after;
          first =
              λ d more told.
              let it = then.first d more told in
              (it.0 ∙ ap (λ (s : Switches). disk_of (other s.holder)) same, sym (ap (λ (s : Switches). is_on s d) same) ∙ it.1);
          up = then.up;
          held = then.held;
          alone = then.alone;
          stays_alone = λ alone. then.stays_alone (first.stays_alone alone).0;
        }

    pub goes_still : (left : Option LeftBehind) → GoesOn state old mid left → GoesOn state mid new None → GoesOn state old new left
    goes_still left first then =
        let same : switches_of new ≡ switches_of mid = then.after in
        record {
          failed = all_failed_later (counts_at state old) (counts_at state old) (counts_at state mid) (counts_at state new) (no_fall (counts_at state old)) high (left_replies left) first.failed;
          after = subst (λ (s : Switches). AfterAll commands.Next (switches_of old) (left_replies left) s) (sym same) first.after;
          first = first.first;
          up = first.up;
          held = then.held;
          alone = λ some. ap (λ (s : Switches). s.mode) same ∙ first.alone some;
          stays_alone = λ alone. let it = first.stays_alone alone in (ap (λ (s : Switches). s.mode) same ∙ it.0, it.1);
        }

    -- at most once someone is left behind
    pub left_once : (left then : Option LeftBehind) → GoesOn state old mid left → GoesOn state mid new then → left ≢ None → then ≡ None
    left_once left now first then some = (then.stays_alone (first.alone some)).1

    pub over_once : (left : Option LeftBehind) (told : Replied) → GoesOn state old mid left → IsOver state mid new told → left ≢ None → told.left ≡ None
    over_once left told first over some = over.1 (first.alone some)

    pub goes_twice : (left then : Option LeftBehind) → GoesOn state old mid left → GoesOn state mid new then → GoesOn state old new (option_or left then)
    goes_twice None now first then = goes_since first now then
    goes_twice (Some left) now first then =
        goes_still (Some left) first (subst (λ (l : Option LeftBehind). GoesOn state mid new l) (left_once (Some left) now first then (λ is. absurd (cc is))) then)

    pub front_of : (left : Option LeftBehind) → GoesOn state old mid left → IsFront state old mid (left_replies left)
    front_of left goes = record { failed = goes.failed; after = goes.after; first = goes.first; up = goes.up }

    -- and is over then
    pub over_after : (left : Option LeftBehind) (told : Replied) → GoesOn state old mid left → IsOver state mid new told
        → IsOver state old new (record { left = option_or left told.left; last = told.last })
    over_after None told first over = (
      underway_since first.after (replies_of (table_of new) new.job told) over.0,
      λ alone. over.1 (first.stays_alone alone).0,
    )
    over_after (Some left) told first over =
        let none : told.left ≡ None = over_once (Some left) told first over (λ is. absurd (cc is)) in
        let last = reply_of (table_of new) new.job told.last in (
          underway_on (left_replies (Some left)) last (front_of (Some left) first) (subst (λ (l : Option LeftBehind). IsUnderway state mid new (left_replies l ++ last ∷ [])) none over.0),
          λ alone. (first.stays_alone alone).1,
        )

  -- a part that switches nothing
  pub quiet_goes_on : (old new : Desk D) → switches_of new ≡ switches_of old → rows.held_refusal new.pair ≡ None → GoesOn state old new None
  quiet_goes_on old new same held = record {
    failed = All-nil (HasFailed (counts_at state old) (counts_at state new));
    after = same;
    first = λ d more is. absurd (none_told _ more is);
    up = λ d more is. none_told _ more is;
    held = held;
    alone = λ some. absurd (some refl);
    stays_alone = λ alone. (ap (λ (s : Switches). s.mode) same ∙ alone, refl);
  }

  -- a reply that ends the command, and nothing before it
  pub over_alone : (old new : Desk D) (told : Replied) → told.left ≡ None → IsPlainly state old new (reply_of (table_of new) new.job told.last) → IsOver state old new told
  over_alone old new told none is =
      let last = reply_of (table_of new) new.job told.last in (
        subst (λ (l : Option LeftBehind). IsUnderway state old new (left_replies l ++ last ∷ [])) (sym none) (underway_alone old new last is),
        λ alone. none,
      )

  -- ---- whole commands

  module _ (old new : Desk D) (held : rows.held_refusal old.pair ≡ None) (said : List replies.Reply) (is : IsUnderway state old new said) where
    pub next_switched : IsSwitched (counts_at state old) (counts_at state new) (switches_of old) commands.Next said (switches_of new)
    next_switched = record {
      down = λ d. (λ told. absurd ((is.left d [] told).0 refl), λ off. absurd (none_some d (sym (none_off old held) ∙ off)));
      left = λ d more told some. ((is.left d more told).1, (is.left d more told).2);
      up = λ d. (λ told. absurd (is.up d [] told), λ found. absurd (none_some d found));
      failed = is.failed;
      after = is.after;
    }

    pub batch_switched : IsSwitched (counts_at state old) (counts_at state new) (switches_of old) commands.Batch said (switches_of new)
    batch_switched = record {
      down = λ d. (λ told. absurd ((is.left d [] told).0 refl), λ off. absurd (none_some d (sym (none_off old held) ∙ off)));
      left = λ d more told some. ((is.left d more told).1, (is.left d more told).2);
      up = λ d. (λ told. absurd (is.up d [] told), λ found. absurd (none_some d found));
      failed = is.failed;
      after = after_batch (switches_of old) (switches_of new) said is.after;
    }
      where
        after_one : (s t : Switches) (told : replies.Reply) → After s commands.Next told t → After s commands.Batch told t
        after_one s t told after = after

        after_batch : (s t : Switches) (said : List replies.Reply) → AfterAll commands.Next s said t → AfterAll commands.Batch s said t
        after_batch s t [] after = after
        after_batch s t (first ∷ said) (next, one, rest) = (next, after_one s next first one, after_batch next t said rest)

  -- ---- a booking

  module _ (mid new : Desk D) (held : rows.held_refusal mid.pair ≡ None) (told : replies.Reply)
      (is : IsSwitched (counts_at state mid) (counts_at state new) (switches_of mid) (commands.Ordered order.Book) (told ∷ []) (switches_of new)) where
    after_book : (s t : Switches) → After s (commands.Ordered order.Book) told t → After s commands.Next told t
    after_book s t after = after

    pub booking_underway : IsUnderway state mid new (told ∷ [])
    booking_underway = record {
      left =
          λ d more same.
          let one = ap (λ (r : replies.Reply). r ∷ []) (head_is told (replies.Told (world.Refused (Down d))) more same) in
          absurd (none_some d (sym (none_off mid held) ∙ (is.down d).0 one));
      up = λ d more same. none_some d ((is.up d).0 (ap (λ (r : replies.Reply). r ∷ []) (head_is told (replies.Told (world.Refused (Up d))) more same)));
      failed = is.failed;
      after = (is.after.0, after_book (switches_of mid) is.after.0 is.after.1, is.after.2);
    }
