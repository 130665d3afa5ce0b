-- What the status of a pair tells of the world that it shows.
use Rattle.std.proofs.Common.{◌≡◌, ℕ, suc, length, refl, sym, ap, ◌∙◌, Option, Some, None, Bool, true, false}
use Rattle.std.specs.Prelude.{nat_lt, ◌&&◌}
use Rattle.ali_base.specs.Steps.{when}
use Rattle.ali_base.specs.declared.duty.Duty.{Duty}
use Rattle.ali_base.specs.declared.names.NodeName.{NodeName}
use Rattle.ali_base.specs.declared.names.NodeName.TheVariants.{A, B}
use Rattle.crash_disk.specs.DiskState.{DiskState}
use Rattle.office_entry.specs.declared.entry.Entry.{Entry}
use Rattle.office_state.specs.declared.limits.Limits.{Limits}
use Rattle.pair_world.specs.World.{World, node_at, holder_journal}
use Rattle.world_rows.specs.Told.{Told_status}
use Rattle.world_rows.specs.WorldRows.{report, length_told, pending_told}
use Rattle.pair_core.specs.Pair.{Shows, node_of, is_node_up, len_of, count_of, duty_of}
use Rattle.pair_core.specs.PairRefusals as rows
use Rattle.pair_core.specs.declared.pair.Pair.{Pair}
use Rattle.pair_node.proofs.Quiet.{long_as}

when_same : (b c : Bool) (x y : ℕ) → b ≡ c → (b ≡ true → x ≡ y) → when b x ≡ when c y
when_same true c x y is same = ap Some (same refl) ∙ ap (λ (t : Bool). when t y) is
when_same false c x y is same = ap (λ (t : Bool). when t y) is

and_same : (a b c d : Bool) → a ≡ b → (a ≡ true → c ≡ d) → (a && c) ≡ (b && d)
and_same true b c d is same = same refl ∙ ap (λ (t : Bool). t && d) is
and_same false b c d is same = ap (λ (t : Bool). t && d) is

left_of : (a b : Bool) → (a && b) ≡ true → a ≡ true
left_of true b is = refl
left_of false b is = absurd (cc)

module _ {D : Type 0} (state : D → DiskState) (limits : Limits) (p : Pair D) (w : World Entry) (shown : Shows state limits p w) where
  -- how many frames the journal of a node has that is up
  pub long : (n : NodeName) → is_node_up p n ≡ true → len_of p n ≡ length (node_at w.base.nodes n).journal
  long n up = long_as state limits (node_of p n) (node_at w.base.nodes n).journal ((shown.nodes n).frames up)

  pub long_holder : is_node_up p (rows.holder p) ≡ true → len_of p (rows.holder p) ≡ length (holder_journal w.base)
  long_holder up = long (rows.holder p) up ∙ ap (λ (d : Duty). length (node_at w.base.nodes d.holder).journal) shown.duty

  length_is : (n : NodeName) → rows.length_told p n ≡ length_told limits w (node_at w.base.nodes n)
  length_is n = when_same (is_node_up p n) (node_at w.base.nodes n).up (len_of p n) (length (node_at w.base.nodes n).journal) (sym (shown.nodes n).up) (long n)

  holder_up : is_node_up p (rows.holder p) ≡ (node_at w.base.nodes w.base.duty.holder).up
  holder_up = sym (shown.nodes (rows.holder p)).up ∙ ap (λ (d : Duty). (node_at w.base.nodes d.holder).up) shown.duty

  pending_is : rows.flight_told p ≡ pending_told limits w
  pending_is =
      let up : Bool = is_node_up p (rows.holder p) in
      let more : Bool = nat_lt (count_of p) (len_of p (rows.holder p)) in
      when_same (up && more) _ (suc (count_of p)) (suc (length w.base.booked))
      (and_same up (node_at w.base.nodes w.base.duty.holder).up more (nat_lt (length w.base.booked) (length (holder_journal w.base))) holder_up
      (λ is. (λ i. nat_lt (shown.count i) (long_holder is i))))
      (λ is. ap suc shown.count)

  -- the status of the pair is that of the world
  pub report_is : (a b : Option ℕ) (flight : Option ℕ) → a ≡ rows.length_told p A → b ≡ rows.length_told p B → flight ≡ rows.flight_told p
      → Told_status (record { duty = duty_of p; count = count_of p; pending = flight; length_a = a; length_b = b }) ≡ Told_status (report limits w)
  report_is a b flight is_a is_b is =
      let one : a ≡ length_told limits w w.base.nodes.a = is_a ∙ length_is A in
      let two : b ≡ length_told limits w w.base.nodes.b = is_b ∙ length_is B in
      let three : flight ≡ pending_told limits w = is ∙ pending_is in
      λ i. Told_status (record { duty = shown.duty i; count = shown.count i; pending = three i; length_a = one i; length_b = two i })
