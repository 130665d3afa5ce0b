use Rattle.std.proofs.Common.{◌≡◌, false, ◌&&◌, Some, None, subst, sym, ◌∙◌, IfSome, ℤ, w32, to_z, of_z}
use Rattle.std.proofs.lemmas.Int.{to_z-of_z}
use Rattle.std.proofs.lemmas.Bool.{and_parts}
use Rattle.ali_base.specs.Steps.{when}
use Rattle.msag_ranges.specs.StreetGuide.{range_of, least_overlap, moved, MayStand}
use Rattle.msag_ranges.specs.declared.range.Range.{Range}
use Rattle.number_table.specs.HouseArithmetic.{added, stays_house}
use Rattle.msag_edits.specs.HouseArithmetic.{is_odd, is_one_parity}
use Rattle.msag_edits.specs.EditRules.{shifted}
use Rattle.msag_edits.proofs.Ranges.{may_stand-shifted, set-asks, when-some}
use Rattle.msag_edits.proofs.renumber.renumber.Goals as goal

pub set-requires-clause-stands : goal.set-requires-clause-stands
set-requires-clause-stands g c =
    let r = c.in-Some.range in
    let guide = c.args.guide.now in
    let s = c.in-Some-shifted.shifted in
    let by = c.args.by in
    let back : to_z w32 (of_z w32 by) ≡ by = to_z-of_z w32 by c.ranges.by in
    let found : range_of guide.ranges c.args.id ≡ Some r = cc in
    let w = when-some (stays_house r.low by && stays_house r.high by) (shifted r by) s
    (subst (λ (z : ℤ). Some s ≡ when (stays_house r.low z && stays_house r.high z) (shifted r z)) back c.in-Some-shifted.ensures) in
    let ends = and_parts (stays_house r.low by) (stays_house r.high by) w.0 in
    let even : (is_one_parity r.parity && is_odd by) ≡ false = subst (λ (z : ℤ). (is_one_parity r.parity && is_odd z) ≡ false) back (sym c.swaps_parity.ensures ∙ c.if-swaps_parity.false) in
    let free : least_overlap guide.ranges s (Some c.args.id) ≡ None = cc in
    let there : least_overlap guide.ranges (shifted r by) (Some c.args.id) ≡ None = subst (λ (x : Range). least_overlap guide.ranges x (Some c.args.id) ≡ None) w.1 free in
    let stands = may_stand-shifted guide.ranges guide.next guide.limit c.args.id by r c.live_range.ensures.sound found even ends.0 ends.1 there in
    subst (λ (x : Range). IfSome (range_of guide.ranges c.args.id) (λ t. MayStand guide.ranges (moved t x.low x.high x.esn) (Some c.args.id))) (sym w.1)
    (set-asks guide.ranges c.args.id (added r.low by) (added r.high by) r.esn r found stands)
