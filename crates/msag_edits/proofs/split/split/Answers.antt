use Rattle.std.proofs.Common.{◌≡◌, false, Some, None, subst, sym, ◌∙◌, ap, List, ℕ}
use Rattle.msag_ranges.specs.StreetGuide.{StreetGuide, range_of, MayStand, with_moved, new_range}
use Rattle.msag_ranges.specs.HeldNumbers.{greatest_to}
use Rattle.msag_ranges.specs.declared.range.Range.{Range}
use Rattle.msag_edits.specs.EditRules.{has_empty_part}
use Rattle.msag_edits.proofs.Ranges.{may_stand-lower, may_stand-upper, upper-limit, set-asks-at, both_parts}
use Rattle.msag_edits.proofs.split.split.Goals as goal

pub set-requires-clause-stands : goal.set-requires-clause-stands
set-requires-clause-stands g c =
    let r = c.in-Some.range in
    let old = c.args.guide.now in
    let at = c.args.at in
    let id = c.args.id in
    let found : range_of old.ranges id ≡ Some r = cc in
    let parts : has_empty_part r at ≡ false = cc in
    let w = both_parts r at parts in
    let stands = may_stand-lower old.ranges old.next old.limit id at r c.live_range.ensures.sound found w.0 w.1 in
    let same : c.ready.new.self.ranges ≡ old.ranges = ap (λ (s : StreetGuide). s.ranges) c.ready.ensures.kept in
    set-asks-at old.ranges c.ready.new.self.ranges id (greatest_to r.parity at) c.greatest_up_to.result r same c.greatest_up_to.ensures found stands

pub least_above-low-requires : goal.least_above-low-requires
least_above-low-requires g c =
    let r = c.in-Some.range in
    let old = c.args.guide.now in
    let at = c.args.at in
    let id = c.args.id in
    let found : range_of old.ranges id ≡ Some r = cc in
    let parts : has_empty_part r at ≡ false = cc in
    upper-limit old.ranges old.next old.limit id at r c.live_range.ensures.sound found (both_parts r at parts).1

pub add-new_id-requires-clause-stands : goal.add-new_id-requires-clause-stands
add-new_id-requires-clause-stands g c =
    let r = c.in-Some.range in
    let old = c.args.guide.now in
    let at = c.args.at in
    let id = c.args.id in
    let esn = c.in-Some-new.esn in
    let found : range_of old.ranges id ≡ Some r = cc in
    let parts : has_empty_part r at ≡ false = cc in
    let w = both_parts r at parts in
    let stands = may_stand-upper old.ranges old.next old.limit id c.set.new.self.next at esn r c.live_range.ensures.sound found w.0 w.1 in
    let same : c.ready.new.self.ranges ≡ old.ranges = ap (λ (s : StreetGuide). s.ranges) c.ready.ensures.kept in
    let ranges : c.set.new.self.ranges ≡ with_moved old.ranges id r.low (greatest_to r.parity at) r.esn =
    ap (λ (s : StreetGuide). s.ranges) c.set.ensures.after
    ∙ ap (λ (xs : List Range). with_moved xs id r.low c.greatest_up_to.result r.esn) same
    ∙ ap (λ (n : ℕ). with_moved old.ranges id r.low n r.esn) c.greatest_up_to.ensures in
    subst (λ (xs : List Range). MayStand xs (new_range c.set.new.self.next r.key c.least_above-low.result r.high r.parity esn) None) (sym ranges)
    (subst (λ (n : ℕ). MayStand (with_moved old.ranges id r.low (greatest_to r.parity at) r.esn) (new_range c.set.new.self.next r.key n r.high r.parity esn) None) (sym c.least_above-low.ensures) stands)
