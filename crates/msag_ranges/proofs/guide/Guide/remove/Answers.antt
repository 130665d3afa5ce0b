use Rattle.std.proofs.Common.{◌≡◌, ◌-◌, ◌/◌, ◌==◌, not, List, min, length, IsSome, false, true, sym, subst, ap, ◌∙◌, arith, vec_capacity}
use Rattle.msag_ranges.specs.StreetGuide.{StreetGuide, without}
use Rattle.msag_ranges.specs.declared.range.Range.{Range}
use Rattle.msag_ranges.specs.GuideIndex.{IsIndexedGuide}
use Rattle.msag_ranges.proofs.GuideKept.{sound-remove, length-filter_le, find-no_place}
use Rattle.msag_ranges.proofs.IndexKept.{own_there, is_at, index-without, without-remove}
use Rattle.msag_ranges.proofs.guide.Guide.remove.Goals as goal

pub take_range-requires-clause-there : goal.take_range-requires-clause-there
take_range-requires-clause-there c =
    let f = c.self.inside in
    let w = is_at f.ranges.items c.args.self.now.ranges c.args.id c.in-Some.at c.remove-range.result (ap (λ (g : StreetGuide). g.ranges) c.self.view_is) c.in-Some.ensures c.remove-range.ensures.value in
    own_there f.index.items f.ranges.items c.remove-range.result c.self.invariant.index w.there

pub invariant_of-self : goal.invariant_of-self
invariant_of-self c =
    let f = c.self.inside in
    let id = c.args.id in
    let w = is_at f.ranges.items c.args.self.now.ranges id c.in-Some.at c.remove-range.result (ap (λ (g : StreetGuide). g.ranges) c.self.view_is) c.in-Some.ensures c.remove-range.ensures.value in
    let fewer = length-filter_le (λ (r : Range). not (r.id == id)) f.ranges.items in
    let roomy = c.self.invariant.roomy in
    let room = c.take_range.ensures.room in
    subst (λ (xs : List Range). IsIndexedGuide xs c.take_range.new.index.items f.next_id f.limit (vec_capacity c.take_range.new.index)) (sym (c.remove-range.ensures.items ∙ without-remove f.ranges.items id c.in-Some.at c.self.invariant.sound.rising w.inside w.ids))
    (record {
      sound = sound-remove f.ranges.items f.next_id f.limit id c.self.invariant.sound;
      index = index-without f.ranges.items f.index.items c.take_range.new.index.items id c.in-Some.at c.remove-range.result c.self.invariant.sound.rising c.self.invariant.index w c.take_range.ensures.rising c.take_range.ensures.among;
      roomy = omega (arith, fewer, roomy, room);
    })

pub returns-in-Some-clause-after : goal.returns-in-Some-clause-after
returns-in-Some-clause-after c =
    let f = c.self.inside in
    let id = c.args.id in
    let w = is_at f.ranges.items c.args.self.now.ranges id c.in-Some.at c.remove-range.result (ap (λ (g : StreetGuide). g.ranges) c.self.view_is) c.in-Some.ensures c.remove-range.ensures.value in
    let e : c.remove-range.new.self.items ≡ without f.ranges.items id = c.remove-range.ensures.items ∙ without-remove f.ranges.items id c.in-Some.at c.self.invariant.sound.rising w.inside w.ids in
    let spare = min (min (vec_capacity c.remove-range.new.self) f.limit) (vec_capacity c.take_range.new.index / 2) - length c.remove-range.new.self.items in
    let of = λ (xs : List Range) (g : StreetGuide). (let v : StreetGuide = record { ranges = xs; next = g.next; limit = g.limit; spare = spare } in v) in
    ap (λ (xs : List Range). of xs (record { ranges = f.ranges.items; next = f.next_id; limit = f.limit; spare = 0 })) e ∙ ap (λ (g : StreetGuide). of (without g.ranges id) g) c.self.view_is

pub returns-in-Some-clause-sound : goal.returns-in-Some-clause-sound
returns-in-Some-clause-sound c = (invariant_of-self c).sound

pub returns-in_default-clause-after : goal.returns-in_default-clause-after
returns-in_default-clause-after c =
    let none : false ≡ true = subst IsSome (find-no_place (λ (s : Range). s.id == c.args.id) c.args.self.now.ranges (sym c.in_default.ensures)) c.requires in
    absurd cc
