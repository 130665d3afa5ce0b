use Rattle.std.proofs.Common.{◌≡◌, ◌-◌, ◌/◌, ◌==◌, List, min, length, arith, IsSome, false, true, slice_set, subst, sym, ap, ◌∙◌, vec_capacity}
use Rattle.std.proofs.lemmas.List.{length-set}
use Rattle.msag_ranges.specs.StreetGuide.{StreetGuide, moved, with_moved}
use Rattle.msag_ranges.specs.declared.range.Range.{Range}
use Rattle.msag_ranges.proofs.GuideKept.{find-no_place}
use Rattle.msag_ranges.proofs.IndexKept.{own_there, is_at, moves}
use Rattle.msag_ranges.proofs.guide.Guide.set.Goals as goal

pub take_range-requires-clause-there : goal.take_range-requires-clause-there
take_range-requires-clause-there c =
    let f = c.self.inside in
    let w = is_at f.ranges.items c.args.self.now.ranges c.args.id c.in-Some.at c.index.result.now (ap (λ (g : StreetGuide). g.ranges) c.self.view_is) c.in-Some.ensures c.index.ensures in
    own_there f.index.items f.ranges.items c.index.result.now c.self.invariant.index w.there

pub put_range-requires-clause-room : goal.put_range-requires-clause-room
put_range-requires-clause-room c =
    let f = c.self.inside in
    let may = moves f.ranges.items c.args.self.now.ranges f.index.items c.take_range.new.index.items f.next_id f.limit (vec_capacity f.index) (vec_capacity c.take_range.new.index) c.args.id c.args.low c.args.high c.args.esn c.in-Some.at c.index.result.now
    c.self.invariant c.take_range.ensures.room (ap (λ (g : StreetGuide). g.ranges) c.self.view_is) c.in-Some.ensures c.index.ensures (omega arith) c.requires.stands c.take_range.ensures.rising c.take_range.ensures.among in
    may.roomy

pub put_range-requires-clause-free : goal.put_range-requires-clause-free
put_range-requires-clause-free c =
    let f = c.self.inside in
    let may = moves f.ranges.items c.args.self.now.ranges f.index.items c.take_range.new.index.items f.next_id f.limit (vec_capacity f.index) (vec_capacity c.take_range.new.index) c.args.id c.args.low c.args.high c.args.esn c.in-Some.at c.index.result.now
    c.self.invariant c.take_range.ensures.room (ap (λ (g : StreetGuide). g.ranges) c.self.view_is) c.in-Some.ensures c.index.ensures (omega arith) c.requires.stands c.take_range.ensures.rising c.take_range.ensures.among in
    may.free

pub invariant_of-self : goal.invariant_of-self
invariant_of-self c =
    let f = c.self.inside in
    let may = moves f.ranges.items c.args.self.now.ranges f.index.items c.take_range.new.index.items f.next_id f.limit (vec_capacity f.index) (vec_capacity c.take_range.new.index) c.args.id c.args.low c.args.high c.args.esn c.in-Some.at c.index.result.now
    c.self.invariant c.take_range.ensures.room (ap (λ (g : StreetGuide). g.ranges) c.self.view_is) c.in-Some.ensures c.index.ensures (omega arith) c.requires.stands c.take_range.ensures.rising c.take_range.ensures.among in
    let roomy = c.self.invariant.roomy in
    let room = c.put_range.ensures.room in
    let before = c.take_range.ensures.room in
    record {
      sound = may.sound;
      index = may.index c.put_range.new.index.items c.put_range.ensures.rising c.put_range.ensures.among;
      roomy = omega (arith, roomy, room, before, length-set {A = Range});
    }

pub returns-in-Some-clause-after : goal.returns-in-Some-clause-after
returns-in-Some-clause-after c =
    let f = c.self.inside in
    let may = moves f.ranges.items c.args.self.now.ranges f.index.items c.take_range.new.index.items f.next_id f.limit (vec_capacity f.index) (vec_capacity c.take_range.new.index) c.args.id c.args.low c.args.high c.args.esn c.in-Some.at c.index.result.now
    c.self.invariant c.take_range.ensures.room (ap (λ (g : StreetGuide). g.ranges) c.self.view_is) c.in-Some.ensures c.index.ensures (omega arith) c.requires.stands c.take_range.ensures.rising c.take_range.ensures.among in
    let spare = min (min f.ranges.cap f.limit) (vec_capacity c.put_range.new.index / 2) - length (slice_set f.ranges.items c.in-Some.at (moved c.index.result.now c.args.low c.args.high c.args.esn)) in
    let of = λ (xs : List Range) (g : StreetGuide). (let v : StreetGuide = record { ranges = xs; next = g.next; limit = g.limit; spare = spare } in v) in
    ap (λ (xs : List Range). of xs (record { ranges = f.ranges.items; next = f.next_id; limit = f.limit; spare = 0 })) may.is
    ∙ ap (λ (g : StreetGuide). of (with_moved g.ranges c.args.id c.args.low c.args.high c.args.esn) g) c.self.view_is

pub returns-in-Some-clause-sound : goal.returns-in-Some-clause-sound
returns-in-Some-clause-sound c = (invariant_of-self c).sound

pub returns-in_default-clause-after : goal.returns-in_default-clause-after
returns-in_default-clause-after c =
    let none : false ≡ true = subst IsSome (find-no_place (λ (s : Range). s.id == c.args.id) c.args.self.now.ranges (sym c.in_default.ensures)) c.requires.live in
    absurd cc
