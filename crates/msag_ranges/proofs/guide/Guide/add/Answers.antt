use Rattle.std.proofs.Common.{◌≤◌, ◌+◌, ◌-◌, ◌*◌, ◌/◌, ◌++◌, ◌∷◌, [], ℕ, List, min, length, refl, arith, subst, sym, None, vec_capacity}
use Rattle.std.proofs.lemmas.List.{length_push}
use Rattle.msag_ranges.specs.StreetGuide.{StreetGuide, MayStand, new_range}
use Rattle.msag_ranges.specs.declared.range.Range.{Range}
use Rattle.msag_ranges.specs.GuideIndex.{IsIndexedGuide}
use Rattle.msag_ranges.proofs.GuideKept.{sound-add}
use Rattle.msag_ranges.proofs.IndexLaw.{few}
use Rattle.msag_ranges.proofs.IndexKept.{index-put, places_free, stands_apart, push_among}
use Rattle.msag_ranges.proofs.guide.Guide.add.Goals as goal

room_for : (r i n m : ℕ) → 1 ≤ min r (i / 2) - n → m ≤ 2 * n → m + 2 ≤ i
room_for r i n m h k = omega arith

twice : (r i n : ℕ) → 1 ≤ min r (i / 2) - n → 2 * (n + 1) ≤ i
twice r i n h = omega arith

below : (c l i n : ℕ) → 1 ≤ min (min c l) (i / 2) - n → n + 1 ≤ l
below c l i n h = omega arith

pub put_range-requires-clause-room : goal.put_range-requires-clause-room
put_range-requires-clause-room c =
    let f = c.self.inside in
    let spare : 1 ≤ min (min (vec_capacity f.ranges) f.limit) (vec_capacity f.index / 2) - length f.ranges.items = subst (λ (g : StreetGuide). 1 ≤ g.spare) (sym c.self.view_is) c.requires.spare in
    room_for (min (vec_capacity f.ranges) f.limit) (vec_capacity f.index) (length f.ranges.items) (length f.index.items) spare (few f.index.items f.ranges.items c.self.invariant.index)

pub put_range-requires-clause-free : goal.put_range-requires-clause-free
put_range-requires-clause-free c =
    let f = c.self.inside in
    let r = new_range f.next_id c.args.key c.args.low c.args.high c.args.parity c.args.esn in
    let stands : MayStand f.ranges.items r None = subst (λ (g : StreetGuide). MayStand g.ranges (new_range g.next c.args.key c.args.low c.args.high c.args.parity c.args.esn) None) (sym c.self.view_is) c.requires.stands in
    places_free f.index.items f.ranges.items r c.self.invariant.index (stands_apart f.ranges.items r stands)

pub invariant_of-self : goal.invariant_of-self
invariant_of-self c =
    let f = c.self.inside in
    let r = new_range f.next_id c.args.key c.args.low c.args.high c.args.parity c.args.esn in
    let stands : MayStand f.ranges.items r None = subst (λ (g : StreetGuide). MayStand g.ranges (new_range g.next c.args.key c.args.low c.args.high c.args.parity c.args.esn) None) (sym c.self.view_is) c.requires.stands in
    let spare : 1 ≤ min (min (vec_capacity f.ranges) f.limit) (vec_capacity f.index / 2) - length f.ranges.items = subst (λ (g : StreetGuide). 1 ≤ g.spare) (sym c.self.view_is) c.requires.spare in
    let more : 2 * (length f.ranges.items + 1) ≤ vec_capacity f.index = twice (min (vec_capacity f.ranges) f.limit) (vec_capacity f.index) (length f.ranges.items) spare in
    let room = c.put_range.ensures.room in
    let len = length_push f.ranges.items r in
    let within : length f.ranges.items + 1 ≤ f.limit = below (vec_capacity f.ranges) f.limit (vec_capacity f.index) (length f.ranges.items) spare in
    subst (λ (xs : List Range). IsIndexedGuide xs c.put_range.new.index.items (f.next_id + 1) f.limit (vec_capacity c.put_range.new.index)) (sym c.push_reserved.ensures.items)
    (record {
      sound = sound-add f.ranges.items f.next_id f.limit r c.self.invariant.sound refl stands (omega arith) within;
      index = index-put f.index.items c.put_range.new.index.items f.ranges.items (f.ranges.items ++ r ∷ []) r c.self.invariant.index c.put_range.ensures.rising c.put_range.ensures.among (push_among f.ranges.items r);
      roomy = omega (arith, more, room, len);
    })

pub returns-clause-sound : goal.returns-clause-sound
returns-clause-sound c = (invariant_of-self c).sound
