use Rattle.std.proofs.Common.{◌≡◌, ℕ, ◌<◌, ◌≤◌, get_or, true, IfSome, IsSomeAnd}
use Rattle.msag_ranges.specs.declared.place.Entry.{Entry}
use Rattle.msag_ranges.specs.GuideIndex.{overlaps_id}
use Rattle.msag_ranges.proofs.guide.Guide.overlap_among.Given as goal

abbrev pub invariant-loop-entry : goal.invariant-loop-entry
invariant-loop-entry l = record {
  some : IfSome l.found (λ id. overlaps_id l.self.ranges l.range l.except id ≡ true);
  least : (k : ℕ) (d : Entry) → k < l.entry-index → overlaps_id l.self.ranges l.range l.except (get_or l.entries k d).id ≡ true → IsSomeAnd l.found (λ id. id ≤ (get_or l.entries k d).id);
}
