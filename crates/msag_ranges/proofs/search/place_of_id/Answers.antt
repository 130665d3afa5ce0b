use Rattle.std.proofs.Common.{rules, ◌∙◌}
use Rattle.std.proofs.lemmas.List.Sorted.{answers_always}
use Rattle.msag_ranges.specs.declared.range.Range.{Range}
use Rattle.msag_ranges.proofs.ById.{searched_id}
use Rattle.msag_ranges.proofs.search.place_of_id.Goals as goal

-- the closure gives a range's id
pub returns : goal.returns
returns c =
    let facts = c.binary_search_by_key.ensures in
    let by_key = facts.position (λ (r : Range). r.id) (answers_always _ _ _ (λ f a r g called. search rules)) in
    c.ok.ensures.value ∙ searched_id c.args.ranges.now c.args.id c.binary_search_by_key.result c.requires facts.bound by_key
