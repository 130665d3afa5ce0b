use Rattle.std.proofs.Common.{rules, ◌∙◌}
use Rattle.std.specs.Ordering.{is_le}
use Rattle.std.proofs.lemmas.List.Sorted.{IsPartitionPoint-from_clause}
use Rattle.sequence_once.specs.KeptCycles.{company_order}
use Rattle.sequence_once.proofs.Points.{point_counts, through_parted, through_both}
use Rattle.sequence_once.proofs.cycles.count_through.Goals as goal

pub returns-clause-sum : goal.returns-clause-sum
returns-clause-sum c =
    let parted = through_parted c.args.company _ c.requires in
    let point = IsPartitionPoint-from_clause (λ k. is_le (company_order k c.args.company)) _ _ c.partition_point.ensures.partitioned parted (λ a r q k. search rules) in
    point_counts _ _ _ c.partition_point.ensures.bound point ∙ through_both c.args.company _
