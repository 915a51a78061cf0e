use Rattle.std.proofs.Common.{rules, ltb}
use Rattle.std.proofs.lemmas.List.Sorted.{IsPartitionPoint-from_clause, IsPartitionedBy-ltb}
use Rattle.graphs.proofs.referrers.begin_near.Goals as goal

pub returns : goal.returns
returns c = record {
  point = IsPartitionPoint-from_clause (λ p. ltb p.target c.args.target) _ _ c.partition_point.ensures.partitioned
      (IsPartitionedBy-ltb (λ p. p.target) _ c.args.target c.requires) (λ a r q k. search rules);
  within = c.partition_point.ensures.bound;
}
