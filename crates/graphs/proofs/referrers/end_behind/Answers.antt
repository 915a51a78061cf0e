use Rattle.std.proofs.Common.{rules, length, leb, arith}
use Rattle.std.proofs.lemmas.List.Sorted.{IsPartitionPoint-from_clause, IsPartitionedBy-leb}
use Rattle.graphs.proofs.Cuts.{no_reference, one_more, within_both, ended}
use Rattle.graphs.proofs.referrers.end_behind.Goals as goal

pub loop-end-init : goal.loop-end-init
loop-end-init c = λ k d o l. absurd (omega (arith, o, l))

pub loop-end-preserved : goal.loop-end-preserved
loop-end-preserved c =
    let ps = c.args.references.now in
    one_more c.args.target c.args.first ps c.loop-end.end
    (within_both c.loop-end.end (length ps) c.saturating_add.result c.min-few.result c.min-few.ensures c.loop-end-test.true)
    c.loop-end.invariant c.if-references-end.false

pub returns-then-references-end : goal.returns-then-references-end
returns-then-references-end c =
    let ps = c.args.references.now in
    ended c.args.target c.args.first ps c.requires.sorted c.requires.begin c.loop-end.end no_reference c.loop-end.invariant
    (within_both c.loop-end.end (length ps) c.saturating_add.result c.min-few.result c.min-few.ensures c.loop-end-test.true)
    c.loop-end.auto.end c.if-references-end.true

pub returns : goal.returns
returns c = record {
  point = IsPartitionPoint-from_clause (λ p. leb p.target c.args.target) _ _ c.partition_point.ensures.partitioned
      (IsPartitionedBy-leb (λ p. p.target) _ c.args.target c.requires.sorted) (λ a r q k. search rules);
  within = c.partition_point.ensures.bound;
}
