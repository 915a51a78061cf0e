use Rattle.std.proofs.Common.{◌<◌, rules, sym, subst}
use Rattle.std.specs.List.{All}
use Rattle.std.proofs.lemmas.List.Sorted.{All-permutation, IsNonDecreasingBy-from_sort_by_key}
use Rattle.partition_edges.specs.steps.Index.{AreByTarget, AreStarts}
use Rattle.partition_edges.proofs.edges.Edges.of.Goals as goal

pub starts_of-requires-clause-sorted : goal.starts_of-requires-clause-sorted
starts_of-requires-clause-sorted c =
    subst AreByTarget (sym c.deref.ensures.value)
    (IsNonDecreasingBy-from_sort_by_key (λ e. e.target) _ c.sort_unstable_by_key.ensures.sorted
    (λ a r q k. search rules))

pub starts_of-requires-clause-inside : goal.starts_of-requires-clause-inside
starts_of-requires-clause-inside c =
    subst (All (λ e. e.target < c.args.size)) (sym c.deref.ensures.value)
    (All-permutation (λ e. e.target < c.args.size) c.args.edges.items c.sort_unstable_by_key.new.self.items
    c.sort_unstable_by_key.ensures.permutation c.requires)

pub invariant_of-result : goal.invariant_of-result
invariant_of-result c =
    subst (λ l. AreStarts l c.in_ok-starts.starts.items) c.deref.ensures.value c.in_ok-starts.ensures
