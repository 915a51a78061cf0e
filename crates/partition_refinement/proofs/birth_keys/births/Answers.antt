use Rattle.std.proofs.Common.{ℕ}
use Rattle.std.proofs.lemmas.List.Sorted.{IsNonDecreasingBy-from_sort}
use Rattle.partition_refinement.proofs.Sorting.{births_sorted}
use Rattle.partition_refinement.proofs.birth_keys.births.Goals as goal

pub returns : goal.returns
returns c =
    births_sorted c.args.rounds.now c.args.limit c.in_ok-births.births.items c.sort_unstable.new.self.items
    c.in_ok-births.ensures c.sort_unstable.ensures.permutation
    (IsNonDecreasingBy-from_sort (λ (x : ℕ). x) c.sort_unstable.new.self.items c.sort_unstable.ensures.sorted)
