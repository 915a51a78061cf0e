use Rattle.std.proofs.Common.{◌∙◌, ℕ, List, ap, sym, eqb}
use Rattle.std.proofs.lemmas.List.Sorted.{list_any-IsPermutation, IsNonDecreasingBy-from_sort}
use Rattle.graphs.specs.Graphs.{has}
use Rattle.schema_underlying_types.proofs.items.sorted_row.Goals as goal

pub returns-clause-items : goal.returns-clause-items
returns-clause-items c j =
    sym (list_any-IsPermutation (eqb j) c.in_ok-sorted.sorted.items c.sort_unstable.new.self.items
    c.sort_unstable.ensures.permutation)
    ∙ ap (λ (xs : List ℕ). has xs j) c.in_ok-sorted.ensures

pub returns-clause-sorted : goal.returns-clause-sorted
returns-clause-sorted c =
    IsNonDecreasingBy-from_sort (λ (x : ℕ). x) c.sort_unstable.new.self.items c.sort_unstable.ensures.sorted
