use Rattle.std.proofs.Common.{◌≡◌, map, take}
use Rattle.std.specs.List.{concat}
use Rattle.graphs.specs.Graphs.{graph_of, next}
use Rattle.population_forms.proofs.sorted_rows.joined_rows.Given as goal

abbrev pub invariant-loop-number : goal.invariant-loop-number
invariant-loop-number l =
    l.joined.items ≡ concat (map (next (graph_of l.rows)) (take l.number-index l.numbers))
