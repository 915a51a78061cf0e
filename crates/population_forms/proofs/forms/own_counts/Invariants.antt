use Rattle.std.proofs.Common.{◌≡◌, map, length, take}
use Rattle.graphs.specs.Graphs.{graph_of, next}
use Rattle.population_forms.proofs.forms.own_counts.Given as goal

abbrev pub invariant-loop-entity : goal.invariant-loop-entity
invariant-loop-entity l =
    l.counts.items ≡ map (λ i. length (next (graph_of l.known.own.now) i)) (take l.entity-index l.entities)
