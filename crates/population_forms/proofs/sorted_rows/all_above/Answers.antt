use Rattle.std.proofs.Common.{subst}
use Rattle.graphs.specs.Graphs.{graph_of, has}
use Rattle.population_forms.specs.steps.Marked.{AreSorted}
use Rattle.population_forms.proofs.Rising.{above-sorted}
use Rattle.population_forms.proofs.sorted_rows.all_above.Goals as goal

pub returns : goal.returns
returns c =
    above-sorted (graph_of c.args.above.now) c.args.entities.now c.sorted.result.items
    (subst (λ row. AreSorted (has row) c.sorted.result.items) c.in_ok-row.ensures c.sorted.ensures)
