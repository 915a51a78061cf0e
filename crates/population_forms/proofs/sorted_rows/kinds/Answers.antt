use Rattle.std.proofs.Common.{◌∷◌, ◌++◌, [], ap, subst, ◌∙◌}
use Rattle.graphs.specs.Graphs.{graph_of, has, next}
use Rattle.population_forms.specs.steps.Marked.{AreSorted}
use Rattle.population_forms.proofs.Rising.{kinds-sorted}
use Rattle.population_forms.proofs.sorted_rows.kinds.Goals as goal

pub returns : goal.returns
returns c =
    kinds-sorted (graph_of c.args.above.now) c.args.entity c.sorted.result.items
    (subst (λ row. AreSorted (has row) c.sorted.result.items)
    (c.in_ok-extend_from_slice.ensures.items ∙ ap (λ row. c.push.new.self.items ++ row) c.row_at.ensures
    ∙ ap (λ row. row ++ next (graph_of c.args.above.now) c.args.entity)
    (c.in_ok-push.ensures.items ∙ ap (λ row. row ++ c.args.entity ∷ []) c.new-row.ensures.items))
    c.sorted.ensures)
