use Rattle.std.proofs.Common.{◌<◌, ◌++◌, length, ap, arith, ◌∙◌}
use Rattle.graphs.specs.Graphs.{graph_of, next}
use Rattle.population_forms.proofs.Slotted.{concat-more}
use Rattle.population_forms.proofs.sorted_rows.joined_rows.Goals as goal

pub loop-number-preserved : goal.loop-number-preserved
loop-number-preserved c =
    let lt : c.loop-number.number-index < length c.args.numbers.now = omega (arith, c.loop-number-test.true) in
    concat-more (next (graph_of c.args.rows.now)) c.args.numbers.now c.loop-number.number-index
    c.loop-number.joined.items c.extend_from_slice.new.self.items lt c.loop-number.invariant
    (c.in_ok-extend_from_slice.ensures.items ∙ ap (λ row. c.loop-number.joined.items ++ row) c.row_at.ensures)
