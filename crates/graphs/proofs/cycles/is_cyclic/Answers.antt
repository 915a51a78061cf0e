use Rattle.std.proofs.Common.{ℕ, ◌≡◌, List, map, ap, ◌∙◌}
use Rattle.graphs.specs.Graphs.{has, Reaches}
use Rattle.graphs.proofs.Found.{has-turned}
use Rattle.graphs.proofs.Placed.{told}
use Rattle.graphs.proofs.cycles.is_cyclic.Goals as goal

pub returns-clause-cyclic : goal.returns-clause-cyclic
returns-clause-cyclic c =
    let row : c.deref.result.now ≡ c.in_ok-row.row.items = c.deref.ensures.value in
    let is = c.contains.ensures.value ∙ has-turned c.deref.result.now c.args.vertex
    ∙ ap (λ (r : List ℕ). has r c.args.vertex) row in
    told c.contains.result (has c.in_ok-row.row.items c.args.vertex)
    (Reaches (map (λ v. v.items) c.args.edges.now) c.args.vertex c.args.vertex) is
    (c.in_ok-row.ensures.reached c.args.vertex)
