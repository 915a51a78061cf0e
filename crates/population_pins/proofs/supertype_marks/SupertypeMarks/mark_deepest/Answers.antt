use Rattle.std.proofs.Common.{◌∷◌, ◌++◌, []}
use Rattle.std.proofs.lemmas.Result.{on_ok_weaker}
use Rattle.graphs.specs.Graphs.{graph_of}
use Rattle.population_pins.proofs.Transitive.{one-among}
use Rattle.population_pins.proofs.supertype_marks.SupertypeMarks.mark_deepest.Goals as goal

pub returns-in-Some-clause-lists : goal.returns-in-Some-clause-lists
returns-in-Some-clause-lists c none =
    let found = c.in-Some.ensures.lookup in
    on_ok_weaker c.mark.result
    (λ lists. record {
      some = [] ++ c.in-Some.entity.now ∷ [];
      among = one-among (graph_of c.args.above.now) c.args.types.now c.deepest.result c.in-Some.entity.now found.3.0 found.1;
      lists = lists;
    })
    (c.mark.ensures.lists [] none)
