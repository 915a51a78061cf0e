use Rattle.std.proofs.lemmas.List.{length-map}
use Rattle.graphs.specs.Graphs.{graph_of}
use Rattle.population_pins.proofs.supertype_marks.SupertypeMarks.of.Goals as goal

pub returns : goal.returns
returns c = c.unset.ensures (graph_of c.args.above.now) (length-map c.args.above.now (λ v. v.items))
