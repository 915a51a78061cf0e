use Rattle.graphs.specs.Graphs.{graph_of}
use Rattle.population_pins.proofs.Transitive.{told-all, none-listed}
use Rattle.population_pins.proofs.supertype_marks.SupertypeMarks.mark_above.Goals as goal

pub returns-clause-told : goal.returns-clause-told
returns-clause-told c =
    told-all c.mark_each.result (graph_of c.args.above.now) c.args.types.now c.mark_deepest.new.self c.mark_each.new.self
    (c.in_ok-mark_deepest.ensures.lists (none-listed (graph_of c.args.above.now) c.args.self.now c.requires.clear))
    c.mark_each.ensures.lists c.mark_each.ensures.marked
