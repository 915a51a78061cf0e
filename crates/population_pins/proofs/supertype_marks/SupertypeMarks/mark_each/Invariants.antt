use Rattle.std.proofs.Common.{List, ℕ, ◌++◌, take}
use Rattle.graphs.specs.Graphs.{graph_of}
use Rattle.population_pins.specs.steps.SupertypeLists.{AreMarked, Lists}
use Rattle.population_pins.proofs.supertype_marks.SupertypeMarks.mark_each.Given as goal

abbrev pub invariant-loop-entity : goal.invariant-loop-entity
invariant-loop-entity l =
    record {
      marked : AreMarked (graph_of l.above) l.self;
      lists : (some : List ℕ) → Lists (graph_of l.above) some l.fn.self
          → Lists (graph_of l.above) (some ++ take l.entity-index l.types) l.self;
    }
