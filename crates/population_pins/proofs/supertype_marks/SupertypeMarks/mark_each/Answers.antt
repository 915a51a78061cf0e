use Rattle.std.proofs.Common.{◌++◌, take, refl, arith}
use Rattle.graphs.specs.Graphs.{graph_of}
use Rattle.population_pins.proofs.Transitive.{one-more, none-yet, all-now}
use Rattle.population_pins.proofs.supertype_marks.SupertypeMarks.mark_each.Goals as goal

pub loop-entity-init : goal.loop-entity-init
loop-entity-init c = record {
  marked = c.requires.marked;
  lists = λ some h. none-yet (graph_of c.args.above.now) some c.args.types.now c.args.self.now h;
}

pub loop-entity-preserved : goal.loop-entity-preserved
loop-entity-preserved c = record {
  marked = c.in_ok-mark.ensures.marked;
  lists = λ some h. one-more (graph_of c.args.above.now) some c.args.types.now c.loop-entity.entity-index _ c.mark.new.self
      (omega (arith, c.loop-entity-test.true)) refl
      (c.in_ok-mark.ensures.lists (some ++ take c.loop-entity.entity-index c.args.types.now)
      (c.loop-entity.invariant.lists some h));
}

pub returns-clause-lists : goal.returns-clause-lists
returns-clause-lists c some h =
    all-now (graph_of c.args.above.now) some c.args.types.now c.loop-entity.entity-index c.loop-entity.self
    (omega (arith, c.loop-entity-test.false)) (c.loop-entity.invariant.lists some h)
