use Rattle.std.proofs.Common.{◌≡◌, take}
use Rattle.graphs.specs.Graphs.{graph_of}
use Rattle.schema_attribute_references.specs.steps.Entities.{with_subtypes}
use Rattle.schema_attribute_references.proofs.entities.with_subtypes.Given as goal

abbrev pub invariant-loop-entity : goal.invariant-loop-entity
invariant-loop-entity l = l.numbers.items ≡ with_subtypes (graph_of l.below) (take l.entity-index l.entities)
