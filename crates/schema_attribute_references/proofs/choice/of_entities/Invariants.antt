use Rattle.std.proofs.Common.{◌≡◌, take}
use Rattle.graphs.specs.Graphs.{graph_of}
use Rattle.schema_attribute_references.specs.steps.Choosing.{of_entities}
use Rattle.schema_attribute_references.proofs.choice.of_entities.Given as goal

abbrev pub invariant-loop-declaration : goal.invariant-loop-declaration
invariant-loop-declaration l =
    l.chosen.items ≡ of_entities (graph_of l.above) l.entities (take l.declaration-index l.declarations)
