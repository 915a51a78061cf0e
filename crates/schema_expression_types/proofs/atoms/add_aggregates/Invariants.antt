use Rattle.std.proofs.Common.{take}
use Rattle.express_syntax.specs.Schemas.{Schema}
use Rattle.schema_semantics.specs.Sets.{Aggregates}
use Rattle.schema_data_types.specs.steps.Values.{AddsAll, Holds}
use Rattle.schema_expression_types.proofs.atoms.add_aggregates.Given as goal

abbrev pub invariant-loop-atom : goal.invariant-loop-atom
invariant-loop-atom l =
    (s : Schema) → AddsAll s l.initial.atoms.items (Aggregates (Holds s (take l.atom-index l.some))) l.atoms.items
