use Rattle.std.proofs.Common.{take, []}
use Rattle.schema_semantics.specs.Sets.{Elements}
use Rattle.schema_names.specs.Schemas.{the_schema}
use Rattle.schema_data_types.specs.steps.Values.{AddsAll, Holds}
use Rattle.schema_expression_types.proofs.sets.elements.Given as goal

abbrev pub invariant-loop-atom : goal.invariant-loop-atom
invariant-loop-atom l =
    AddsAll (the_schema l.tables.names.now) [] (Elements (the_schema l.tables.names.now)
    (Holds (the_schema l.tables.names.now) (take l.atom-index l.atoms))) l.elements.items
