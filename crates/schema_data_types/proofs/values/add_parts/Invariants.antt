use Rattle.std.proofs.Common.{take}
use Rattle.schema_names.specs.Schemas.{the_schema}
use Rattle.schema_data_types.specs.steps.Values.{AddsAll}
use Rattle.schema_data_types.specs.steps.Leaves.{OneGives}
use Rattle.schema_data_types.proofs.values.add_parts.Given as goal

abbrev pub invariant-loop-part : goal.invariant-loop-part
invariant-loop-part l =
    AddsAll (the_schema l.tables.names.now) l.initial.atoms.items
    (OneGives (the_schema l.tables.names.now) (take l.part-index l.row) l.is_of_select)
    l.atoms.items
