use Rattle.std.proofs.Common.{map, take}
use Rattle.express_syntax.specs.Views.{derived_of}
use Rattle.schema_names.specs.Schemas.{the_schema}
use Rattle.schema_data_types.specs.NumberedTypes.{derived_types}
use Rattle.schema_data_types.specs.steps.Growing.{Adds}
use Rattle.schema_data_types.proofs.forms.add_deriveds.Given as goal

abbrev pub invariant-loop-derived : goal.invariant-loop-derived
invariant-loop-derived l =
    Adds (the_schema l.names) l.initial.forms.items l.initial.row.items
    (derived_types (map derived_of (take l.derived-index l.deriveds))) l.forms.items l.row.items
