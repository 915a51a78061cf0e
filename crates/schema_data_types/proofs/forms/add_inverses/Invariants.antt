use Rattle.std.proofs.Common.{map, take}
use Rattle.express_syntax.specs.Views.{inverse_of}
use Rattle.schema_names.specs.Schemas.{the_schema}
use Rattle.schema_data_types.specs.NumberedTypes.{inverse_types}
use Rattle.schema_data_types.specs.steps.Growing.{Adds}
use Rattle.schema_data_types.proofs.forms.add_inverses.Given as goal

abbrev pub invariant-loop-inverse : goal.invariant-loop-inverse
invariant-loop-inverse l =
    Adds (the_schema l.names) l.initial.forms.items l.initial.row.items
    (inverse_types (map inverse_of (take l.inverse-index l.inverses))) l.forms.items l.row.items
