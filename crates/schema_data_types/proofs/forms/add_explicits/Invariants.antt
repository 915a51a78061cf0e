use Rattle.std.proofs.Common.{map, take}
use Rattle.express_syntax.specs.Views.{explicit_of}
use Rattle.schema_names.specs.Schemas.{the_schema}
use Rattle.schema_data_types.specs.NumberedTypes.{explicit_types}
use Rattle.schema_data_types.specs.steps.Growing.{Adds}
use Rattle.schema_data_types.proofs.forms.add_explicits.Given as goal

abbrev pub invariant-loop-explicit : goal.invariant-loop-explicit
invariant-loop-explicit l =
    Adds (the_schema l.names) l.initial.forms.items l.initial.row.items
    (explicit_types (map explicit_of (take l.explicit-index l.explicits))) l.forms.items l.row.items
