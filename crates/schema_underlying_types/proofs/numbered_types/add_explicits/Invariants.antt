use Rattle.std.proofs.Common.{map, take}
use Rattle.std.specs.Prelude.{flat_map}
use Rattle.express_syntax.specs.Views.{explicit_of}
use Rattle.schema_names.specs.Schemas.{the_schema}
use Rattle.schema_data_types.specs.NumberedTypes.{within, explicit_types}
use Rattle.schema_underlying_types.specs.BaseEntries.{GoesOn}
use Rattle.schema_underlying_types.proofs.numbered_types.add_explicits.Given as goal

abbrev pub invariant-loop-explicit : goal.invariant-loop-explicit
invariant-loop-explicit l =
    GoesOn (the_schema l.names) l.declared l.initial.bases.items
    (flat_map within (explicit_types (map explicit_of (take l.explicit-index l.explicits)))) l.bases.items
