use Rattle.std.proofs.Common.{map, take}
use Rattle.std.specs.Prelude.{flat_map}
use Rattle.express_syntax.specs.Views.{inverse_of}
use Rattle.schema_names.specs.Schemas.{the_schema}
use Rattle.schema_data_types.specs.NumberedTypes.{within, inverse_types}
use Rattle.schema_underlying_types.specs.BaseEntries.{GoesOn}
use Rattle.schema_underlying_types.proofs.numbered_types.add_inverses.Given as goal

abbrev pub invariant-loop-inverse : goal.invariant-loop-inverse
invariant-loop-inverse l =
    GoesOn (the_schema l.names) l.declared l.initial.bases.items
    (flat_map within (inverse_types (map inverse_of (take l.inverse-index l.inverses)))) l.bases.items
