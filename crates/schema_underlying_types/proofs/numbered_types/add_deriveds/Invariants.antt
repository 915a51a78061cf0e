use Rattle.std.proofs.Common.{map, take}
use Rattle.std.specs.Prelude.{flat_map}
use Rattle.express_syntax.specs.Views.{derived_of}
use Rattle.schema_names.specs.Schemas.{the_schema}
use Rattle.schema_data_types.specs.NumberedTypes.{within, derived_types}
use Rattle.schema_underlying_types.specs.BaseEntries.{GoesOn}
use Rattle.schema_underlying_types.proofs.numbered_types.add_deriveds.Given as goal

abbrev pub invariant-loop-derived : goal.invariant-loop-derived
invariant-loop-derived l =
    GoesOn (the_schema l.names) l.declared l.initial.bases.items
    (flat_map within (derived_types (map derived_of (take l.derived-index l.deriveds)))) l.bases.items
