use Rattle.std.proofs.Common.{take}
use Rattle.std.specs.Prelude.{◌↔◌}
use Rattle.schema_semantics.specs.Shapes.{Atom}
use Rattle.schema_names.specs.Schemas.{the_schema}
use Rattle.schema_data_types.specs.steps.Values.{Holds}
use Rattle.schema_attribute_references.specs.steps.Gathering.{IsOfOne}
use Rattle.schema_attribute_references.proofs.collection.values_of.Given as goal

abbrev pub invariant-loop-declaration : goal.invariant-loop-declaration
invariant-loop-declaration l =
    (a : Atom) → Holds (the_schema l.tables.names.now) l.atoms.items a
    ↔ IsOfOne (the_schema l.tables.names.now) (take l.declaration-index l.declarations) a
