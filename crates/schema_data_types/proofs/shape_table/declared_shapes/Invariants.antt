use Rattle.std.proofs.Common.{◌≡◌, length}
use Rattle.schema_names.specs.Schemas.{the_schema}
use Rattle.schema_data_types.proofs.Along.{AreSoFar}
use Rattle.schema_data_types.proofs.shape_table.declared_shapes.Given as goal

abbrev pub invariant-loop-a : goal.invariant-loop-a
invariant-loop-a l = record {
  long : length l.declared.items ≡ length l.parts;
  so : AreSoFar (the_schema l.names) l.declared.items l.a-items l.a-index;
}
