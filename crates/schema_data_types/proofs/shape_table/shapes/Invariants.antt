use Rattle.std.proofs.Common.{◌≡◌, length}
use Rattle.schema_data_types.proofs.ShapeTables.{AreMade}
use Rattle.schema_data_types.proofs.shape_table.shapes.Given as goal

abbrev pub invariant-loop-number : goal.invariant-loop-number
invariant-loop-number l = record {
  count : length l.shapes.items ≡ l.number;
  made : AreMade l.data_types.forms.items l.declared.items l.shapes.items;
}
