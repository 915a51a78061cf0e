use Rattle.std.proofs.Common.{take}
use Rattle.express_syntax.specs.Views.{declaration_of}
use Rattle.schema_names.specs.Schemas.{the_schema}
use Rattle.schema_data_types.proofs.FormTables.{AreDone}
use Rattle.schema_data_types.proofs.forms.data_types.Given as goal

abbrev pub invariant-loop-declaration : goal.invariant-loop-declaration
invariant-loop-declaration l =
    AreDone (the_schema l.names) declaration_of (take l.declaration-index l.declaration-items) l.forms.items
    l.rows.items
