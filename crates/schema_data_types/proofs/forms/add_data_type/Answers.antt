use Rattle.std.proofs.Common.{◌∙◌, ◌++◌, ◌∷◌, [], ap, length}
use Rattle.std.proofs.lemmas.Result.{on_ok_weaker}
use Rattle.express_syntax.specs.Views.{data_type_of}
use Rattle.schema_names.specs.Schemas.{the_schema}
use Rattle.schema_data_types.proofs.FormTables.{adds-one}
use Rattle.schema_data_types.proofs.forms.add_data_type.Goals as goal

pub returns : goal.returns
returns c =
    on_ok_weaker c.add_within.result (λ h. adds-one (the_schema c.args.names.now) c.args.forms.now.items
    c.args.row.now.items (data_type_of c.args.data_type.now) c.add_within.new.forms.items c.add_number.new.row.items h
    (c.in_ok-add_number.ensures ∙ ap (λ xs. c.args.row.now.items ++ length xs ∷ []) c.deref.ensures.value))
    c.add_within.ensures
