use Rattle.std.proofs.Common.{◌∙◌, ◌↔◌, IsTrue, ap, sym, subst, length}
use Rattle.std.proofs.lemmas.List.{length-map}
use Rattle.schema_semantics.specs.Reasons.{MayBeDeep}
use Rattle.schema_names.specs.Schemas.{the_schema}
use Rattle.schema_data_types.specs.NumberedTypes.{form_in, all_data_types}
use Rattle.schema_data_types.specs.steps.Values.{Holds}
use Rattle.schema_expression_analysis.proofs.Members.{deep-decides}
use Rattle.schema_expression_analysis.proofs.atoms.is_deep.Goals as goal

pub returns : goal.returns
returns c =
    let s = the_schema c.args.tables.now.names.now in
    let xs = c.args.atoms.now in
    let long = ap length c.requires.tables.forms ∙ length-map (all_data_types s) (form_in s) in
    subst (λ b. IsTrue b ↔ MayBeDeep (Holds s xs)) (sym c.any_deep.ensures)
    (deep-decides s (length c.args.tables.now.data_types.now.forms.items) long xs)
