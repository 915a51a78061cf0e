use Rattle.std.proofs.Common.{◌∙◌, ◌++◌, [], ap, sym, subst, get_or}
use Rattle.std.specs.List.{cons_option}
use Rattle.std.proofs.lemmas.Result.{on_ok_weaker}
use Rattle.schema_names.specs.Schemas.{the_schema}
use Rattle.schema_data_types.specs.NumberedTypes.{form_in, all_data_types}
use Rattle.schema_data_types.specs.steps.Values.{AddsAll}
use Rattle.schema_data_types.specs.steps.Leaves.{leaf_atom, LeafGives}
use Rattle.schema_data_types.proofs.Sets.{adds-leaf}
use Rattle.schema_data_types.proofs.Single.{form-at}
use Rattle.schema_data_types.proofs.values.add_leaf.Goals as goal

pub returns : goal.returns
returns c k at =
    let s = the_schema c.args.tables.now.names.now in
    let n = c.args.number in
    let w = c.args.is_of_select in
    let old = c.args.atoms.now.items in
    let form = c.index-form.result.now in
    let is =
    form-at (form_in s) (all_data_types s) n k form at
    (c.index-form.ensures ∙ ap (λ fs. get_or fs n form) c.requires.tables.forms) in
    on_ok_weaker c.add_some.result (λ e. subst (AddsAll s old (LeafGives s k w))
    (sym (e ∙ ap (λ o. old ++ cons_option o []) (c.leaf.ensures ∙ ap (λ f. leaf_atom f n w) is)))
    (adds-leaf s k n w old at)) c.add_some.ensures
