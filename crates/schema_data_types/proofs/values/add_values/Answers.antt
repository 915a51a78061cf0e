use Rattle.std.proofs.Common.{◌∙◌, ap, sym, subst, get_or, false}
use Rattle.std.proofs.lemmas.Result.{on_ok_weaker}
use Rattle.schema_semantics.specs.Shapes.{IsOf}
use Rattle.schema_names.specs.Schemas.{the_schema}
use Rattle.schema_data_types.specs.NumberedTypes.{form_in, all_data_types}
use Rattle.schema_data_types.specs.steps.Values.{AddsAll}
use Rattle.schema_data_types.specs.steps.Leaves.{LeafGives}
use Rattle.schema_data_types.proofs.Sets.{adds-alike}
use Rattle.schema_data_types.proofs.Single.{form-at, form-named, form-leaf, leaf-is, what-is}
use Rattle.schema_data_types.proofs.values.add_values.Goals as goal

pub add_meant-requires-clause-meant : goal.add_meant-requires-clause-meant
add_meant-requires-clause-meant c =
    let s = the_schema c.args.tables.now.names.now in
    let (k, at) = what-is (all_data_types s) c.args.number c.requires.within in
    let is =
    form-at (form_in s) (all_data_types s) c.args.number k c.index.result.now at
    (c.index.ensures ∙ ap (λ fs. get_or fs c.args.number c.index.result.now) c.requires.tables.forms) in
    let (n, e, number) = form-named s k c.in-Named.meant (sym is ∙ c.in-Named.is) in (n, number)

pub returns-in-Named : goal.returns-in-Named
returns-in-Named c k at =
    let s = the_schema c.args.tables.now.names.now in
    let is =
    form-at (form_in s) (all_data_types s) c.args.number k c.index.result.now at
    (c.index.ensures ∙ ap (λ fs. get_or fs c.args.number c.index.result.now) c.requires.tables.forms) in
    let (n, e, number) = form-named s k c.in-Named.meant (sym is ∙ c.in-Named.is) in
    on_ok_weaker c.add_meant.result (λ h. subst (λ l. AddsAll s c.args.atoms.now.items (IsOf s l)
    c.add_meant.new.atoms.items) (sym e) h) (c.add_meant.ensures n number)

pub returns-in_default : goal.returns-in_default
returns-in_default c k at =
    let s = the_schema c.args.tables.now.names.now in
    let is =
    form-at (form_in s) (all_data_types s) c.args.number k c.index.result.now at
    (c.index.ensures ∙ ap (λ fs. get_or fs c.args.number c.index.result.now) c.requires.tables.forms) in
    let leaf = form-leaf s k (λ i e. c.in_default.not-Named i (is ∙ e)) in
    on_ok_weaker c.add_leaf.result (adds-alike s c.args.atoms.now.items c.add_leaf.new.atoms.items
    (LeafGives s k false) (IsOf s k) (leaf-is s k leaf)) (c.add_leaf.ensures k at)
