use Rattle.std.proofs.Common.{subst, map, ◌++◌}
use Rattle.std.proofs.lemmas.Result.{on_ok_weaker}
use Rattle.express_syntax.specs.Views.{explicit_of, derived_of, inverse_of}
use Rattle.schema_names.specs.Schemas.{the_schema}
use Rattle.schema_data_types.specs.NumberedTypes.{explicit_types, derived_types, inverse_types}
use Rattle.schema_data_types.specs.steps.Growing.{Adds}
use Rattle.schema_names.proofs.Clauses.{clause-listed}
use Rattle.schema_data_types.proofs.FormTables.{adds-joined}
use Rattle.schema_data_types.proofs.forms.add_entity.Goals as goal

pub returns : goal.returns
returns c =
    let s = the_schema c.args.names.now in
    let e = c.args.entity.now in
    let xs = explicit_types (map explicit_of c.deref.result.now) in
    let ds = derived_types (map derived_of c.derived_attributes.result.now) in
    let is = inverse_types (map inverse_of c.inverse_attributes.result.now) in
    let f = c.args.forms.now.items in
    let r = c.args.row.now.items in
    let first =
    adds-joined s f c.add_explicits.new.forms.items c.add_deriveds.new.forms.items r c.add_explicits.new.row.items
    c.add_deriveds.new.row.items xs ds c.in_ok-add_explicits.ensures c.in_ok-add_deriveds.ensures in
    on_ok_weaker c.add_inverses.result (λ h.
    subst (λ ks. Adds s f r ks c.add_inverses.new.forms.items c.add_inverses.new.row.items)
    (λ i. (explicit_types (map explicit_of (c.deref.ensures.value i))
    ++ derived_types (clause-listed derived_of e.derived c.derived_attributes.result.now c.derived_attributes.ensures
    i))
    ++ inverse_types (clause-listed inverse_of e.inverses c.inverse_attributes.result.now c.inverse_attributes.ensures
    i))
    (adds-joined s f c.add_deriveds.new.forms.items c.add_inverses.new.forms.items r c.add_deriveds.new.row.items
    c.add_inverses.new.row.items (xs ++ ds) is first h)) c.add_inverses.ensures
