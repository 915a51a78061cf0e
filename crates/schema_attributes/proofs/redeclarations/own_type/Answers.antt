use Rattle.std.proofs.Common.{sym, ◌∙◌, ap, map, drop}
use Rattle.std.proofs.lemmas.List.{length-map}
use Rattle.express_syntax.specs.ExpressionViews.{capitals}
use Rattle.express_syntax.specs.Views.{entity_of, explicit_of, derived_of, inverse_of}
use Rattle.schema_names.proofs.Clauses.{clause-listed}
use Rattle.schema_attributes.proofs.FirstTypes.{of-explicit, of-derived, of-inverse}
use Rattle.schema_attributes.proofs.redeclarations.own_type.Goals as goal

pub returns-in-Some : goal.returns-in-Some
returns-in-Some c =
    of-explicit (capitals c.args.name) c.args.row.now (entity_of c.args.entity.now)
    (map explicit_of c.as_slice-explicits.result.now) (ap (map explicit_of) c.as_slice-explicits.ensures.value)
    c.in-Some.number c.in-Some.ensures

pub returns-in-Some-derived_type : goal.returns-in-Some-derived_type
returns-in-Some-derived_type c =
    let xs = c.as_slice-explicits.result.now in
    let ds = c.derived_attributes-deriveds.result.now in
    of-derived (capitals c.args.name) c.args.row.now (entity_of c.args.entity.now) (map explicit_of xs)
    (ap (map explicit_of) c.as_slice-explicits.ensures.value) c.in_default.ensures c.behind-rest.result.now
    (c.behind-rest.ensures ∙ ap (λ n. drop n c.args.row.now) (sym (length-map xs explicit_of))) (map derived_of ds)
    (clause-listed derived_of c.args.entity.now.derived ds c.derived_attributes-deriveds.ensures)
    c.in-Some-derived_type.number c.in-Some-derived_type.ensures

pub returns : goal.returns
returns c =
    let xs = c.as_slice-explicits.result.now in
    let ds = c.derived_attributes-deriveds.result.now in
    of-inverse (capitals c.args.name) c.args.row.now (entity_of c.args.entity.now) (map explicit_of xs)
    (ap (map explicit_of) c.as_slice-explicits.ensures.value) c.in_default.ensures c.behind-rest.result.now
    (c.behind-rest.ensures ∙ ap (λ n. drop n c.args.row.now) (sym (length-map xs explicit_of))) (map derived_of ds)
    (clause-listed derived_of c.args.entity.now.derived ds c.derived_attributes-deriveds.ensures)
    c.in_default-derived_type.ensures c.behind-last.result.now
    (c.behind-last.ensures ∙ ap (λ n. drop n c.behind-rest.result.now) (sym (length-map ds derived_of)))
    (map inverse_of c.inverse_attributes.result.now)
    (clause-listed inverse_of c.args.entity.now.inverses c.inverse_attributes.result.now c.inverse_attributes.ensures)
    c.inverse_type.result c.inverse_type.ensures
