use Rattle.std.proofs.Common.{sym, subst, ap}
use Rattle.graphs.specs.Graphs.{graph_of}
use Rattle.express_syntax.specs.ExpressionViews.{capitals}
use Rattle.express_syntax.specs.Views.{attribute_of}
use Rattle.schema_names.specs.Schemas.{the_schema}
use Rattle.schema_explicit_attributes.specs.Places.{places_of}
use Rattle.schema_redeclarations.specs.steps.Speaking.{ArePlacesOf, at_most_one, Redeclares}
use Rattle.schema_redeclarations.proofs.OfAttributes.{none-derived, derived-found}
use Rattle.schema_redeclarations.proofs.redeclared_attributes.derived_place.Goals as goal

pub returns-in_err-entity : goal.returns-in_err-entity
returns-in_err-entity c =
    let s = the_schema c.args.sources.now.names.now in
    let y = attribute_of c.args.attribute in
    subst (λ o. ArePlacesOf s (Redeclares s y) (at_most_one o)) (sym c.from_residual.ensures)
    (none-derived s c.requires.sources.resolved y c.in_err-entity.ensures)

pub returns : goal.returns
returns c =
    let s = the_schema c.args.sources.now.names.now in
    let y = attribute_of c.args.attribute in
    derived-found s c.requires.sources.resolved (graph_of c.args.sources.now.own.now) c.requires.sources.own
    (places_of c.args.sources.now.places.now) c.requires.sources.places y (capitals c.in-Redeclared.field-0)
    (capitals c.in-Redeclared.name) (ap attribute_of c.in-Redeclared.is) c.in_ok-entity.entity c.in_ok-entity.ensures
    c.own_place.result c.own_place.ensures
