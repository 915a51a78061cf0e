use Rattle.std.proofs.Common.{sym, subst}
use Rattle.graphs.specs.Graphs.{graph_of}
use Rattle.express_syntax.specs.ExpressionViews.{capitals}
use Rattle.express_syntax.specs.Views.{attribute_of}
use Rattle.schema_names.specs.Schemas.{the_schema}
use Rattle.schema_explicit_attributes.specs.Places.{places_of}
use Rattle.schema_attributes.proofs.Redeclared.{is-true, not-false}
use Rattle.schema_redeclarations.specs.steps.Speaking.{ArePlacesOf, at_most_one, SpeaksOf}
use Rattle.schema_redeclarations.proofs.OfAttributes.{none-spoken, other-shape, spoken-found}
use Rattle.schema_redeclarations.proofs.redeclared_attributes.redeclared_place.Goals as goal

pub returns-in_err-entity : goal.returns-in_err-entity
returns-in_err-entity c n k typed =
    let s = the_schema c.args.sources.now.names.now in
    let y = attribute_of c.args.attribute in
    let (q, named) = c.requires.named in
    subst (λ o. ArePlacesOf s (SpeaksOf s n k y) (at_most_one o)) (sym c.from_residual.ensures)
    (none-spoken s c.requires.sources.resolved y q (capitals c.args.name) named n k c.in_err-entity.ensures)

pub returns-then-has_first_shape : goal.returns-then-has_first_shape
returns-then-has_first_shape c n k typed =
    let s = the_schema c.args.sources.now.names.now in
    let y = attribute_of c.args.attribute in
    let (q, named) = c.requires.named in
    let h = c.in_ok-entity.ensures in
    let (p, b, ent, number, here, only) = h in
    let shape = (c.if-has_first_shape.ensures p k ent number typed.0 typed.1).0 is-true in
    spoken-found s c.requires.sources.resolved (graph_of c.args.sources.now.own.now) c.requires.sources.own
    (places_of c.args.sources.now.places.now) c.requires.sources.places y q (capitals c.args.name) named
    c.in_ok-entity.entity h c.own_place.result c.own_place.ensures n k shape

pub returns-else-has_first_shape : goal.returns-else-has_first_shape
returns-else-has_first_shape c n k typed =
    let s = the_schema c.args.sources.now.names.now in
    let y = attribute_of c.args.attribute in
    let (q, named) = c.requires.named in
    let h = c.in_ok-entity.ensures in
    let (p, b, ent, number, here, only) = h in
    other-shape s c.requires.sources.resolved y q (capitals c.args.name) named n k c.in_ok-entity.entity h
    (λ shape. not-false ((c.if-has_first_shape.ensures p k ent number typed.0 typed.1).1 shape))
