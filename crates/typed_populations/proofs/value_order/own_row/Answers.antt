use Rattle.std.proofs.Common.{◌∙◌, sym, subst}
use Rattle.graphs.specs.Graphs.{graph_of}
use Rattle.express_syntax.specs.ExpressionViews.{capitals}
use Rattle.schema_names.specs.Numbers.{AreAt}
use Rattle.schema_names.specs.Schemas.{the_schema}
use Rattle.schema_explicit_attributes.specs.Places.{all_places}
use Rattle.conformance.specs.Entities.{own_places_of}
use Rattle.typed_populations.proofs.Orders.{own-at, own-none, row-is, no-row}
use Rattle.typed_populations.proofs.value_order.own_row.Goals as goal

pub returns-in_default : goal.returns-in_default
returns-in_default c =
    own-none (the_schema c.args.names.now) (capitals c.args.name) (sym c.find.ensures ∙ c.in_default.is)

pub returns-in-Some-get : goal.returns-in-Some-get
returns-in-Some-get c =
    let s = the_schema c.args.names.now in
    let n = capitals c.args.name in
    let rows = c.args.own.now in
    let found = c.in-Some-get.ensures.lookup in
    subst (λ row. AreAt (all_places s) row (own_places_of s n))
    (row-is rows c.in-Some.number c.in-Some-get.row.now found.3.0 found.1 ∙ sym c.deref.ensures.value)
    (own-at s (graph_of rows) n c.in-Some.number c.requires (sym c.find.ensures ∙ c.in-Some.is))

pub returns-in-None : goal.returns-in-None
returns-in-None c =
    let s = the_schema c.args.names.now in
    let n = capitals c.args.name in
    let rows = c.args.own.now in
    subst (λ row. AreAt (all_places s) row (own_places_of s n))
    (no-row rows c.in-Some.number c.in-None.ensures.lookup.3)
    (own-at s (graph_of rows) n c.in-Some.number c.requires (sym c.find.ensures ∙ c.in-Some.is))
