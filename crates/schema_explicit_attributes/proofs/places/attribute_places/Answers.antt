use Rattle.std.proofs.Common.{rules, ◌≡◌, ◌∙◌, ◌<◌, sym, subst, length, vec_len}
use Rattle.graphs.specs.Graphs.{graph_of}
use Rattle.graphs.specs.Orders.{IsTopologicalOrder}
use Rattle.schema_names.specs.Edges.{supertypes_in}
use Rattle.schema_names.specs.Schemas.{the_schema}
use Rattle.schema_names.proofs.Edges.{is-graph}
use Rattle.schema_explicit_attributes.specs.Places.{places_of, ArePlaceRows}
use Rattle.schema_explicit_attributes.proofs.Below.{below-rows, places-many}
use Rattle.schema_explicit_attributes.proofs.Along.{have-places}
use Rattle.schema_explicit_attributes.proofs.places.attribute_places.Goals as goal

pub order-requires-clause-graph : goal.order-requires-clause-graph
order-requires-clause-graph c =
    is-graph (the_schema c.args.names.now) supertypes_in (graph_of c.args.supertypes.now) c.requires.graph

pub tables-requires-clause-graph : goal.tables-requires-clause-graph
tables-requires-clause-graph c =
    is-graph (the_schema c.args.names.now) supertypes_in (graph_of c.args.supertypes.now) c.requires.graph

pub tables-requires-clause-below : goal.tables-requires-clause-below
tables-requires-clause-below c a b step =
    let places = c.in_ok-places.field-0.places.items in
    let whole : length places ≡ vec_len c.in_ok-places.field-0.places = search rules in
    subst (λ n. b < n) (places-many places ∙ whole ∙ sym c.len.ensures)
    (below-rows (places_of places) (the_schema c.args.names.now).declarations (graph_of c.deref-2.result.now)
    (subst (λ rows. ArePlaceRows (places_of places) (the_schema c.args.names.now).declarations (graph_of rows))
    (sym c.deref-2.ensures.value) c.in_ok-places.ensures.own) a b step)

pub returns-clause-rows : goal.returns-clause-rows
returns-clause-rows c =
    let s = the_schema c.args.names.now in
    let places = places_of c.in_ok-places.field-0.places.items in
    have-places s c.requires.resolved (graph_of c.args.supertypes.now) c.requires.graph places
    c.in_ok-places.ensures.places (graph_of c.deref-2.result.now) (graph_of c.in_ok-rows.rows.items) c.deref.result.now
    (subst (IsTopologicalOrder (graph_of c.args.supertypes.now)) (sym c.deref.ensures.value) c.in_ok-order.ensures)
    (subst (λ rows. ArePlaceRows places s.declarations (graph_of rows))
    (sym c.deref-2.ensures.value) c.in_ok-places.ensures.own)
    c.in_ok-rows.ensures.joined

pub returns-clause-own : goal.returns-clause-own
returns-clause-own c =
    let s = the_schema c.args.names.now in
    subst (λ all. ArePlaceRows all s.declarations (graph_of c.in_ok-places.field-0.own.items)) c.in_ok-places.ensures.places
    c.in_ok-places.ensures.own
