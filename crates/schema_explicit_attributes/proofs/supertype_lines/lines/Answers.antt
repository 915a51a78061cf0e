use Rattle.std.proofs.Common.{sym, subst}
use Rattle.std.proofs.lemmas.Result.{IfOk-weaker}
use Rattle.graphs.specs.Graphs.{graph_of}
use Rattle.graphs.specs.Orders.{IsTopologicalOrder}
use Rattle.schema_names.specs.Edges.{supertypes_in}
use Rattle.schema_names.specs.Schemas.{the_schema}
use Rattle.schema_names.proofs.Edges.{is-graph}
use Rattle.schema_explicit_attributes.proofs.Drawn.{have-lines}
use Rattle.schema_explicit_attributes.proofs.supertype_lines.lines.Goals as goal

pub order-requires-clause-graph : goal.order-requires-clause-graph
order-requires-clause-graph c =
    is-graph (the_schema c.args.names.now) supertypes_in (graph_of c.args.supertypes.now) c.requires.graph

pub lines_along-requires-clause-graph : goal.lines_along-requires-clause-graph
lines_along-requires-clause-graph c =
    is-graph (the_schema c.args.names.now) supertypes_in (graph_of c.args.supertypes.now) c.requires.graph

pub returns-clause-lines : goal.returns-clause-lines
returns-clause-lines c =
    let s = the_schema c.args.names.now in
    let g = graph_of c.args.supertypes.now in
    IfOk-weaker c.lines_along.result _ _
    (λ rows along. have-lines s c.requires.resolved g c.requires.graph c.deref.result.now
    (subst (IsTopologicalOrder g) (sym c.deref.ensures.value) c.in_ok-order.ensures) (graph_of rows.items) along)
    c.lines_along.ensures.lines
