use Rattle.std.proofs.Common.{rules, ◌≡◌, ◌∙◌, ℕ, List, Some, length, vec_len, get_or, ap, sym, subst, refl, arith}
use Rattle.std.proofs.lemmas.List.{length-map, length-set, take_all}
use Rattle.graphs.specs.Graphs.{Graph, graph_of}
use Rattle.graphs.specs.Orders.{IsTopologicalOrder}
use Rattle.graphs.proofs.Gathered.{order-inside}
use Rattle.graphs.proofs.RowLists.{row-is}
use Rattle.express_syntax.specs.Schemas.{Declaration, named}
use Rattle.express_syntax.specs.Views.{declaration_of}
use Rattle.schema_names.specs.Numbers.{AreAt, IsAt}
use Rattle.schema_names.specs.Edges.{parts_in}
use Rattle.schema_names.specs.Schemas.{the_schema}
use Rattle.schema_names.proofs.Edges.{is-graph}
use Rattle.schema_data_types.specs.declared.forms.Form.{Form}
use Rattle.schema_data_types.specs.NumberedTypes.{all_data_types, whole_types}
use Rattle.schema_data_types.specs.declared.shapes.Shape.{Shape}
use Rattle.schema_data_types.specs.ShapeTables.{IsShapeOf}
use Rattle.schema_data_types.specs.steps.Making.{shape_in}
use Rattle.schema_names.proofs.Items.{row-at, mapped-at, rows-same}
use Rattle.schema_data_types.proofs.Along.{up, below-so, one-more, all-declared}
use Rattle.schema_data_types.proofs.shape_table.declared_shapes.Goals as goal

pub order-requires-clause-graph : goal.order-requires-clause-graph
order-requires-clause-graph c =
    is-graph (the_schema c.args.names.now) parts_in (graph_of c.args.parts.now) c.requires.graph

pub declaration-declaration-requires : goal.declaration-declaration-requires
declaration-declaration-requires c =
    let order = c.deref-a-items.result.now in
    let o = subst (IsTopologicalOrder (graph_of c.args.parts.now)) (sym c.deref-a-items.ensures.value)
    c.in_ok-order.ensures in
    let lt = order-inside (λ v. v.items) c.args.parts.now order c.loop-a.a-index o.order c.loop-a-test.true in
    let same = c.requires.graph.same in
    let rows = length-map c.args.parts.now (λ v. v.items) in
    let seen = length-map c.args.names.now.schema.now.declarations.items declaration_of in
    omega (arith, lt, same, rows, seen)

pub index-requires : goal.index-requires
index-requires c =
    let order = c.deref-a-items.result.now in
    let o = subst (IsTopologicalOrder (graph_of c.args.parts.now)) (sym c.deref-a-items.ensures.value)
    c.in_ok-order.ensures in
    let lt = order-inside (λ v. v.items) c.args.parts.now order c.loop-a.a-index o.order c.loop-a-test.true in
    let s = the_schema c.args.names.now in
    let same = c.requires.graph.same in
    let edges = length-map c.args.parts.now (λ v. v.items) in
    let rows = length-map c.args.data_types.now.rows.items (λ v. v.items) in
    let each = rows-same whole_types (all_data_types s) s.declarations (graph_of c.args.data_types.now.rows.items)
    c.requires.rows in
    let whole : length c.args.data_types.now.rows.items ≡ vec_len c.args.data_types.now.rows = search rules in
    omega (arith, lt, same, edges, rows, each, whole)

pub index_mut-requires : goal.index_mut-requires
index_mut-requires c =
    let order = c.deref-a-items.result.now in
    let o = subst (IsTopologicalOrder (graph_of c.args.parts.now)) (sym c.deref-a-items.ensures.value)
    c.in_ok-order.ensures in
    let lt = order-inside (λ v. v.items) c.args.parts.now order c.loop-a.a-index o.order c.loop-a-test.true in
    let long = c.loop-a.invariant.long in
    let whole : length c.loop-a.declared.items ≡ vec_len c.loop-a.declared = search rules in
    omega (arith, lt, long, whole)

pub loop-a-init : goal.loop-a-init
loop-a-init c = record { long = search rules; so = λ j k. absurd (cc) }

pub loop-a-preserved : goal.loop-a-preserved
loop-a-preserved c =
    let s = the_schema c.args.names.now in
    let g : Graph = graph_of c.args.parts.now in
    let order = c.deref-a-items.result.now in
    let i = c.loop-a.a-index in
    let x = get_or order i 0 in
    let forms = c.args.data_types.now.forms.items in
    let declared = c.loop-a.declared.items in
    let o = subst (IsTopologicalOrder (graph_of c.args.parts.now)) (sym c.deref-a-items.ensures.value)
    c.in_ok-order.ensures in
    let lt = order-inside (λ v. v.items) c.args.parts.now order i o.order c.loop-a-test.true in
    let same = c.requires.graph.same in
    let edges = length-map c.args.parts.now (λ v. v.items) in
    let seen = length-map c.args.names.now.schema.now.declarations.items declaration_of in
    let long = c.loop-a.invariant.long in
    let rows = length-map c.args.data_types.now.rows.items (λ v. v.items) in
    let each = rows-same whole_types (all_data_types s) s.declarations (graph_of c.args.data_types.now.rows.items)
    c.requires.rows in
    let d : Declaration = declaration_of c.declaration-declaration.result.now in
    let at : IsAt s x d = mapped-at declaration_of c.args.names.now.schema.now.declarations.items x
    c.declaration-declaration.result.now c.declaration-declaration.ensures in
    let row = row-is (λ v. v.items) c.args.data_types.now.rows.items x c.index.result.now
    c.deref-in-loop-a-2.result.now (omega (arith, lt, same, edges, rows, each)) c.index.ensures
    c.deref-in-loop-a-2.ensures.value in
    let found : AreAt (all_data_types s) c.deref-in-loop-a-2.result.now (whole_types d) =
    subst (λ (r : List ℕ). AreAt (all_data_types s) r (whole_types d)) (sym row)
    (row-at whole_types (all_data_types s) s.declarations (graph_of c.args.data_types.now.rows.items) x d
    c.requires.rows at) in
    let is : c.shape_in-shape.result ≡ shape_in forms declared c.deref-in-loop-a-2.result.now d =
    c.shape_in-shape.ensures
    ∙ ap (λ (fs : List Form). shape_in fs c.deref-in-loop-a.result.now c.deref-in-loop-a-2.result.now d)
    c.deref.ensures.value
    ∙ ap (λ (ds : List Shape). shape_in forms ds c.deref-in-loop-a-2.result.now d) c.deref-in-loop-a.ensures.value in
    record {
      long = length-set declared x c.shape_in-shape.result ∙ long;
      so = one-more s c.requires.resolved g c.requires.graph forms c.requires.forms declared order i x
          c.shape_in-shape.result c.loop-a-test.true refl (omega (arith, lt, long)) c.loop-a.invariant.so
          (λ n k. subst (IsShapeOf s (named n)) (sym is)
          (up s c.requires.resolved g c.requires.graph forms c.requires.forms declared x d
          c.deref-in-loop-a-2.result.now at
          (below-so s c.requires.resolved g c.requires.graph forms c.requires.forms declared order i
          o.order.follows c.loop-a-test.true c.loop-a.invariant.so) found n k));
    }

pub returns : goal.returns
returns c =
    let o = subst (IsTopologicalOrder (graph_of c.args.parts.now)) (sym c.deref-a-items.ensures.value)
    c.in_ok-order.ensures in
    all-declared (the_schema c.args.names.now) c.requires.resolved (graph_of c.args.parts.now)
    c.requires.graph c.args.data_types.now.forms.items c.requires.forms c.loop-a.declared.items
    c.deref-a-items.result.now c.loop-a.a-index o (take_all c.loop-a.a-index c.deref-a-items.result.now
    (omega (arith, c.loop-a-test.false))) c.loop-a.invariant.so
