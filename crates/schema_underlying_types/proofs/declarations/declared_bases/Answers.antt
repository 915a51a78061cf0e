use Rattle.std.proofs.Common.{rules, ◌≡◌, ◌∙◌, List, Some, length, vec_len, get_or, ap, sym, subst, refl, arith}
use Rattle.std.proofs.lemmas.List.{length-map, length-set, take_all}
use Rattle.graphs.specs.Graphs.{Graph, graph_of}
use Rattle.graphs.specs.Orders.{IsTopologicalOrder}
use Rattle.graphs.proofs.Gathered.{order-inside}
use Rattle.graphs.proofs.RowLists.{row-is}
use Rattle.express_syntax.specs.Schemas.{Declaration}
use Rattle.express_syntax.specs.Views.{declaration_of}
use Rattle.schema_names.specs.Numbers.{IsAt}
use Rattle.schema_names.specs.Edges.{parts_in}
use Rattle.schema_names.specs.Schemas.{the_schema}
use Rattle.schema_names.proofs.Edges.{is-graph}
use Rattle.schema_data_types.specs.NumberedTypes.{all_data_types, whole_types}
use Rattle.schema_underlying_types.specs.declared.base.Base.{Base}
use Rattle.schema_underlying_types.specs.BaseEntries.{named_in, base_at, first_of}
use Rattle.schema_underlying_types.proofs.Made.{entry-next, all-made}
use Rattle.schema_names.proofs.Items.{mapped-at, rows-same}
use Rattle.schema_underlying_types.proofs.declarations.declared_bases.Goals as goal

pub order-requires-clause-graph : goal.order-requires-clause-graph
order-requires-clause-graph c =
    is-graph (the_schema c.args.names.now) parts_in (graph_of c.args.edges.now) c.requires.drawn

pub declaration-declaration-requires : goal.declaration-declaration-requires
declaration-declaration-requires c =
    let order = c.deref-a-items.result.now in
    let o = subst (IsTopologicalOrder (graph_of c.args.edges.now)) (sym c.deref-a-items.ensures.value)
    c.in_ok-order.ensures in
    let lt = order-inside (λ v. v.items) c.args.edges.now order c.loop-a.a-index o.order c.loop-a-test.true in
    let same = c.requires.drawn.same in
    let rows = length-map c.args.edges.now (λ v. v.items) in
    let seen = length-map c.args.names.now.schema.now.declarations.items declaration_of in
    omega (arith, lt, same, rows, seen)

pub index-requires : goal.index-requires
index-requires c =
    let order = c.deref-a-items.result.now in
    let o = subst (IsTopologicalOrder (graph_of c.args.edges.now)) (sym c.deref-a-items.ensures.value)
    c.in_ok-order.ensures in
    let lt = order-inside (λ v. v.items) c.args.edges.now order c.loop-a.a-index o.order c.loop-a-test.true in
    let s = the_schema c.args.names.now in
    let same = c.requires.drawn.same in
    let edges = length-map c.args.edges.now (λ v. v.items) in
    let rows = length-map c.args.data_types.now.rows.items (λ v. v.items) in
    let each = rows-same whole_types (all_data_types s) s.declarations (graph_of c.args.data_types.now.rows.items)
    c.requires.rows in
    let whole : length c.args.data_types.now.rows.items ≡ vec_len c.args.data_types.now.rows = search rules in
    omega (arith, lt, same, edges, rows, each, whole)

pub index_mut-requires : goal.index_mut-requires
index_mut-requires c =
    let order = c.deref-a-items.result.now in
    let o = subst (IsTopologicalOrder (graph_of c.args.edges.now)) (sym c.deref-a-items.ensures.value)
    c.in_ok-order.ensures in
    let lt = order-inside (λ v. v.items) c.args.edges.now order c.loop-a.a-index o.order c.loop-a-test.true in
    let long = c.loop-a.invariant.long in
    let whole : length c.loop-a.declared.items ≡ vec_len c.loop-a.declared = search rules in
    omega (arith, lt, long, whole)

pub loop-a-init : goal.loop-a-init
loop-a-init c = record { long = search rules; so = λ j k. absurd (cc) }

pub loop-a-preserved : goal.loop-a-preserved
loop-a-preserved c =
    let s = the_schema c.args.names.now in
    let g : Graph = graph_of c.args.edges.now in
    let order = c.deref-a-items.result.now in
    let i = c.loop-a.a-index in
    let x = get_or order i 0 in
    let declared = c.loop-a.declared.items in
    let o = subst (IsTopologicalOrder (graph_of c.args.edges.now)) (sym c.deref-a-items.ensures.value)
    c.in_ok-order.ensures in
    let lt = order-inside (λ v. v.items) c.args.edges.now order i o.order c.loop-a-test.true in
    let same = c.requires.drawn.same in
    let edges = length-map c.args.edges.now (λ v. v.items) in
    let seen = length-map c.args.names.now.schema.now.declarations.items declaration_of in
    let long = c.loop-a.invariant.long in
    let rows = length-map c.args.data_types.now.rows.items (λ v. v.items) in
    let each = rows-same whole_types (all_data_types s) s.declarations (graph_of c.args.data_types.now.rows.items)
    c.requires.rows in
    let d : Declaration = declaration_of c.declaration-declaration.result.now in
    let at : IsAt s x d = mapped-at declaration_of c.args.names.now.schema.now.declarations.items x
    c.declaration-declaration.result.now c.declaration-declaration.ensures in
    let row = row-is (λ v. v.items) c.args.data_types.now.rows.items x c.index.result.now
    c.deref-in-loop-a.result.now (omega (arith, lt, same, edges, rows, each)) c.index.ensures
    c.deref-in-loop-a.ensures.value in
    let is : c.in_ok-base.base ≡ base_at s (named_in s declared) (first_of c.deref-in-loop-a.result.now) x d =
    c.in_ok-base.ensures
    ∙ ap (λ (ds : List Base). base_at s (named_in s ds) (first_of c.deref-in-loop-a.result.now) x d)
    c.deref.ensures.value in
    record {
      long = length-set declared x c.in_ok-base.base ∙ long;
      so = entry-next s g c.requires.drawn (graph_of c.args.data_types.now.rows.items) order declared i x d
          c.deref-in-loop-a.result.now c.in_ok-base.base o.order.follows c.loop-a-test.true refl
          (omega (arith, lt, long)) at row is c.loop-a.invariant.so;
    }

pub returns-clause-length : goal.returns-clause-length
returns-clause-length c =
    let edges = length-map c.args.edges.now (λ v. v.items) in
    c.loop-a.invariant.long ∙ sym edges ∙ c.requires.drawn.same

pub returns-clause-made : goal.returns-clause-made
returns-clause-made c =
    let o = subst (IsTopologicalOrder (graph_of c.args.edges.now)) (sym c.deref-a-items.ensures.value)
    c.in_ok-order.ensures in
    all-made (the_schema c.args.names.now) (graph_of c.args.edges.now) c.requires.drawn
    (graph_of c.args.data_types.now.rows.items) c.requires.resolved c.deref-a-items.result.now c.loop-a.declared.items
    c.loop-a.a-index o (take_all c.loop-a.a-index c.deref-a-items.result.now
    (omega (arith, c.loop-a-test.false))) c.loop-a.invariant.so

pub returns-clause-ordered : goal.returns-clause-ordered
returns-clause-ordered c = (
  c.deref-a-items.result.now,
  subst (IsTopologicalOrder (graph_of c.args.edges.now))
      (sym c.deref-a-items.ensures.value) c.in_ok-order.ensures,
)
