use Rattle.std.proofs.Common.{◌≡◌, ◌∙◌, subst, sym, length}
use Rattle.std.proofs.lemmas.List.{length-map}
use Rattle.graphs.specs.Graphs.{Graph, graph_of, next}
use Rattle.graphs.specs.Orders.{IsOrder, AreJoined}
use Rattle.schema_data_types.specs.steps.Gathering.{IsGathered}
use Rattle.schema_data_types.proofs.Gathered.{are-gathered, from-both}
use Rattle.schema_data_types.proofs.edge_tables.gathered.Goals as goal

pub tables-requires : goal.tables-requires
tables-requires c = record {
  graph = c.requires.graph;
  order = subst (IsOrder (graph_of c.args.edges.now)) (sym c.deref.ensures.value) c.in_ok-order.ensures.order;
  own = c.requires.own;
  below = c.requires.below;
}

pub returns : goal.returns
returns c =
    let g : Graph = graph_of c.args.edges.now in
    let own : Graph = graph_of c.args.own.now in
    let order = c.in_ok-order.order.items in
    let many : length g ≡ length c.args.edges.now = length-map c.args.edges.now (λ v. v.items) in
    let mine : length own ≡ length g = length-map c.args.own.now (λ v. v.items) ∙ c.requires.own ∙ sym many in
    from-both c.tables.result (λ t. length t.items ≡ length c.args.edges.now)
    (λ t. AreJoined g c.deref.result.now own (graph_of t.items)) (λ t. IsGathered g (next own) (graph_of t.items))
    (λ t long joins. are-gathered g own (graph_of t.items) order c.in_ok-order.ensures
    (subst (λ xs. AreJoined g xs own (graph_of t.items)) c.deref.ensures.value joins) c.requires.graph
    c.requires.acyclic mine (length-map t.items (λ v. v.items) ∙ long ∙ sym many)) c.tables.ensures.length
    c.tables.ensures.joined
