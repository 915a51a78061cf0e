use Rattle.std.proofs.Common.{◌≡◌, ◌∙◌, ℕ, List, length, sym, ap, subst}
use Rattle.std.proofs.lemmas.List.{length-map}
use Rattle.std.proofs.lemmas.Result.{IfOk-weaker}
use Rattle.graphs.specs.Graphs.{Graph, graph_of, next}
use Rattle.express_syntax.specs.Views.{declaration_of}
use Rattle.schema_names.specs.Edges.{parts_in}
use Rattle.schema_names.specs.Schemas.{the_schema}
use Rattle.schema_names.proofs.Edges.{is-graph}
use Rattle.schema_data_types.specs.steps.Gathering.{IsGathered}
use Rattle.schema_data_types.specs.steps.Giving.{own_row}
use Rattle.schema_data_types.proofs.Known.{no-cycle}
use Rattle.schema_data_types.proofs.OwnRows.{own-stay}
use Rattle.schema_data_types.proofs.value_givers.gathered_rows.Goals as goal

pub gathered-requires-clause-graph : goal.gathered-requires-clause-graph
gathered-requires-clause-graph c =
    is-graph (the_schema c.args.names.now) parts_in (graph_of c.args.edges.now) c.requires.graph

pub gathered-requires-clause-acyclic : goal.gathered-requires-clause-acyclic
gathered-requires-clause-acyclic c =
    no-cycle (the_schema c.args.names.now) c.requires.resolved (graph_of c.args.edges.now) c.requires.graph

pub gathered-requires-clause-own : goal.gathered-requires-clause-own
gathered-requires-clause-own c =
    ap length c.deref.ensures.value ∙ c.in_ok-own.ensures.length
    ∙ sym (length-map c.args.names.now.schema.now.declarations.items declaration_of)
    ∙ sym c.requires.graph.same ∙ length-map c.args.edges.now (λ v. v.items)

pub gathered-requires-clause-below : goal.gathered-requires-clause-below
gathered-requires-clause-below c =
    own-stay (the_schema c.args.names.now) c.args.wanted (graph_of c.deref.result.now) (length c.args.edges.now)
    (subst (λ rows. (i : ℕ) → next (graph_of rows) i ≡ own_row c.args.wanted (the_schema c.args.names.now) i)
    (sym c.deref.ensures.value) c.in_ok-own.ensures.rows)
    (sym (length-map c.args.edges.now (λ v. v.items)) ∙ c.requires.graph.same)

pub returns : goal.returns
returns c =
    let g : Graph = graph_of c.args.edges.now in
    let mine : ℕ → List ℕ = own_row c.args.wanted (the_schema c.args.names.now) in
    let is : (a : ℕ) → next (graph_of c.deref.result.now) a ≡ mine a =
    subst (λ rows. (i : ℕ) → next (graph_of rows) i ≡ mine i) (sym c.deref.ensures.value) c.in_ok-own.ensures.rows in
    let same : next (graph_of c.deref.result.now) ≡ mine = λ i a. is a i in
    IfOk-weaker c.gathered.result (λ t. IsGathered g (next (graph_of c.deref.result.now)) (graph_of t.items))
    (λ t. IsGathered g mine (graph_of t.items))
    (λ t h. subst (λ (own : ℕ → List ℕ). IsGathered g own (graph_of t.items)) same h) c.gathered.ensures
