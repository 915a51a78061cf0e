use Rattle.std.proofs.Common.{sym, subst, ap, length, arith}
use Rattle.std.proofs.lemmas.List.{length-map}
use Rattle.graphs.specs.Graphs.{graph_of}
use Rattle.express_syntax.specs.Views.{declaration_of as declaration_seen}
use Rattle.express_syntax.specs.declared.fault.NameFault.TheVariants.{TypeCycle}
use Rattle.schema_names.specs.Edges.{IsGraphOf, parts_in}
use Rattle.schema_names.specs.Schemas.{the_schema}
use Rattle.schema_names.proofs.Edges.{is-graph}
use Rattle.schema_faults.specs.steps.Shown.{IsShown}
use Rattle.schema_faults.specs.steps.FirstNamed.{IsFirstNamed}
use Rattle.schema_faults.proofs.Turning.{ok-also, parts-shown}
use Rattle.schema_faults.proofs.cycles.first_own_part.Goals as goal

pub first_named-requires-clause-graph : goal.first_named-requires-clause-graph
first_named-requires-clause-graph c =
    let s = the_schema c.args.names.now in
    is-graph s parts_in (graph_of c.deref.result.now)
    (subst (λ rows. IsGraphOf s parts_in (graph_of rows)) (sym c.deref.ensures.value) c.in_ok-parts.ensures)

pub first_named-requires-clause-same : goal.first_named-requires-clause-same
first_named-requires-clause-same c =
    let value = ap length c.deref.ensures.value in
    let rows = length-map c.in_ok-parts.parts.items (λ v. v.items) in
    let drawn = c.in_ok-parts.ensures.same in
    let seen = length-map c.args.names.now.schema.now.declarations.items declaration_seen in
    omega (arith, value, rows, drawn, seen)

pub returns : goal.returns
returns c =
    let s = the_schema c.args.names.now in
    let g = graph_of c.deref.result.now in
    let drawn =
    subst (λ rows. IsGraphOf s parts_in (graph_of rows)) (sym c.deref.ensures.value) c.in_ok-parts.ensures in
    ok-also (IsFirstNamed s g) (IsShown s TypeCycle) (parts-shown s g drawn) c.first_named.result
    c.first_named.ensures
