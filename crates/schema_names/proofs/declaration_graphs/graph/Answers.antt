use Rattle.std.proofs.Common.{◌∙◌, ◌<◌, List, ℕ, length, map, filter_map, ap, arith}
use Rattle.std.proofs.lemmas.List.{take_all}
use Rattle.graphs.specs.Graphs.{graph_of}
use Rattle.express_syntax.specs.Schemas.{Declaration}
use Rattle.express_syntax.specs.Views.{declaration_of as declaration_seen}
use Rattle.schema_names.specs.Numbers.{number_of}
use Rattle.schema_names.specs.steps.Relations.{named_in}
use Rattle.schema_names.specs.Schemas.{the_schema}
use Rattle.schema_names.proofs.Rows.{rows-more}
use Rattle.schema_names.proofs.Edges.{graph-of}
use Rattle.schema_names.proofs.declaration_graphs.graph.Goals as goal

pub loop-declaration-preserved : goal.loop-declaration-preserved
loop-declaration-preserved c =
    let s = the_schema c.args.names.now in
    let xs = c.declarations-declaration-items.result.now in
    let at = c.loop-declaration.declaration-index in
    let lt : at < length xs = omega (arith, c.loop-declaration-test.true) in
    rows-more declaration_seen (λ (d : Declaration). filter_map (number_of s) (named_in c.args.relation d))
    (λ v. v.items) xs at c.declaration-item.result c.loop-declaration.rows.items c.push.new.self.items
    c.in_ok-row.row lt c.declaration-item.is c.loop-declaration.invariant
    (c.in_ok-row.ensures ∙ ap (filter_map (number_of s)) c.named_in.ensures) c.in_ok-push.ensures.items

pub returns : goal.returns
returns c =
    let s = the_schema c.args.names.now in
    let row : Declaration → List ℕ = λ d. filter_map (number_of s) (named_in c.args.relation d) in
    let whole =
    take_all c.loop-declaration.declaration-index c.declarations-declaration-items.result.now c.loop-declaration-test.false in
    graph-of s (named_in c.args.relation) (graph_of c.loop-declaration.rows.items)
    (c.loop-declaration.invariant
    ∙ ap (λ ds. map row (map declaration_seen ds)) (whole ∙ c.declarations-declaration-items.ensures))
