use Rattle.std.proofs.Common.{map, ap, sym, subst, ◌∙◌, []}
use Rattle.std.specs.List.{AllZip}
use Rattle.graphs.specs.Graphs.{graph_of}
use Rattle.express_syntax.specs.Views.{declaration_of}
use Rattle.schema_names.specs.Schemas.{the_schema}
use Rattle.schema_redeclarations.specs.steps.Speaking.{AreDerivedIn}
use Rattle.schema_redeclarations.proofs.Going.{zip-next, all-taken}
use Rattle.schema_redeclarations.proofs.derived_attributes.all_derived.Goals as goal

pub loop-declaration-init : goal.loop-declaration-init
loop-declaration-init c =
    subst (AllZip (AreDerivedIn (the_schema c.args.sources.now.names.now)) [])
    (sym (ap graph_of c.new-rows.ensures.items)) tt

pub loop-declaration-preserved : goal.loop-declaration-preserved
loop-declaration-preserved c =
    zip-next (AreDerivedIn (the_schema c.args.sources.now.names.now)) declaration_of (λ v. v.items)
    c.declarations-declaration-items.result.now
    c.loop-declaration.declaration-index c.declaration-item.result c.loop-declaration.rows.items c.push.new.self.items
    c.in_ok-row.row c.loop-declaration-test.true c.declaration-item.is c.loop-declaration.invariant c.in_ok-row.ensures
    c.in_ok-push.ensures.items

pub returns : goal.returns
returns c =
    let s = the_schema c.args.sources.now.names.now in
    let xs = c.declarations-declaration-items.result.now in
    subst (λ ds. AllZip (AreDerivedIn s) ds (graph_of c.loop-declaration.rows.items))
    (all-taken declaration_of xs c.loop-declaration.declaration-index c.loop-declaration-test.false
    ∙ ap (map declaration_of) c.declarations-declaration-items.ensures) c.loop-declaration.invariant
