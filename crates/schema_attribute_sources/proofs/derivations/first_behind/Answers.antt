use Rattle.std.specs.Prelude.{◌≡◌, ℕ, ◌+◌, ◌<◌, cond, List, Option, Some, drop, length, get_or}
use Rattle.std.specs.List.{position_from}
use Rattle.std.proofs.Common.{rules, refl, ap, sym, ◌∙◌}
use Rattle.graphs.specs.Graphs.{graph_of}
use Rattle.express_syntax.specs.ExpressionViews.{capitals}
use Rattle.express_syntax.specs.Schemas.{Derived}
use Rattle.express_syntax.specs.Views.{derived_of}
use Rattle.express_syntax.specs.declared.tree.Derived.{Derived as DerivedTree}
use Rattle.schema_names.specs.Schemas.{the_schema}
use Rattle.schema_attribute_sources.specs.steps.Deriving.{gives, first_behind}
use Rattle.schema_attribute_sources.proofs.Positions.{position-mapped}
use Rattle.schema_attribute_sources.proofs.Walking.{from-here}
use Rattle.schema_attribute_sources.proofs.derivations.first_behind.Goals as goal

pub loop-n-init : goal.loop-n-init
loop-n-init c =
    let s = the_schema c.args.names.now in
    let lines = graph_of c.args.lines.now in
    let a = capitals c.args.asked.name in
    let p = c.args.asked.entity in
    let test = λ (d : Derived). gives s lines a p c.args.entity d.attribute in
    position-mapped derived_of test 0 c.deriveds_in-deriveds.result.now
    ∙ ap (first_behind s lines a p c.args.entity) c.deriveds_in-deriveds.ensures

pub returns-then-gives : goal.returns-then-gives
returns-then-gives c =
    let test = λ (d : DerivedTree). gives (the_schema c.args.names.now) (graph_of c.args.lines.now)
    (capitals c.args.asked.name) c.args.asked.entity c.args.entity (derived_of d).attribute in
    let xs = c.deriveds_in-deriveds.result.now in
    let n = c.loop-n.n in
    let rest = position_from test (n + 1) (drop (n + 1) xs) in
    sym (ap (λ b. cond b (Some n) rest) (sym c.gives.ensures ∙ c.if-gives.true))
    ∙ from-here (position_from test) (λ k x r. cond (test x) (Some k) r) (λ k x ys. refl) _ xs n
    c.index-deriveds-n.result c.loop-n-test.true c.loop-n.invariant

pub loop-n-preserved : goal.loop-n-preserved
loop-n-preserved c =
    let test = λ (d : DerivedTree). gives (the_schema c.args.names.now) (graph_of c.args.lines.now)
    (capitals c.args.asked.name) c.args.asked.entity c.args.entity (derived_of d).attribute in
    let xs = c.deriveds_in-deriveds.result.now in
    let n = c.loop-n.n in
    let rest = position_from test (n + 1) (drop (n + 1) xs) in
    sym (ap (λ b. cond b (Some n) rest) (sym c.gives.ensures ∙ c.if-gives.false))
    ∙ from-here (position_from test) (λ k x r. cond (test x) (Some k) r) (λ k x ys. refl) _ xs n
    c.index-deriveds-n.result c.loop-n-test.true c.loop-n.invariant
