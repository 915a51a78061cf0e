use Rattle.std.proofs.Common.{◌≡◌, ◌≤◌, ◌<◌, ◌∙◌, ap, arith, flat_map, get_or, length, subst}
use Rattle.std.proofs.lemmas.List.{take_all}
use Rattle.std.proofs.lemmas.Result.{err_from_is_err_and}
use Rattle.express_syntax.specs.ExpressionViews.{capitals}
use Rattle.express_syntax.specs.Profile.{Every}
use Rattle.express_syntax.specs.Views.{declaration_of as declaration_seen}
use Rattle.schema_semantics.specs.Faults.{IsMet, demands_of_declaration}
use Rattle.schema_names.specs.Schemas.{the_schema}
use Rattle.schema_faults.specs.steps.Checks.{IsFirstUnmet}
use Rattle.schema_faults.proofs.Unmet.{met-more, unmet-more, mapped-each}
use Rattle.schema_faults.proofs.demands.check_demands.Goals as goal

pub loop-declaration-preserved : goal.loop-declaration-preserved
loop-declaration-preserved c =
    let s = the_schema c.args.names.now in
    let xs = c.args.names.now.schema.now.declarations.items in
    let f = demands_of_declaration in
    let i = c.loop-declaration.declaration-index in
    let whole = c.declarations-declaration-items.ensures in
    let lt : i < length xs = subst (λ ds. i < length ds) whole (omega (arith, c.loop-declaration-test.true)) in
    let x = c.declaration-item.result in
    let at = subst (λ ds. x ≡ get_or ds i x) whole c.declaration-item.is in
    met-more s (λ x. f (declaration_seen x)) xs i x lt at c.loop-declaration.invariant
    c.in_ok-check_declaration.ensures

pub returns-in_err-check_declaration : goal.returns-in_err-check_declaration
returns-in_err-check_declaration c =
    let s = the_schema c.args.names.now in
    let xs = c.args.names.now.schema.now.declarations.items in
    let f = demands_of_declaration in
    let i = c.loop-declaration.declaration-index in
    let whole = c.declarations-declaration-items.ensures in
    let lt : i < length xs = subst (λ ds. i < length ds) whole (omega (arith, c.loop-declaration-test.true)) in
    let x = c.declaration-item.result in
    let at = subst (λ ds. x ≡ get_or ds i x) whole c.declaration-item.is in
    let n = capitals c.in_err-check_declaration.field-0.0 in
    let p = err_from_is_err_and c.from_residual.result c.from_residual.ensures.1 in
    let unmet =
    unmet-more s (λ x. f (declaration_seen x)) xs i x n lt at c.loop-declaration.invariant
    c.in_err-check_declaration.ensures in
    rw (p.1, p.2) (subst (λ ds. IsFirstUnmet s ds n) (mapped-each f declaration_seen xs) unmet)

pub returns : goal.returns
returns c =
    let s = the_schema c.args.names.now in
    let xs = c.args.names.now.schema.now.declarations.items in
    let f = demands_of_declaration in
    let i = c.loop-declaration.declaration-index in
    subst (Every (IsMet s))
    (ap (flat_map (λ x. f (declaration_seen x))) (take_all i xs (subst (λ ds. length ds ≤ i) c.declarations-declaration-items.ensures c.loop-declaration-test.false))
    ∙ mapped-each f declaration_seen xs) c.loop-declaration.invariant
