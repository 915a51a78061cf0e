use Rattle.std.proofs.Common.{◌≡◌, ◌≢◌, ◌<◌, ◌+◌, ◌-◌, ◌∙◌, [], take, length, true, false, arith, sym, subst, bytes_eq}
use Rattle.std.proofs.lemmas.List.{get_or_default}
use Rattle.std.proofs.lemmas.Slice.Eq.{bytes_eq-Decides}
use Rattle.express_syntax.specs.ExpressionViews.{capitals}
use Rattle.schema_expression_types.specs.declared.scope.Variable.{Variable}
use Rattle.schema_expression_types.specs.steps.Scopes.{inside}
use Rattle.schema_expression_types.proofs.Finding.{Outer, next-outer, this-found}
use Rattle.schema_expression_types.proofs.variables.find_variable.Goals as goal

pub loop-i-preserved : goal.loop-i-preserved
loop-i-preserved c s =
    let n = capitals c.args.name in
    let xs = c.args.variables.now in
    let i = c.loop-i.i - 1 in
    let w = c.index-variables-i.result in
    let lt : i < length xs = omega (arith, c.loop-i-test.true, c.loop-i.auto.i) in
    let next : c.loop-i.i ≡ i + 1 = omega (arith, c.loop-i-test.true) in
    let e = subst (λ (v : Variable). c.eq.result ≡ bytes_eq (capitals v.name) n) (sym c.index-variables-i.is) c.eq.ensures in
    let differ : capitals w.name ≢ n = λ same.
    (let t : true ≡ false = sym ((bytes_eq-Decides (capitals w.name) n).1 same) ∙ sym e ∙ c.if-eq.false in cc) in
    next-outer s n xs i w lt c.index-variables-i.is differ
    (subst (λ k. Outer s n (inside s (take k xs) []) (inside s xs [])) next (c.loop-i.invariant s))

pub returns-then-eq : goal.returns-then-eq
returns-then-eq c s =
    let n = capitals c.args.name in
    let xs = c.args.variables.now in
    let i = c.loop-i.i - 1 in
    let v = c.index-variables-i.result in
    let w = c.index-variables-i-then-eq.result in
    let lt : i < length xs = omega (arith, c.loop-i-test.true, c.loop-i.auto.i) in
    let next : c.loop-i.i ≡ i + 1 = omega (arith, c.loop-i-test.true) in
    let e = subst (λ (u : Variable). c.eq.result ≡ bytes_eq (capitals u.name) n)
    (get_or_default xs i v w lt ∙ sym c.index-variables-i-then-eq.is) c.eq.ensures in
    this-found s n xs i w lt c.index-variables-i-then-eq.is ((bytes_eq-Decides (capitals w.name) n).0 (sym e ∙
    c.if-eq.true)) (subst (λ k. Outer s n (inside s (take k xs) []) (inside s xs [])) next (c.loop-i.invariant s))

pub returns : goal.returns
returns c s =
    let xs = c.args.variables.now in
    let start : c.loop-i.i ≡ 0 = omega (arith, c.loop-i-test.false) in
    (subst (λ k. Outer s (capitals c.args.name) (inside s (take k xs) []) (inside s xs [])) start (c.loop-i.invariant s)).none
    (λ h. h)
