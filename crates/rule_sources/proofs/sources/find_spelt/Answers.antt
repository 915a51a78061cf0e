use Rattle.std.proofs.Common.{◌≡◌, ◌∙◌, Some, ap, sym, subst}
use Rattle.std.proofs.lemmas.Option.{slice_get-get_or}
use Rattle.std.proofs.lemmas.Slice.Eq.{bytes_eq-Decides}
use Rattle.step_literals.specs.Words.{upper}
use Rattle.express_syntax.specs.ExpressionViews.{capitals}
use Rattle.typed_populations.proofs.Found.{every-at}
use Rattle.rule_sources.specs.Sources.{IsFormSource, IsNamedSource}
use Rattle.rule_sources.proofs.sources.find_spelt.Goals as goal

pub returns-then-eq : goal.returns-then-eq
returns-then-eq c s inverses form all =
    let xs = c.args.row.now in
    let i = c.loop-each.each-index in
    let w = c.each-item.result in
    let there = slice_get-get_or xs i w c.loop-each-test.true in
    let spelt = (bytes_eq-Decides c.spelling.result.now c.spelling-in-loop-each.result.now).0 (sym c.eq.ensures ∙ c.if-eq.true) in
    let same : capitals w.name ≡ capitals c.args.name =
    ap (λ b. upper b.now) (sym c.spelling.ensures) ∙ ap upper spelt ∙ ap (λ b. upper b.now) c.spelling-in-loop-each.ensures in
    subst (λ a. IsFormSource s inverses (Some form) a w.source) same
    (subst (IsNamedSource s inverses form) (sym c.each-item.is) (every-at (IsNamedSource s inverses form) xs i _ all there))
