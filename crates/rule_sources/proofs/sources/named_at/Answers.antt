use Rattle.std.proofs.Common.{◌∙◌, Some, sym, subst}
use Rattle.std.proofs.lemmas.Option.{slice_get-get_or}
use Rattle.std.proofs.lemmas.Slice.Eq.{bytes_eq-Decides}
use Rattle.express_syntax.specs.ExpressionViews.{capitals}
use Rattle.typed_populations.proofs.Found.{every-at}
use Rattle.rule_sources.specs.Sources.{IsFormSource, IsNamedSource}
use Rattle.rule_sources.proofs.sources.named_at.Goals as goal

pub returns-then-eq : goal.returns-then-eq
returns-then-eq c s inverses form all =
    let xs = c.args.row.now in
    let i = c.args.at in
    let w = c.in-Some.each.now in
    let found = c.in-Some.ensures.lookup in
    let there = slice_get-get_or xs i w found.3.0 in
    let same = (bytes_eq-Decides (capitals w.name) (capitals c.args.name)).0 (sym c.eq.ensures ∙ c.if-eq.true) in
    subst (λ a. IsFormSource s inverses (Some form) a w.source) same
    (subst (IsNamedSource s inverses form) (sym found.1) (every-at (IsNamedSource s inverses form) xs i _ all there))
