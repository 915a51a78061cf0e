use Rattle.std.proofs.Common.{refl, sym, subst, ap, ◌∙◌}
use Rattle.express_syntax.specs.Profile.{Every}
use Rattle.express_syntax.specs.ExpressionViews.{tree_of}
use Rattle.conformance.specs.Expressions.{means}
use Rattle.rule_values.specs.Parts.{element_datum}
use Rattle.rule_values.specs.steps.Scopes.{variables_of}
use Rattle.rule_settings.specs.Settings.{setting_by, below_rank}
use Rattle.rule_evaluation.specs.steps.Kept.{IsRight}
use Rattle.rule_evaluation.specs.steps.Worths.{worth_at}
use Rattle.rule_evaluation.proofs.values.value_at.Goals as goal

pub loop-init : goal.loop-init
loop-init c = record {
  kept = λ m. subst (Every (IsRight c.args.setting.now m)) (sym c.none-kept.ensures) tt;
  same = refl;
}

pub loop-preserved : goal.loop-preserved
loop-preserved c = record {
  kept = λ m. c.in_ok-keep_all-in-Err-Wants.ensures m (c.loop.invariant.kept m);
  same = c.loop.invariant.same;
}

pub returns-in-Ok : goal.returns-in-Ok
returns-in-Ok c m =
    let S = c.args.setting.now in
    let n = c.args.limit in
    let x = tree_of c.args.expression.now in
    let inv = c.loop.invariant in
    c.in-Ok.ensures.0 (record { meant = m; kept = inv.kept m })
    ∙ ap (λ vs. means (setting_by S m (below_rank S m n)) vs (element_datum c.loop.me) x) (ap variables_of c.empty-scope.ensures)
    ∙ ap (λ e. worth_at S m n (element_datum e) x) inv.same
