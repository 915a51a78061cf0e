use Rattle.std.proofs.Common.{◌∙◌, []}
use Rattle.express_syntax.specs.ExpressionViews.{tree_of}
use Rattle.rule_values.specs.Parts.{element_datum}
use Rattle.rule_outcomes.proofs.Settled.{meant-whole}
use Rattle.rule_outcomes.proofs.evaluator.Evaluator.evaluate.Goals as goal

pub returns : goal.returns
returns c m =
    let S = c.args.self.now.setting.now in
    let me = element_datum c.args.me in
    c.in_ok-value_at.ensures m
    ∙ meant-whole S m c.requires.setting c.args.self.now.limit c.requires.limit [] me (tree_of c.args.expression.now)
