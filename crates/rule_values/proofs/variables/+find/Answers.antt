use Rattle.std.proofs.Common.{sym, ◌∙◌}
use Rattle.express_syntax.specs.ExpressionViews.{capitals}
use Rattle.rule_values.proofs.Scopes.{found_last, passed_last}
use Rattle.rule_values.proofs.variables.+find.Goals as goal

pub returns-then-eq : goal.returns-then-eq
returns-then-eq t c =
    let h = c.in_ok-last.ensures.cases in
    sym (found_last (capitals c.args.name) c.args.variables.now c.in_ok-last.others.now c.in_ok-last.last.now h.0 c.if-eq.ensures)

pub returns-else-eq : goal.returns-else-eq
returns-else-eq t c =
    let h = c.in_ok-last.ensures.cases in
    c.find.ensures
    ∙ sym (passed_last (capitals c.args.name) c.args.variables.now c.in_ok-last.others.now c.in_ok-last.last.now h.0 c.if-eq.ensures)
