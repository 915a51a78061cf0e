use Rattle.std.proofs.Common.{◌≡◌, ◌∙◌, ap, sym, cond}
use Rattle.express_syntax.specs.declared.expression.Logical.{Logical}
use Rattle.express_logic.specs.Logic.{both}
use Rattle.rule_values.specs.Parts.{element_datum}
use Rattle.rule_outcomes.specs.Outcomes.{said_of}
use Rattle.rule_outcomes.proofs.outcome.outcome_with.Goals as goal

pub returns-then-not-is_under : goal.returns-then-not-is_under
returns-then-not-is_under c m =
    let said : Logical = said_of c.args.evaluator.now.setting.now m c.args.rule.now (element_datum c.args.value.element) in
    ap (λ b. cond b (both said c.args.outcome) c.args.outcome) (sym c.if-not-is_under.true ∙ c.is_under.ensures)

pub returns : goal.returns
returns c m =
    let said : Logical = said_of c.args.evaluator.now.setting.now m c.args.rule.now (element_datum c.args.value.element) in
    c.and.ensures ∙ ap (λ p. both p c.args.outcome) (c.in_ok-said.ensures m)
    ∙ ap (λ b. cond b (both said c.args.outcome) c.args.outcome) (sym c.if-not-is_under.false ∙ c.is_under.ensures)
