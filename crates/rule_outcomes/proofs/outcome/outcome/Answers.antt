use Rattle.std.proofs.Common.{◌≡◌, ◌∙◌, ap, sym, subst}
use Rattle.std.proofs.lemmas.Result.{IfOk-weaker}
use Rattle.schema_domain_rules.specs.RuleViews.{IsNumberedHolder}
use Rattle.rule_settings.specs.Settings.{schema_in}
use Rattle.rule_outcomes.specs.Outcomes.{said_by}
use Rattle.rule_plans.specs.steps.Planning.{Tell}
use Rattle.rule_outcomes.proofs.Stating.{states-of}
use Rattle.rule_outcomes.proofs.outcome.outcome.Goals as goal

pub entity_outcome-requires-clause-numbered : goal.entity_outcome-requires-clause-numbered
entity_outcome-requires-clause-numbered c =
    subst (IsNumberedHolder (schema_in c.args.evaluator.now.setting.now)) c.in-Entity.is c.requires.numbered

pub type_outcome-requires-clause-numbered : goal.type_outcome-requires-clause-numbered
type_outcome-requires-clause-numbered c =
    subst (IsNumberedHolder (schema_in c.args.evaluator.now.setting.now)) c.in-Type.is c.requires.numbered

pub type_outcome-requires-clause-stated : goal.type_outcome-requires-clause-stated
type_outcome-requires-clause-stated c = states-of c.args.plan.now.rules.now c.args.rule.now _ c.in-Type.is c.requires.among

pub returns-in-Entity : goal.returns-in-Entity
returns-in-Entity c =
    IfOk-weaker c.entity_outcome.result _ _ (λ p h m x at same tell.
    h m x at same ∙ ap (said_by c.args.evaluator.now.setting.now m x c.args.rule.now) (sym c.in-Entity.is))
    c.entity_outcome.ensures

pub returns-in-Type : goal.returns-in-Type
returns-in-Type c =
    let S = c.args.evaluator.now.setting.now in
    IfOk-weaker c.type_outcome.result _ _ (λ p h m x at same tell.
    h m x at (subst (Tell S m x c.args.types.now) c.in-Type.is tell)
    ∙ ap (said_by S m x c.args.rule.now) (sym c.in-Type.is))
    c.type_outcome.ensures
