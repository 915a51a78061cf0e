use Rattle.std.proofs.Common.{◌≡◌, ◌∙◌, ◌∷◌, [], ap, sym, map, cond}
use Rattle.std.proofs.lemmas.Result.{IfOk-weaker}
use Rattle.express_syntax.specs.declared.expression.Logical.{Logical}
use Rattle.express_logic.specs.Data.{Datum, instance}
use Rattle.conformance.specs.DomainFindings.{least}
use Rattle.rule_outcomes.specs.Outcomes.{said_of}
use Rattle.rule_outcomes.proofs.Least.{least-one, instance-worth}
use Rattle.rule_outcomes.proofs.outcome.entity_outcome.Goals as goal

pub returns-then-is_of_entity : goal.returns-then-is_of_entity
returns-then-is_of_entity c =
    let S = c.args.evaluator.now.setting.now in
    let r = c.args.rule.now in
    IfOk-weaker c.said_of.result _ _ (λ p h m x at same.
    let said : Datum → Logical = said_of S m r in
    h m ∙ ap said (instance-worth c.args.name ∙ ap instance same) ∙ sym (least-one (said (instance x.name)))
    ∙ ap (λ b. least (map said (cond b (instance x.name ∷ []) []))) (sym c.if-is_of_entity.true ∙ c.is_of_entity.ensures x at))
    c.said_of.ensures

pub returns : goal.returns
returns c m x at same =
    let S = c.args.evaluator.now.setting.now in
    ap (λ b. least (map (λ d. said_of S m c.args.rule.now d) (cond b (instance x.name ∷ []) [])))
    (sym c.if-is_of_entity.false ∙ c.is_of_entity.ensures x at)
