use Rattle.std.proofs.Common.{◌≡◌, ◌∙◌, ◌∷◌, [], ◌++◌, ℕ, Bool, map, ap, sym, subst, not}
use Rattle.schema_underlying_types.specs.BaseViews.{name_at}
use Rattle.express_syntax.specs.declared.expression.Logical.{Logical}
use Rattle.express_logic.specs.Data.{Datum}
use Rattle.express_logic.specs.Logic.{both}
use Rattle.conformance.specs.DomainFindings.{least}
use Rattle.rule_settings.specs.Settings.{schema_in}
use Rattle.graphs.specs.steps.Telling.{is_under}
use Rattle.rule_plans.specs.steps.Seeking.{Covers}
use Rattle.rule_plans.specs.steps.Speaking.{is_of}
use Rattle.rule_outcomes.specs.Outcomes.{said_of}
use Rattle.rule_plans.proofs.Covering.{forest-tells, union-covers}
use Rattle.rule_plans.proofs.Wanting.{none-passes}
use Rattle.rule_outcomes.proofs.Least.{least_with, with-true}
use Rattle.rule_outcomes.proofs.Stating.{said_of_those, those-with}
use Rattle.rule_outcomes.proofs.outcome.type_outcome.Goals as goal

pub loop-value-init : goal.loop-value-init
loop-value-init c m x at =
    let S = c.args.evaluator.now.setting.now in
    let t = c.args.declared in
    let plan = c.args.plan.now in
    let p : ℕ → Bool = λ i. is_under plan.renamed i t in
    let said : Datum → Logical = λ d. said_of S m c.args.rule.now d in
    with-true (said_of_those p said c.in_ok-values.values.items)
    ∙ ap (λ l. least (map said l))
    (c.in_ok-values.ensures m x at (name_at (schema_in S) t) p
    (forest-tells S m t plan.renamed c.requires.plan.renamed c.requires.numbered)
    (subst (λ ws. Covers (schema_in S) ws (is_of S m (name_at (schema_in S) t))) (sym c.deref.ensures.value)
    (union-covers S m t plan.rules.now plan.union.items c.requires.plan.union c.requires.stated)))

pub returns-then-not-has_one_under : goal.returns-then-not-has_one_under
returns-then-not-has_one_under c m x at tell =
    let S = c.args.evaluator.now.setting.now in
    let t = c.args.declared in
    let plan = c.args.plan.now in
    let p : ℕ → Bool = λ i. is_under plan.renamed i t in
    ap (λ l. least (map (λ d. said_of S m c.args.rule.now d) l))
    (sym (tell p (forest-tells S m t plan.renamed c.requires.plan.renamed c.requires.numbered)
    (none-passes p c.args.types.now (sym c.has_one_under.ensures ∙ c.if-not-has_one_under.true))))

pub loop-value-preserved : goal.loop-value-preserved
loop-value-preserved c m x at =
    let S = c.args.evaluator.now.setting.now in
    let t = c.args.declared in
    let p : ℕ → Bool = λ i. is_under c.args.plan.now.renamed i t in
    let said : Datum → Logical = λ d. said_of S m c.args.rule.now d in
    let left = c.pop.new.self.items in
    ap (least_with (said_of_those p said left)) (c.in_ok-outcome.ensures m)
    ∙ those-with p said left c.loop-value.values.items c.in-Some.value c.loop-value.outcome c.in-Some.ensures.items
    ∙ c.loop-value.invariant m x at
