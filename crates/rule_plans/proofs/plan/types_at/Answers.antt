use Rattle.std.proofs.Common.{◌∙◌, sym, subst, map, []}
use Rattle.std.proofs.lemmas.Result.{IfOk-weaker}
use Rattle.rule_plans.specs.steps.Speaking.{TypesTell}
use Rattle.rule_plans.specs.steps.Unsought.{AreRight, IsRight}
use Rattle.rule_plans.proofs.Passing.{tables-right, table-right}
use Rattle.rule_plans.specs.steps.Planning.{TellAll}
use Rattle.rule_plans.proofs.Covering.{tell-none, tell-all, union-covers}
use Rattle.rule_plans.proofs.plan.types_at.Goals as goal

pub value_types-requires-clause-unsought : goal.value_types-requires-clause-unsought
value_types-requires-clause-unsought c =
    let S = c.args.setting.now in
    let p = c.args.plan.now in
    let tables = map (λ v. v.items) p.unsought.attributes.items in
    subst (λ ws. AreRight S ws tables) (sym c.deref.ensures.value)
    (tables-right S p.union.items tables (c.requires.plan.unsought c.if-plan.true).attributes)

pub value_types-requires-clause-forms : goal.value_types-requires-clause-forms
value_types-requires-clause-forms c =
    let S = c.args.setting.now in
    let p = c.args.plan.now in
    subst (λ ws. IsRight S ws p.unsought.forms.items) (sym c.deref.ensures.value)
    (table-right S p.union.items p.unsought.forms.items (c.requires.plan.unsought c.if-plan.true).forms)

pub returns-then-plan : goal.returns-then-plan
returns-then-plan c =
    let S = c.args.setting.now in
    let p = c.args.plan.now in
    IfOk-weaker c.value_types.result _ _ (λ v told m x at.
    tell-all S m x v.items p.union.items
    (subst (λ ws. TypesTell S m x ws v.items) c.deref.ensures.value (told m x at)) p.rules.now
    (λ t said. union-covers S m t p.rules.now p.union.items c.requires.plan.union said)) c.value_types.ensures

pub returns : goal.returns
returns c m x at =
    let S = c.args.setting.now in
    let p = c.args.plan.now in
    subst (λ l. TellAll S m x l p.rules.now) (sym c.new.ensures.items)
    (tell-none S m x [] p.rules.now (sym c.requires.plan.seeks ∙ c.if-plan.false))
