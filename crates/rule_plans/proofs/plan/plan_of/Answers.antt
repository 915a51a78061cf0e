use Rattle.std.proofs.Common.{◌∙◌, ap, sym, subst, map}
use Rattle.rule_settings.specs.Settings.{schema_in}
use Rattle.rule_plans.specs.steps.Applying.{numbers_by}
use Rattle.rule_plans.specs.steps.Renamings.{AreRenamings}
use Rattle.rule_plans.specs.steps.Unsought.{AreTables}
use Rattle.rule_plans.proofs.plan.plan_of.Goals as goal

pub forest_of-requires-clause-edges : goal.forest_of-requires-clause-edges
forest_of-requires-clause-edges c =
    subst (λ rows. AreRenamings (schema_in c.args.setting.now) (map (λ v. v.items) rows)) (sym c.deref.ensures.value)
    c.in_ok-edges.ensures

pub union_of-requires-clause-edges : goal.union_of-requires-clause-edges
union_of-requires-clause-edges c =
    subst (λ rows. AreRenamings (schema_in c.args.setting.now) (map (λ v. v.items) rows)) (sym c.deref-2.ensures.value)
    c.in_ok-edges.ensures

pub returns-clause-plan : goal.returns-clause-plan
returns-clause-plan c =
    let S = c.args.setting.now in
    record {
      numbered = c.requires.numbered;
      rows = c.in_ok-rows.ensures ∙ ap (map (numbers_by c.args.rules.now 0)) c.forms.ensures.forms;
      renamed = c.in_ok-renamed.ensures;
      union = c.in_ok-union.ensures;
      seeks = c.has_type_rule-seeks.ensures;
      unsought = λ e. subst (λ ws. AreTables S ws c.in_ok-unsought.unsought) c.deref-3.ensures.value (c.in_ok-unsought.ensures e);
    }
