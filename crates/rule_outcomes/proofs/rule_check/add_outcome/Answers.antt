use Rattle.std.proofs.Common.{◌≡◌, ◌+◌, ◌∙◌, ◌∷◌, arith, [], length, ap, sym, subst, refl}
use Rattle.schema_semantics.specs.Parts.{dotted}
use Rattle.schema_underlying_types.specs.BaseViews.{name_at}
use Rattle.schema_constraints.specs.RuleViews.{label_seen}
use Rattle.schema_constraints.specs.declared.finding.RuleFindingKind.TheVariants.{WhereFalse}
use Rattle.population_inverses.proofs.Adding.{adds-one}
use Rattle.rule_settings.specs.Settings.{schema_in}
use Rattle.rule_outcomes.specs.ReportCounts.{Counts, capped, holder_number, broken_by, open_by}
use Rattle.rule_outcomes.proofs.rule_check.add_outcome.Goals as goal

-- by what the rule says
pub returns-in_ok-push-in-False : goal.returns-in_ok-push-in-False
returns-in_ok-push-in-False c =
    let s = schema_in c.args.setting.now in
    let r = c.args.rule.now in
    let said = c.label-rule.ensures
    ∙ ap (λ i. dotted (name_at s i) (label_seen r.label)) c.holder_number.ensures in
    subst (λ p. Counts (broken_by s c.args.name r p) (length (open_by s r p)) c.args.report.now
    (record c.args.report.now { findings = c.push.new.self }))
    (sym c.in-False.is) (record {
      findings = adds-one WhereFalse _ _ _ _ (record { kind = refl; instance = refl; rule = said }) c.in_ok-push-in-False.ensures.items;
      unknown = λ k e. e ∙ ap capped (omega arith);
    })
