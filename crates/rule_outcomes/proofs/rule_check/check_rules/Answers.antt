use Rattle.std.proofs.Common.{rules, ◌≡◌, List, [], length, ◌∙◌, ap, map, sym, subst}
use Rattle.std.specs.Prelude.{flat_map}
use Rattle.schema_constraints.specs.Findings.{AreFindingsOf}
use Rattle.schema_constraints.specs.declared.finding.RuleFindingKind.TheVariants.{WhereFalse}
use Rattle.schema_domain_rules.specs.declared.rule.DomainRule.{DomainRule}
use Rattle.schema_domain_rules.specs.RuleViews.{rule_seen}
use Rattle.conformance.specs.DomainFindings.{rule_findings, unknown}
use Rattle.rule_settings.specs.declared.setting.Setting.{Setting}
use Rattle.rule_settings.specs.Settings.{Meant, schema_in, population_in}
use Rattle.rule_outcomes.specs.declared.report.RuleReport.{RuleReport}
use Rattle.rule_outcomes.specs.ReportCounts.{capped, broken_in, open_in, Has}
use Rattle.rule_outcomes.proofs.Counted.{all-findings}
use Rattle.rule_outcomes.proofs.Ruleless.{no-rules, none-false, none-unknown}
use Rattle.rule_outcomes.proofs.rule_check.check_rules.Goals as goal

-- what is told of a setting
abbrev Reports : List DomainRule → RuleReport → Setting → Type 0
Reports rules r S =
    (m : Meant S)
    → Has (flat_map (broken_in S m rules) (population_in S)) (length (flat_map (open_in S m rules) (population_in S))) r

pub returns-then-is_empty-clause-findings : goal.returns-then-is_empty-clause-findings
returns-then-is_empty-clause-findings c m =
    let S = c.args.setting.now in
    let s = schema_in S in
    let e : length c.args.rules.now ≡ 0 = search rules in
    subst (λ rs. AreFindingsOf WhereFalse (rule_findings s m.said.domain m.said.entities m.said.attributes (population_in S)
    (map (rule_seen s) rs)) c.empty_report.result.findings.items) (sym (no-rules c.args.rules.now e))
    (none-false s m.said.domain m.said.entities m.said.attributes (population_in S) c.empty_report.result.findings.items
    c.empty_report.ensures.findings)

pub returns-then-is_empty-clause-unknown : goal.returns-then-is_empty-clause-unknown
returns-then-is_empty-clause-unknown c m =
    let S = c.args.setting.now in
    let s = schema_in S in
    let e : length c.args.rules.now ≡ 0 = search rules in
    c.empty_report.ensures.unknown
    ∙ ap capped (sym (none-unknown s m.said.domain m.said.entities m.said.attributes (population_in S)))
    ∙ ap (λ rs. capped (unknown s m.said.domain m.said.entities m.said.attributes (population_in S) (map (rule_seen s) rs)))
    (sym (no-rules c.args.rules.now e))

pub returns-clause-findings : goal.returns-clause-findings
returns-clause-findings c m =
    let S = c.args.setting.now in
    let s = schema_in S in
    let r = c.in_ok-report.report in
    let told =
    subst (Reports c.in_ok-plan.plan.rules.now r) c.of-evaluator.ensures.setting c.in_ok-report.ensures m in
    subst (λ rules. AreFindingsOf WhereFalse (rule_findings s m.said.domain m.said.entities m.said.attributes (population_in S)
    (map (rule_seen s) rules)) r.findings.items) c.in_ok-plan.ensures.rules
    (all-findings _ r.findings.items told.findings)

pub returns-clause-unknown : goal.returns-clause-unknown
returns-clause-unknown c m =
    let S = c.args.setting.now in
    let s = schema_in S in
    let told =
    subst (Reports c.in_ok-plan.plan.rules.now c.in_ok-report.report) c.of-evaluator.ensures.setting
    c.in_ok-report.ensures m in
    told.unknown
    ∙ ap (λ rules. capped (unknown s m.said.domain m.said.entities m.said.attributes (population_in S) (map (rule_seen s) rules)))
    c.in_ok-plan.ensures.rules
