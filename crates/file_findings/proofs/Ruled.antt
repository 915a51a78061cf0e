-- What is found of all rules is what is found of domain rules, then of those of a whole population.
use Rattle.std.specs.Prelude.{◌≡◌, ℕ, List, ◌++◌}
use Rattle.std.proofs.Common.{subst, ◌∙◌}
use Rattle.express_syntax.specs.Schemas.{Schema}
use Rattle.conformance.specs.Populations.{Instance}
use Rattle.conformance.specs.Rules.{Rules, AreRules}
use Rattle.conformance.specs.RuleFindings.{unique_findings, inverse_findings}
use Rattle.conformance.specs.SchemaMeanings.{Said}
use Rattle.conformance.proofs.RuleOneness.{rules_are_one}
use Rattle.schema_constraints.specs.Findings.{AreFindingsOf}
use Rattle.schema_constraints.specs.declared.finding.RuleFinding.{RuleFinding}
use Rattle.schema_constraints.specs.declared.finding.RuleFindingKind.TheVariants.{UniqueBroken, InverseBound}
use Rattle.rule_outcomes.specs.declared.report.RuleReport.{RuleReport}
use Rattle.file_findings.specs.Findings.{AreRuleFindings}
use Rattle.file_findings.specs.steps.Ruling.{AreDomainFindings}

pub ruled : (s : Schema) (said : Said s) (rules : Rules) → AreRules s said.domain rules → (is : List Instance)
    (old : RuleReport) (gs us vs : List RuleFinding) (n : ℕ) → AreDomainFindings s said is old
    → AreFindingsOf UniqueBroken (unique_findings rules is) us
    → AreFindingsOf InverseBound (inverse_findings rules is) vs
    → gs ≡ old.findings.items ++ us ++ vs → n ≡ old.unknown → AreRuleFindings s said is gs n
ruled s said rules are is old gs us vs n h unique inverse all same =
    let one = rules_are_one s said.domain said.entities rules said.rules said.resolved are said.are_rules is in
    record {
      wheres = old.findings.items;
      uniques = us;
      bounds = vs;
      all = all;
      are_false = h.are_false;
      are_broken = subst (λ bs. AreFindingsOf UniqueBroken bs us) one.1 unique;
      are_exceeded = subst (λ bs. AreFindingsOf InverseBound bs vs) one.2 inverse;
      are_unknown = same ∙ h.are_unknown;
    }
