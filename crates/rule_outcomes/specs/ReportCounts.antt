-- What is added to a report, rule by rule.
use Rattle.std.specs.Prelude.{◌≡◌, ℕ, ◌+◌, ◌-◌, ◌^◌, min, cond, List, [], ◌∷◌, map, filter, flat_map, Option, Some, None, slice_get}
use Rattle.express_syntax.specs.Schemas.{Schema}
use Rattle.express_syntax.specs.declared.expression.Logical.{Logical}
use Rattle.schema_underlying_types.specs.BaseViews.{name_at}
use Rattle.conformance.specs.Populations.{Instance}
use Rattle.conformance.specs.RuleFindings.{Breach}
use Rattle.schema_constraints.specs.declared.finding.RuleFindingKind.TheVariants.{WhereFalse}
use Rattle.schema_constraints.specs.RuleViews.{label_seen}
use Rattle.population_inverses.specs.steps.Findings.{Adds}
use Rattle.conformance.specs.DomainRules as meanings
use Rattle.conformance.specs.DomainFindings.{is_false, is_unknown, outcome, breaches_at}
use Rattle.schema_domain_rules.specs.declared.rule.RuleHolder.{RuleHolder}
use Rattle.schema_domain_rules.specs.declared.rule.RuleHolder.TheVariants as holders
use Rattle.schema_domain_rules.specs.declared.rule.DomainRule.{DomainRule}
use Rattle.schema_domain_rules.specs.RuleViews.{rule_seen}
use Rattle.rule_settings.specs.declared.setting.Setting.{Setting}
use Rattle.rule_settings.specs.Settings.{Meant, schema_in, population_in}
use Rattle.rule_outcomes.specs.declared.report.RuleReport.{RuleReport}
use Rattle.rule_outcomes.specs.Outcomes.{outcome_in}

-- n, but at most 2^64 - 1
abbrev pub capped : ℕ → ℕ
capped n = min n (2 ^ 64 - 1)

-- The breaches are added to the findings, and count is added to the number of UNKNOWN outcomes.
pub record Counts (breaches : List Breach) (count : ℕ) (old new : RuleReport) : Type 0 where
  pub findings : Adds WhereFalse breaches old.findings.items new.findings.items
  pub unknown : (before : ℕ) → old.unknown ≡ capped before → new.unknown ≡ capped (before + count)

-- The report has these breaches and count UNKNOWN outcomes.
pub record Has (breaches : List Breach) (count : ℕ) (r : RuleReport) : Type 0 where
  pub findings : Adds WhereFalse breaches [] r.findings.items
  pub unknown : r.unknown ≡ capped count

abbrev pub holder_number : RuleHolder → ℕ
holder_number (holders.Entity i) = i
holder_number (holders.Type i) = i

-- the breach of a rule with the outcome p at an instance y, if p is FALSE
abbrev pub broken_by : Schema → ℕ → DomainRule → Logical → List Breach
broken_by s y r p =
    cond (is_false p)
    (record { instance = y; holder = name_at s (holder_number r.holder); label = label_seen r.label } ∷ []) []

-- the rule, if its outcome p is UNKNOWN
abbrev pub open_by : Schema → DomainRule → Logical → List meanings.DomainRule
open_by s r p = cond (is_unknown p) (rule_seen s r ∷ []) []

module _ (S : Setting) (m : Meant S) (x : Instance) where
  abbrev pub broken_of : DomainRule → List Breach
  broken_of r = broken_by (schema_in S) x.name r (outcome_in S m x r)

  abbrev pub open_of : DomainRule → List meanings.DomainRule
  open_of r = open_by (schema_in S) r (outcome_in S m x r)

abbrev pub of_one : {A : Type 0} → (DomainRule → List A) → Option DomainRule → List A
of_one f None = []
of_one f (Some r) = f r

-- the result of f for rule number n, if there is one
abbrev pub of_number : {A : Type 0} → (DomainRule → List A) → List DomainRule → ℕ → List A
of_number f rules n = of_one f (slice_get rules n)

module _ (S : Setting) (m : Meant S) (x : Instance) where
  -- the results for the rules with these numbers
  abbrev pub broken_at : List DomainRule → List ℕ → List Breach
  broken_at rules numbers = flat_map (of_number (broken_of S m x) rules) numbers

  abbrev pub open_at : List DomainRule → List ℕ → List meanings.DomainRule
  open_at rules numbers = flat_map (of_number (open_of S m x) rules) numbers

-- the breaches at an instance, and the rules that are UNKNOWN there
module _ (S : Setting) (m : Meant S) (rules : List DomainRule) where
  abbrev pub broken_in : Instance → List Breach
  broken_in x =
      breaches_at (schema_in S) m.said.domain m.said.entities m.said.attributes (population_in S) (map (rule_seen (schema_in S)) rules) x

  abbrev pub open_in : Instance → List meanings.DomainRule
  open_in x =
      filter (λ (r : meanings.DomainRule). is_unknown (outcome (schema_in S) m.said.domain m.said.entities m.said.attributes (population_in S) x r))
      (map (rule_seen (schema_in S)) rules)
