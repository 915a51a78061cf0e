-- The domain rules in the rows of the list, with names in place of numbers
-- (ISO 10303-11, 9.1 and 9.2.2.2).
use Rattle.express_syntax.specs.ExpressionViews.{tree_of}
use Rattle.express_syntax.specs.Schemas.{Schema}
use Rattle.schema_names.specs.Numbers.{HasNumber}
use Rattle.schema_underlying_types.specs.BaseViews.{name_at}
use Rattle.schema_constraints.specs.RuleViews.{label_seen}
use Rattle.conformance.specs.DomainRules as meanings
use Rattle.conformance.specs.DomainRules.{Holder, of_entity, of_type}
use Rattle.schema_domain_rules.specs.declared.rule.RuleHolder.{RuleHolder}
use Rattle.schema_domain_rules.specs.declared.rule.RuleHolder.TheVariants as holders
use Rattle.schema_domain_rules.specs.declared.rule.DomainRule.{DomainRule}

abbrev pub holder_seen : Schema → RuleHolder → Holder
holder_seen s (holders.Entity i) = of_entity (name_at s i)
holder_seen s (holders.Type i) = of_type (name_at s i)

abbrev pub rule_seen : Schema → DomainRule → meanings.DomainRule
rule_seen s r = record {
  holder = holder_seen s r.holder;
  label = label_seen r.label;
  condition = tree_of r.condition.now;
}

-- The number of the declaration that states a rule is that of its name.
abbrev pub IsNumberedHolder : Schema → RuleHolder → Type 0
IsNumberedHolder s (holders.Entity i) = HasNumber s (name_at s i) i
IsNumberedHolder s (holders.Type i) = HasNumber s (name_at s i) i

abbrev pub IsNumberedRule : Schema → DomainRule → Type 0
IsNumberedRule s r = IsNumberedHolder s r.holder
