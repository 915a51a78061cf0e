-- The meaning of expressions, and the outcome of a rule of the program's list at an instance.
use Rattle.std.specs.Prelude.{map}
use Rattle.express_syntax.specs.declared.expression.Logical.{Logical}
use Rattle.express_syntax.specs.ExpressionViews.{tree_of}
use Rattle.express_syntax.specs.Trees.{Tree}
use Rattle.conformance.specs.Populations.{Instance}
use Rattle.express_logic.specs.Data.{Datum}
use Rattle.conformance.specs.Operations.{says}
use Rattle.conformance.specs.Meanings.{meaning}
use Rattle.conformance.specs.DomainFindings.{least, selves, outcome}
use Rattle.schema_domain_rules.specs.declared.rule.DomainRule.{DomainRule}
use Rattle.schema_domain_rules.specs.declared.rule.RuleHolder.{RuleHolder}
use Rattle.schema_domain_rules.specs.RuleViews.{holder_seen, rule_seen}
use Rattle.rule_settings.specs.declared.setting.Setting.{Setting}
use Rattle.rule_settings.specs.Settings.{Meant, schema_in, population_in}

-- the value of an expression with me as SELF
abbrev pub meaning_in : (S : Setting) → Meant S → Datum → Tree → Datum
meaning_in S m me x = meaning (schema_in S) m.said.domain m.said.entities m.said.attributes (population_in S) me x

-- the truth of the condition of a rule with me as SELF
abbrev pub said_of : (S : Setting) → Meant S → DomainRule → Datum → Logical
said_of S m r me = says (meaning_in S m me (tree_of r.condition.now))

-- the least truth of the condition for the values of SELF that the holder has at an instance
abbrev pub said_by : (S : Setting) → Meant S → Instance → DomainRule → RuleHolder → Logical
said_by S m x r h =
    least (map (λ self. said_of S m r self)
    (selves (schema_in S) m.said.domain m.said.entities m.said.attributes x (holder_seen (schema_in S) h)))

abbrev pub outcome_in : (S : Setting) → Meant S → Instance → DomainRule → Logical
outcome_in S m x r =
    outcome (schema_in S) m.said.domain m.said.entities m.said.attributes (population_in S) x (rule_seen (schema_in S) r)
