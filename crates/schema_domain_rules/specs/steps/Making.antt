-- Making the rows of the list, one after the other.
use Rattle.std.specs.Prelude.{◌≡◌, ℕ, List, ◌++◌, map, ◌↔◌}
use Rattle.express_syntax.specs.Schemas.{Schema, Rule, Body}
use Rattle.express_syntax.specs.Profile.{Every}
use Rattle.schema_semantics.specs.declared.unchecked.Reason.{Reason}
use Rattle.schema_semantics.specs.Parts.{label_of}
use Rattle.schema_unchecked.specs.declared.rules.Own.{Own}
use Rattle.schema_unchecked.specs.steps.Rules.{has_reason}
use Rattle.conformance.specs.DomainRules.{Holder, DomainStatement, RuleHasReason, AreChecked}
use Rattle.schema_domain_rules.specs.declared.rule.RuleHolder.{RuleHolder}
use Rattle.schema_domain_rules.specs.declared.rule.DomainRule.{DomainRule}
use Rattle.schema_domain_rules.specs.RuleViews.{holder_seen, rule_seen, IsNumberedRule}

-- The n-th rule of a WHERE clause.
abbrev pub statement_of : Holder → ℕ → Rule → DomainStatement
statement_of h n r = record { holder = h; label = label_of n r.label; body = r.body }

-- `own` has the possible values of SELF in the rules of h: rules have the reasons that follow from
-- it.
abbrev pub IsOwn : Schema → Own → RuleHolder → Type 0
IsOwn s own h = (b : Body) (r : Reason) → has_reason s own b r ↔ RuleHasReason s (holder_seen s h) b r

-- The list is extended by the rules that are checked.
abbrev pub Adds : Schema → List DomainStatement → List DomainRule → List DomainRule → Type 0
Adds s xs old new =
    (rows : List DomainRule) × (new ≡ old ++ rows) × AreChecked s xs (map (rule_seen s) rows)
    × Every (IsNumberedRule s) rows
