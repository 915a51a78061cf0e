-- The defined types for whose values rules are tried.
use Rattle.std.specs.Prelude.{◌≡◌, ⊤, ℕ, ◌<◌, Bool, true, false, List, get_or, set, ◌↔◌}
use Rattle.express_syntax.specs.Schemas.{Schema}
use Rattle.schema_semantics.specs.Names.{OneOf}
use Rattle.schema_names.specs.Numbers.{HasNumber}
use Rattle.schema_underlying_types.specs.BaseViews.{name_at}
use Rattle.schema_domain_rules.specs.declared.rule.RuleHolder.{RuleHolder}
use Rattle.schema_domain_rules.specs.declared.rule.RuleHolder.TheVariants as holders
use Rattle.schema_domain_rules.specs.declared.rule.DomainRule.{DomainRule}
use Rattle.rule_plans.specs.steps.Coded.{is_wanted}
use Rattle.rule_plans.specs.steps.Renamings.{IsDefinedBy}

abbrev pub is_type : RuleHolder → Bool
is_type (holders.Entity i) = false
is_type (holders.Type i) = true

-- the rule is stated by a defined type
abbrev pub is_type_rule : DomainRule → Bool
is_type_rule r = is_type r.holder

-- the defined type t states one of the rules
abbrev pub States : List DomainRule → ℕ → Type 0
States rules t = OneOf (λ (r : DomainRule). r.holder ≡ holders.Type t) rules

-- the defined type that states a rule is one of n declarations
abbrev pub notes_within : RuleHolder → ℕ → Type 0
notes_within (holders.Entity i) n = ⊤
notes_within (holders.Type t) n = t < n

-- the defined type that states a rule is marked
abbrev pub notes_holder : RuleHolder → List Bool → List Bool
notes_holder (holders.Entity i) stated = stated
notes_holder (holders.Type t) stated = set stated t true

-- The marks are on the defined types that state one of the rules.
abbrev pub AreStated : List DomainRule → List Bool → Type 0
AreStated rules stated = (t : ℕ) → (get_or stated t false ≡ true) ↔ States rules t

-- The marks are on the defined types that state one of the rules, and on those that are defined by one of them.
abbrev pub IsUnion : Schema → List DomainRule → List Bool → Type 0
IsUnion s rules union =
    (i : ℕ) → HasNumber s (name_at s i) i
    → (is_wanted union i ≡ true) ↔ ((t : ℕ) × States rules t × IsDefinedBy s i t)
