-- Tables that are built once from rules and forms, and the rules that the types of values rule out.
use Rattle.std.specs.Prelude.{◌≡◌, ⊤, ℕ, Bool, true, false, List, [], map}
use Rattle.std.specs.List.{list_any}
use Rattle.graphs.specs.Graphs.{has}
use Rattle.express_syntax.specs.Profile.{Every}
use Rattle.schema_underlying_types.specs.BaseViews.{name_at}
use Rattle.conformance.specs.Populations.{Instance}
use Rattle.schema_domain_rules.specs.declared.rule.RuleHolder.{RuleHolder}
use Rattle.schema_domain_rules.specs.declared.rule.RuleHolder.TheVariants as holders
use Rattle.schema_domain_rules.specs.declared.rule.DomainRule.{DomainRule}
use Rattle.schema_domain_rules.specs.RuleViews.{IsNumberedRule}
use Rattle.rule_settings.specs.declared.setting.Setting.{Setting}
use Rattle.rule_settings.specs.Settings.{Meant, schema_in}
use Rattle.rule_plans.specs.steps.Seeking.{Agrees}
use Rattle.rule_plans.specs.steps.Speaking.{is_of, values_of}
use Rattle.rule_plans.specs.steps.Unsought.{forms_in, AreTables}
use Rattle.rule_plans.specs.declared.plan.Plan.{Plan}
use Rattle.rule_plans.specs.steps.Applying.{numbers_by}
use Rattle.rule_plans.specs.steps.Renamings.{TellsTypes}
use Rattle.rule_plans.specs.steps.Wanted.{is_type_rule, IsUnion}

-- The plan is that of its rules, for instances of the forms of a population.
pub record IsPlan (S : Setting) (p : Plan) : Type 0 where
  pub numbered : Every (IsNumberedRule (schema_in S)) p.rules.now
  pub rows : map (λ v. v.items) p.rows.items ≡ map (numbers_by p.rules.now 0) (forms_in S)
  pub renamed : TellsTypes (schema_in S) p.renamed
  pub union : IsUnion (schema_in S) p.rules.now p.union.items
  pub seeks : p.seeks ≡ list_any is_type_rule p.rules.now
  pub unsought : p.seeks ≡ true → AreTables S p.union.items p.unsought

module _ (S : Setting) (m : Meant S) (x : Instance) (types : List ℕ) where
  -- If a test passes exactly the defined type that states a rule and those that are defined by it, and none of these
  -- types passes it, then the rule has no value to be tried for.
  abbrev pub Tell : RuleHolder → Type 0
  Tell (holders.Entity i) = ⊤
  Tell (holders.Type t) =
      (p : ℕ → Bool) → Agrees (schema_in S) p (is_of S m (name_at (schema_in S) t))
      → ((i : ℕ) → has types i ≡ true → p i ≡ false) → values_of S m x (name_at (schema_in S) t) ≡ []

  abbrev pub TellAll : List DomainRule → Type 0
  TellAll rules = Every (λ (r : DomainRule). Tell r.holder) rules
