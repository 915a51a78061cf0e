-- What the types of an instance's values tell of all rules.
use Rattle.std.specs.Prelude.{◌≡◌, ℕ, Bool, true, false, ◌||◌, List, [], ◌∷◌}
use Rattle.std.specs.List.{list_any}
use Rattle.std.proofs.Common.{refl, inl, inr}
use Rattle.schema_names.specs.Numbers.{HasNumber}
use Rattle.schema_underlying_types.specs.BaseViews.{name_at}
use Rattle.conformance.specs.Populations.{Instance}
use Rattle.population_forms.proofs.Naming.{same-test}
use Rattle.schema_domain_rules.specs.declared.rule.RuleHolder.{RuleHolder}
use Rattle.schema_domain_rules.specs.declared.rule.RuleHolder.TheVariants as holders
use Rattle.schema_domain_rules.specs.declared.rule.DomainRule.{DomainRule}
use Rattle.rule_settings.specs.declared.setting.Setting.{Setting}
use Rattle.rule_settings.specs.Settings.{Meant, schema_in}
use Rattle.graphs.specs.declared.forest.Forest.{Forest}
use Rattle.graphs.specs.steps.Telling.{is_under}
use Rattle.rule_plans.specs.steps.Seeking.{Agrees, Covers}
use Rattle.rule_plans.specs.steps.Speaking.{is_of, TypesTell}
use Rattle.rule_plans.specs.steps.Renamings.{TellsTypes}
use Rattle.rule_plans.specs.steps.Wanted.{is_type, is_type_rule, States, IsUnion}
use Rattle.rule_plans.specs.steps.Planning.{Tell, TellAll}

module _ (S : Setting) (m : Meant S) where
  -- a forest tells the types for whose values a rule is tried
  pub forest-tells : (t : ℕ) (f : Forest) → TellsTypes (schema_in S) f → HasNumber (schema_in S) (name_at (schema_in S) t) t
      → Agrees (schema_in S) (λ i. is_under f i t) (is_of S m (name_at (schema_in S) t))
  forest-tells t f h k i numbered =
      let s = schema_in S in
      let named = m.said.are_attributes.names (name_at s i) (name_at s t) in
      let told = h i t numbered k in
      same-test (is_under f i t) (m.said.attributes.is_defined_by (name_at s i) (name_at s t)) (λ e. named.1 (told.0 e))
      (λ e. told.1 (named.0 e))

  -- all types are wanted for whose values a rule is tried
  pub union-covers : (t : ℕ) (rules : List DomainRule) (union : List Bool) → IsUnion (schema_in S) rules union
      → States rules t → Covers (schema_in S) union (is_of S m (name_at (schema_in S) t))
  union-covers t rules union h said i numbered e =
      let s = schema_in S in
      (h i numbered).1 (t, said, (m.said.are_attributes.names (name_at s i) (name_at s t)).0 e)

  module _ (x : Instance) (types : List ℕ) where
    -- no defined type states a rule
    pub tell-none : (rules : List DomainRule) → list_any is_type_rule rules ≡ false → TellAll S m x types rules
    tell-none [] h = tt
    tell-none (r ∷ rules) h = by r.holder h (tell-none rules)
      where
        by : (k : RuleHolder) → (is_type k || list_any is_type_rule rules) ≡ false
            → (list_any is_type_rule rules ≡ false → TellAll S m x types rules)
            → Tell S m x types k × TellAll S m x types rules
        by (holders.Entity i) e more = (tt, more e)
        by (holders.Type t) e more = absurd (cc)

    module _ (union : List Bool) (told : TypesTell S m x union types) where
      pub tell-all : (rules : List DomainRule)
          → ((t : ℕ) → States rules t → Covers (schema_in S) union (is_of S m (name_at (schema_in S) t)))
          → TellAll S m x types rules
      tell-all [] within = tt
      tell-all (r ∷ rules) within =
          (by r.holder (λ t e. within t (inl e)), tell-all rules (λ t said. within t (inr said)))
        where
          by : (k : RuleHolder)
              → ((t : ℕ) → k ≡ holders.Type t → Covers (schema_in S) union (is_of S m (name_at (schema_in S) t)))
              → Tell S m x types k
          by (holders.Entity i) covers = tt
          by (holders.Type n) covers = λ p agrees none. told (name_at (schema_in S) n) p agrees (covers n refl) none
