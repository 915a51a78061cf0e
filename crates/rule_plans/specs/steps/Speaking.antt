-- What is found in the values of an instance.
use Rattle.std.specs.Prelude.{◌≡◌, ℕ, Bool, true, false, List, [], map}
use Rattle.graphs.specs.Graphs.{has}
use Rattle.schema_semantics.specs.Names.{Name}
use Rattle.conformance.specs.Populations.{Instance}
use Rattle.express_logic.specs.Data.{Datum}
use Rattle.conformance.specs.DomainRules.{of_type}
use Rattle.conformance.specs.DomainFindings.{selves}
use Rattle.rule_settings.specs.declared.setting.Setting.{Setting}
use Rattle.rule_settings.specs.Settings.{Meant, schema_in}
use Rattle.rule_plans.specs.steps.Coded.{Told}
use Rattle.rule_plans.specs.steps.Seeking.{Agrees, Covers, Tells, those, worth}

module _ (S : Setting) (m : Meant S) where
  -- the type n is the defined type t, or is defined by it
  abbrev pub is_of : Name → Name → Bool
  is_of t n = m.said.attributes.is_defined_by n t

  -- the values of SELF for which a rule of a defined type is tried
  abbrev pub values_of : Instance → Name → List Datum
  values_of x t = selves (schema_in S) m.said.domain m.said.entities m.said.attributes x (of_type t)

  -- The values are those of the wanted types at an instance.
  pub record AreFound (x : Instance) (wanted : List Bool) (ts : List Told) : Type 0 where
    pub exactly : (t : Name) → Tells (schema_in S) wanted (is_of t) → map worth ts ≡ values_of x t
    pub those_of : (t : Name) (p : ℕ → Bool) → Agrees (schema_in S) p (is_of t) → Covers (schema_in S) wanted (is_of t)
        → those p ts ≡ values_of x t

  -- The types are those of the wanted values at an instance: if a test passes exactly a defined type and those that
  -- are defined by it, and none of these types passes it, then there is no value of that type.
  abbrev pub TypesTell : Instance → List Bool → List ℕ → Type 0
  TypesTell x wanted types =
      (t : Name) (p : ℕ → Bool) → Agrees (schema_in S) p (is_of t) → Covers (schema_in S) wanted (is_of t)
      → ((i : ℕ) → has types i ≡ true → p i ≡ false) → values_of x t ≡ []
