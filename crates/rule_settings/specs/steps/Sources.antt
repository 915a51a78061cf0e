-- The values of attributes of an instance, by the sources in the tables.
use Rattle.std.specs.Prelude.{ℕ, List, Option}
use Rattle.schema_semantics.specs.Attributes.{Derivation}
use Rattle.population_rows.specs.Index.{found}
use Rattle.population_rows.specs.declared.form.SlotForm.{SlotForm}
use Rattle.population_rows.specs.steps.Rows.{form_at}
use Rattle.schema_constraints.specs.RuleViews.{place_at}
use Rattle.conformance.specs.Populations.{instance_at, value_of}
use Rattle.typed_populations.specs.PopulationTables.{slots_by_form}
use Rattle.express_logic.specs.Data.{Datum}
use Rattle.conformance.specs.Values.{datum_at, first_declared}
use Rattle.schema_attribute_sources.specs.declared.source.Source.{Source}
use Rattle.schema_attribute_sources.specs.SourceViews.{source_seen}
use Rattle.rule_settings.specs.declared.attributes.Found.{Found}
use Rattle.rule_settings.specs.declared.setting.Setting.{Setting}
use Rattle.rule_settings.specs.Settings.{Meant, schema_in, population_in, inverses_in, worth_of}
use Rattle.rule_settings.specs.steps.Worth.{IsWorth}

-- the row of an instance
abbrev pub row_in : Setting → ℕ → Option ℕ
row_in S y = found S.extents.now.population.now.rows.index y

-- the explicit attributes of the instance of a row
abbrev pub slots_in : Setting → ℕ → List SlotForm
slots_in S row = slots_by_form (form_at S.extents.now.population.now.rows row)

module _ (S : Setting) (m : Meant S) where
  -- the value of an instance for the explicit attribute numbered q, by the declaration of the attribute
  abbrev pub explicit_worth : ℕ → ℕ → Datum
  explicit_worth y q =
      datum_at (schema_in S) m.said.domain (first_declared (schema_in S) m.said.domain m.said.entities (place_at (schema_in S) q))
      (value_of (population_in S) y (place_at (schema_in S) q))

  -- the result of looking up the source x for the instance y, with the value d stored
  abbrev pub IsFoundAt : (ℕ → Derivation → Datum) → ℕ → Source → Datum → Found → Type 0
  IsFoundAt computed y x d found =
      IsWorth (schema_in S) m.said.domain m.said.entities m.said.attributes (population_in S) computed
      (instance_at (population_in S) y) (source_seen (schema_in S) (inverses_in S) x) (worth_of S (computed y) d found)
