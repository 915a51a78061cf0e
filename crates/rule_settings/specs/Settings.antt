-- What expressions can look up, by the tables of the program.
use Rattle.std.specs.Prelude.{◌≡◌, ℕ, Bool, List, Option, Some, None}
use Rattle.step_literals.specs.declared.literal.items.Item.{Item}
use Rattle.express_syntax.specs.Schemas.{Schema}
use Rattle.schema_semantics.specs.Names.{Name}
use Rattle.schema_semantics.specs.Attributes.{Derivation}
use Rattle.schema_names.specs.Numbers.{HasNumber}
use Rattle.schema_names.specs.Schemas.{the_schema}
use Rattle.schema_underlying_types.specs.BaseViews.{name_at}
use Rattle.conformance.specs.Populations.{Instance}
use Rattle.conformance.specs.Conforming.{PopulationConforms}
use Rattle.conformance.specs.Rules.{InverseAttribute}
use Rattle.typed_populations.specs.PopulationViews.{population_seen}
use Rattle.express_logic.specs.Data.{Datum, indeterminate}
use Rattle.conformance.specs.SchemaMeanings.{Said}
use Rattle.conformance.specs.Expressions as expressions
use Rattle.conformance.specs.Meanings.{setting, below}
use Rattle.schema_attribute_sources.specs.declared.source.Derivation.{Derivation as NumberedDerivation}
use Rattle.schema_attribute_sources.specs.SourceViews.{inverses_seen, derivation_seen}
use Rattle.schema_attribute_sources.specs.Tables.{AreResolvedSources}
use Rattle.rule_sources.specs.Sources.{AreFormSources}
use Rattle.schema_derived_attributes.specs.Formulas.{AreFormulasOf}
use Rattle.rule_names.specs.Tables.{AreSettingTables}
use Rattle.rule_settings.specs.declared.setting.Setting.{Setting}
use Rattle.rule_settings.specs.declared.attributes.Found.{Found}
use Rattle.rule_settings.specs.declared.attributes.Found.TheVariants as found

abbrev pub schema_in : Setting → Schema
schema_in S = the_schema S.extents.now.population.now.types.now.names

abbrev pub population_in : Setting → List Instance
population_in S = population_seen S.extents.now.population.now

abbrev pub inverses_in : Setting → List InverseAttribute
inverses_in S = inverses_seen (schema_in S) S.extents.now.rules.now.inverses.items

abbrev pub derivation_in : Setting → NumberedDerivation → Derivation
derivation_in S e = derivation_seen (schema_in S) e

-- The tables are those of the schema of the population.
pub record IsSetting (S : Setting) : Type 0 where
  pub known : AreResolvedSources S.extents.now.population.now.types.now S.tables.now.sources S.extents.now.rules.now.inverses.items
  pub tables : AreSettingTables S.extents.now.population.now.types.now S.tables.now
  pub forms : AreFormSources (schema_in S) (inverses_in S) S.extents.now.population.now.rows.forms.items S.forms.now
  pub formulas : AreFormulasOf (schema_in S) S.formulas.now

-- The meaning of the schema, whose inverse attributes are those of the tables. The population conforms to the schema.
pub record Meant (S : Setting) : Type 0 where
  pub said : Said (schema_in S)
  pub inverses_are : said.rules.inverses ≡ inverses_in S
  pub conforms : PopulationConforms (schema_in S) said.domain said.entities (population_in S)

-- the value that a look-up gives: the one that is stored, or that of a derived attribute, which `computed` gives
abbrev pub worth_of : Setting → (Derivation → Datum) → Datum → Found → Option Datum
worth_of S computed d found.Missing = None
worth_of S computed d found.Value = Some d
worth_of S computed d (found.Derived e) = Some (computed (derivation_in S e))

abbrev pub or_nothing : Option Datum → Datum
or_nothing None = indeterminate
or_nothing (Some d) = d

-- a derived attribute that is found belongs to a declaration with the name at its number
abbrev pub IsFound : Setting → Found → Type 0
IsFound S (found.Derived e) = HasNumber (schema_in S) (name_at (schema_in S) e.entity) e.entity
IsFound S x = Unit {0}

module _ (S : Setting) (m : Meant S) where
  -- what an expression can look up, if `computed` gives the values of derived attributes
  abbrev pub setting_by : (ℕ → Derivation → Datum) → expressions.Setting
  setting_by computed = setting (schema_in S) m.said.domain m.said.entities m.said.attributes (population_in S) computed

  abbrev pub attribute_by : (ℕ → Derivation → Datum) → ℕ → Name → Option Datum
  attribute_by computed y a = (setting_by computed).attribute y a

  abbrev pub group_by : (ℕ → Derivation → Datum) → ℕ → Name → Name → Datum
  group_by computed y e a = (setting_by computed).attribute_of y e a

  -- derived attributes without values, for what doesn't depend on them
  abbrev nothing : ℕ → Derivation → Datum
  nothing y e = indeterminate

  abbrev pub has_type_in : ℕ → List Item → Bool
  has_type_in y text = (setting_by nothing).has_type y text

  abbrev pub is_defined_in : Name → List Item → Bool
  is_defined_in n text = (setting_by nothing).is_defined_by n text

  abbrev pub is_item_in : Name → Bool
  is_item_in n = (setting_by nothing).is_item n

  abbrev pub is_item_of_in : Name → Name → Bool
  is_item_of_in t n = (setting_by nothing).is_item_of t n

  -- the values of derived attributes of ranks below n
  abbrev pub below_rank : ℕ → ℕ → Derivation → Datum
  below_rank n = below (schema_in S) m.said.domain m.said.entities m.said.attributes (population_in S) n
