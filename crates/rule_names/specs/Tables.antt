-- The tables by which expressions are evaluated.
use Rattle.std.specs.Prelude.{◌≡◌, ℕ, List, Some, map, slice_get}
use Rattle.express_syntax.specs.Schemas.{Schema}
use Rattle.schema_semantics.specs.Attributes.{Place}
use Rattle.schema_names.specs.Schemas.{the_schema}
use Rattle.schema_data_types.specs.NumberedTypes.{form_in, all_data_types}
use Rattle.conformance.specs.Bases.{Domain, IsDomain}
use Rattle.conformance.specs.Entities.{Entities, AreEntities}
use Rattle.schema_underlying_types.specs.declared.base.Base.{Base}
use Rattle.schema_underlying_types.specs.BaseViews.{base_seen}
use Rattle.schema_underlying_types.specs.Tables.{IsNumberedBase}
use Rattle.schema_redeclarations.specs.Uses.{HasPlace, AreUses}
use Rattle.schema_data_types.specs.Items.{AreItems}
use Rattle.schema_types.specs.declared.types.ResolvedTypes.{ResolvedTypes}
use Rattle.conformance.specs.Values.{first_declared}
use Rattle.rule_values.specs.Tables.{AreValueTypes}
use Rattle.schema_attribute_sources.specs.Tables.{AreSources}
use Rattle.rule_names.specs.declared.tables.SettingTables.{SettingTables}

-- The entity that declares the attribute p declares it with the underlying type b.
pub record IsDeclaredAs (s : Schema) (p : Place) (b : Base) : Type 0 where
  pub says : (d : Domain) (en : Entities) → IsDomain s d → AreEntities s en
      → base_seen s b ≡ first_declared s d en p
  pub numbered : IsNumberedBase s b

-- The list has the underlying types with which explicit attributes are declared, by number.
abbrev pub AreDeclared : Schema → List Base → Type 0
AreDeclared s bases =
    (p : Place) (q : ℕ) → HasPlace s p q → (b : Base) × (slice_get bases q ≡ Some b) × IsDeclaredAs s p b

-- The tables are those of the schema with these resolved types.
pub record AreSettingTables (x : ResolvedTypes) (t : SettingTables) : Type 0 where
  pub value_types : AreValueTypes (the_schema x.names) t.value_types
  pub sources : AreSources (the_schema x.names) t.sources
  pub declared : AreDeclared (the_schema x.names) t.declared.items
  pub uses : AreUses (the_schema x.names) t.uses.now
  pub forms : t.data_types.forms.items ≡ map (form_in (the_schema x.names)) (all_data_types (the_schema x.names))
  pub items : AreItems (the_schema x.names) t.items
