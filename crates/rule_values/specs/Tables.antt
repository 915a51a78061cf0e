-- The tables of the data types of a schema.
use Rattle.std.specs.Prelude.{◌≡◌, ℕ}
use Rattle.express_syntax.specs.Schemas.{Schema}
use Rattle.schema_semantics.specs.Names.{Name}
use Rattle.schema_names.specs.Numbers.{HasNumber}
use Rattle.conformance.specs.Bases.{Domain, IsDomain, base}
use Rattle.schema_underlying_types.specs.BaseViews.{type_at, base_seen}
use Rattle.schema_underlying_types.specs.Tables.{NamesKnownType, IsNumberedBase}
use Rattle.rule_values.specs.declared.types.ValueTypes.{ValueTypes}
use Rattle.rule_values.specs.TableValues.{number_base, named_base}

-- The tables agree with the functions that give the schema its meaning, by number and by name.
pub record AreValueTypes (s : Schema) (t : ValueTypes) : Type 0 where
  pub by_number : (d : Domain) → IsDomain s d → (i : ℕ) → NamesKnownType s (type_at s i)
      → base_seen s (number_base t i) ≡ base d (type_at s i)
  pub by_name : (d : Domain) → IsDomain s d → (n : Name) (i : ℕ) → HasNumber s n i
      → base_seen s (named_base t n) ≡ d.of_name n
  pub numbered : (i : ℕ) → IsNumberedBase s (number_base t i)
  pub named : (n : Name) → IsNumberedBase s (named_base t n)
