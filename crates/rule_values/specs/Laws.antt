-- The law about values by tables.
use Rattle.std.specs.Prelude.{◌≡◌, ◌⊎◌}
use Rattle.step_values.specs.Leaves.{unset, derived}
use Rattle.step_values.specs.Values.{Value, leaf}
use Rattle.express_syntax.specs.Schemas.{Schema}
use Rattle.schema_semantics.specs.Faults.{IsResolved}
use Rattle.conformance.specs.Bases.{Domain, IsDomain}
use Rattle.schema_underlying_types.specs.declared.base.Base.{Base}
use Rattle.schema_underlying_types.specs.BaseViews.{base_seen}
use Rattle.schema_underlying_types.specs.Tables.{IsNumberedBase}
use Rattle.conformance.specs.Fits.{Typing, Fits}
use Rattle.conformance.specs.Values.{datum}
use Rattle.rule_values.specs.declared.types.ValueTypes.{ValueTypes}
use Rattle.rule_values.specs.TableValues.{coded_datum}
use Rattle.rule_values.specs.Tables.{AreValueTypes}

-- By the tables of a schema, a value that fits a data type, or is unset or derived, has the datum that the schema
-- gives it.
abbrev pub FittingValuesAreWorthTheSame : Type 0
FittingValuesAreWorthTheSame = (s : Schema) (d : Domain) → IsResolved s → IsDomain s d
    → (t : ValueTypes) → AreValueTypes s t → (typing : Typing) (b : Base) → IsNumberedBase s b → (v : Value)
    → ((v ≡ leaf unset) ⊎ (v ≡ leaf derived)) ⊎ Fits s d typing (base_seen s b) v
    → coded_datum t b v ≡ datum s d (base_seen s b) v
