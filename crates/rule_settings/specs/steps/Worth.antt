-- The values of attributes of an instance, by the sources in the schema.
use Rattle.std.specs.Prelude.{◌≡◌, ℕ, List, Option, None, Some}
use Rattle.express_syntax.specs.Schemas.{Schema}
use Rattle.schema_semantics.specs.Attributes.{Derivation}
use Rattle.conformance.specs.Bases.{Domain}
use Rattle.conformance.specs.Entities.{Entities}
use Rattle.conformance.specs.Populations.{Instance}
use Rattle.conformance.specs.Rules.{InverseAttribute}
use Rattle.conformance.specs.Referrers.{inverse_value}
use Rattle.express_logic.specs.Data.{Datum, indeterminate}
use Rattle.conformance.specs.Attributes.{Source, unclear, Attributes}
use Rattle.conformance.specs.Meanings.{referring, value_from}

-- the value of an inverse attribute; indeterminate if there is no such attribute
abbrev pub inverse_worth : List Instance → ℕ → Option InverseAttribute → Datum
inverse_worth is y None = indeterminate
inverse_worth is y (Some i) = referring i.gathering (inverse_value is i y)

module _ (s : Schema) (d : Domain) (en : Entities) (attributes : Attributes) (is : List Instance) where
  -- w is the value of an instance in the source x. Without an instance, w is only required to be indeterminate if the
  -- source is unclear.
  abbrev pub IsWorth : (ℕ → Derivation → Datum) → Option Instance → Source → Option Datum → Type 0
  IsWorth computed None x w = x ≡ unclear → w ≡ Some indeterminate
  IsWorth computed (Some i) x w = w ≡ Some (value_from s d en attributes is computed i x)
