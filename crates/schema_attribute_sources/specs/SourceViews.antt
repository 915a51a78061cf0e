-- The meaning of a source, with names in place of numbers.
use Rattle.std.specs.Prelude.{ℕ, ◌<◌, List, length, Option, None, Some, map, slice_get}
use Rattle.express_syntax.specs.Schemas.{Schema, Derived}
use Rattle.express_syntax.specs.Profile.{Every}
use Rattle.schema_semantics.specs.Names.{Name}
use Rattle.schema_semantics.specs.Attributes as attributes
use Rattle.schema_semantics.specs.Attributes.{IsDerivation}
use Rattle.schema_names.specs.Numbers.{HasNumber}
use Rattle.schema_explicit_attributes.specs.Places.{all_places}
use Rattle.schema_underlying_types.specs.BaseViews.{name_at}
use Rattle.conformance.specs.Rules.{InverseAttribute}
use Rattle.schema_constraints.specs.RuleViews.{place_at, inverse_seen}
use Rattle.schema_constraints.specs.declared.inverses.InverseAttribute.{InverseAttribute as InverseRow}
use Rattle.conformance.specs.Attributes as meanings
use Rattle.schema_attribute_sources.specs.declared.source.Derivation.{Derivation}
use Rattle.schema_attribute_sources.specs.declared.source.Source.{Source}
use Rattle.schema_attribute_sources.specs.declared.source.Source.TheVariants as sources

-- The names of the types of an instance.
abbrev pub types_seen : Schema → List ℕ → List Name
types_seen s numbers = map (name_at s) numbers

-- The numbers are those of types or entities.
abbrev pub AreTypes : Schema → List ℕ → Type 0
AreTypes s numbers = Every (λ (i : ℕ). HasNumber s (name_at s i) i) numbers

-- The inverse attributes, with names in place of numbers.
abbrev pub inverses_seen : Schema → List InverseRow → List InverseAttribute
inverses_seen s rows = map (inverse_seen s) rows

abbrev pub derivation_seen : Schema → Derivation → attributes.Derivation
derivation_seen s d = (name_at s d.entity, d.number)

abbrev pub or_unclear : Option InverseAttribute → meanings.Source
or_unclear None = meanings.unclear
or_unclear (Some i) = meanings.inverse i

abbrev pub source_seen : Schema → List InverseAttribute → Source → meanings.Source
source_seen s inverses (sources.Explicit q) = meanings.explicit (place_at s q)
source_seen s inverses (sources.Derived d) = meanings.derived (derivation_seen s d)
source_seen s inverses (sources.Inverse i) = or_unclear (slice_get inverses i)
source_seen s inverses sources.Unclear = meanings.unclear

-- The numbers in a source are those of an explicit attribute, of a derived attribute of an entity,
-- or of an inverse attribute.
abbrev pub IsNumberedSource : Schema → List InverseAttribute → Source → Type 0
IsNumberedSource s inverses (sources.Explicit q) = q < length (all_places s)
IsNumberedSource s inverses (sources.Derived d) =
    HasNumber s (name_at s d.entity) d.entity × (x : Derived) × IsDerivation s (derivation_seen s d) x
IsNumberedSource s inverses (sources.Inverse i) = i < length inverses
IsNumberedSource s inverses sources.Unclear = Unit {0}
