-- What the source of an attribute has to be, with the tables' numbers in place of names.
use Rattle.std.specs.Prelude.{ℕ, List, Option}
use Rattle.std.specs.Option.{option_map}
use Rattle.express_syntax.specs.ExpressionViews.{capitals}
use Rattle.express_syntax.specs.Schemas.{Schema}
use Rattle.schema_semantics.specs.Names.{Name}
use Rattle.schema_names.specs.Numbers.{HasNumber}
use Rattle.schema_names.specs.Schemas.{the_schema}
use Rattle.schema_types.specs.declared.types.ResolvedTypes.{ResolvedTypes}
use Rattle.schema_underlying_types.specs.BaseViews.{name_at}
use Rattle.conformance.specs.Rules.{InverseAttribute}
use Rattle.conformance.specs.Attributes.{IsSource, IsNamed, IsInGroup}
use Rattle.schema_constraints.specs.declared.inverses.InverseAttribute.{InverseAttribute as InverseRow}
use Rattle.schema_attribute_sources.specs.declared.derivations.Asked.{Asked}
use Rattle.schema_attribute_sources.specs.declared.source.Source.{Source}
use Rattle.schema_attribute_sources.specs.SourceViews.{types_seen, inverses_seen, source_seen, IsNumberedSource}
use Rattle.schema_attribute_sources.specs.StoredAttributes.{IsStoredAt}

-- i is the number of a type or of an entity.
abbrev pub IsTypeNumber : Schema → ℕ → Type 0
IsTypeNumber s i = HasNumber s (name_at s i) i

-- x is the source of the asked attribute in instances of these types.
abbrev pub IsAskedSource : Schema → List InverseAttribute → List ℕ → Asked → Source → Type 0
IsAskedSource s inverses types asked x =
    IsSource s inverses (types_seen s types) (name_at s asked.entity) (capitals asked.name) (source_seen s inverses x)

-- x is the source of the asked attribute, which no type derives.
abbrev pub IsStoredSource : ResolvedTypes → List InverseRow → Asked → Source → Type 0
IsStoredSource types rows asked x =
    let s = the_schema types.names in
    let all = inverses_seen s rows in
    IsStoredAt s all (name_at s asked.entity) (capitals asked.name) (source_seen s all x)

-- o is the source of the attribute a in instances with these numbers of types, if one of these
-- declares it.
abbrev pub IsSourceByName : ResolvedTypes → List InverseRow → List ℕ → Name → Option Source → Type 0
IsSourceByName types rows numbers a o =
    let s = the_schema types.names in
    let all = inverses_seen s rows in
    IsNamed s all (types_seen s numbers) a (option_map (source_seen s all) o)

-- x is the source of the attribute to which \p.a refers in instances with these numbers of types.
abbrev pub IsSourceByGroup : ResolvedTypes → List InverseRow → List ℕ → Name → Name → Source → Type 0
IsSourceByGroup types rows numbers p a x =
    let s = the_schema types.names in
    let all = inverses_seen s rows in
    IsInGroup s all (types_seen s numbers) p a (source_seen s all x)

-- The numbers in a source are those of the schema and of these inverse attributes.
abbrev pub IsKnownSource : ResolvedTypes → List InverseRow → Source → Type 0
IsKnownSource types rows x =
    let s = the_schema types.names in
    IsNumberedSource s (inverses_seen s rows) x
