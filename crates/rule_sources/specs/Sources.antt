-- Where instances of a form have the values of their attributes.
use Rattle.std.specs.Prelude.{◌≡◌, ℕ, List, map, Option, None, Some}
use Rattle.std.specs.List.{AllZip}
use Rattle.express_syntax.specs.ExpressionViews.{capitals}
use Rattle.express_syntax.specs.Schemas.{Schema}
use Rattle.express_syntax.specs.Profile.{Every}
use Rattle.schema_semantics.specs.Names.{Name}
use Rattle.population_rows.specs.declared.form.SlotForm.{SlotForm}
use Rattle.population_rows.specs.declared.form.Form.{Form}
use Rattle.conformance.specs.Rules.{InverseAttribute}
use Rattle.conformance.specs.Attributes.{Attributes, AreAttributes}
use Rattle.typed_populations.specs.ValueOrder.{position_among}
use Rattle.typed_populations.specs.PopulationTables.{slots_by_form, types_by_form}
use Rattle.schema_attribute_sources.specs.declared.source.Source.{Source}
use Rattle.schema_attribute_sources.specs.declared.source.Source.TheVariants as sources
use Rattle.schema_attribute_sources.specs.SourceViews.{types_seen, source_seen, IsNumberedSource}
use Rattle.rule_sources.specs.declared.sources.FormSource.{FormSource}
use Rattle.rule_sources.specs.declared.sources.FormSource.TheVariants as at
use Rattle.rule_sources.specs.declared.sources.NamedSource.{NamedSource}
use Rattle.rule_sources.specs.declared.sources.FormSources.{FormSources}

-- The source x is where instances of these types have the value of their attribute called a.
pub record IsSourceOf (s : Schema) (inverses : List InverseAttribute) (types : List ℕ) (a : Name) (x : Source) : Type 0 where
  pub value : (attributes : Attributes) → AreAttributes s inverses attributes
      → Some (source_seen s inverses x) ≡ attributes.source (types_seen s types) a
  pub numbered : IsNumberedSource s inverses x

-- the source, without the position of the value
abbrev pub source_in : FormSource → Source
source_in (at.Explicit place position) = sources.Explicit place
source_in (at.Other x) = x

-- the explicit attribute numbered place, with its position, if any
abbrev pub explicit_at : ℕ → Option ℕ → FormSource
explicit_at place None = at.Other (sources.Explicit place)
explicit_at place (Some position) = at.Explicit place position

-- where instances with these explicit attributes have the value of a source
abbrev pub form_source : List SlotForm → Source → FormSource
form_source slots (sources.Explicit place) = explicit_at place (position_among slots place)
form_source slots x = at.Other x

-- The source x is where instances of this form have the value of their attribute called a.
pub record IsFormSource (s : Schema) (inverses : List InverseAttribute) (form : Option Form) (a : Name) (x : FormSource) : Type 0 where
  pub source : IsSourceOf s inverses (types_by_form form) a (source_in x)
  pub position : x ≡ form_source (slots_by_form form) (source_in x)

-- the source is that of the attribute with the name next to it
abbrev pub IsNamedSource : Schema → List InverseAttribute → Form → NamedSource → Type 0
IsNamedSource s inverses form e = IsFormSource s inverses (Some form) (capitals e.name) e.source

abbrev pub AreNamedSources : Schema → List InverseAttribute → Form → List NamedSource → Type 0
AreNamedSources s inverses form es = Every (IsNamedSource s inverses form) es

-- Each row is that of its form.
abbrev pub AreFormSources : Schema → List InverseAttribute → List Form → FormSources → Type 0
AreFormSources s inverses forms t = AllZip (AreNamedSources s inverses) forms (map (λ v. v.items) t.rows.items)
