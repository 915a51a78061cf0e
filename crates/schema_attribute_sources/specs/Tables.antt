-- The tables of a schema.
use Rattle.std.specs.Prelude.{◌≡◌, ℕ, List, length, Option, None}
use Rattle.graphs.specs.Graphs.{graph_of}
use Rattle.express_syntax.specs.Schemas.{Schema}
use Rattle.schema_semantics.specs.Names.{Name}
use Rattle.schema_names.specs.Schemas.{the_schema}
use Rattle.schema_explicit_attributes.specs.SupertypeLines.{HaveLines}
use Rattle.schema_types.specs.declared.types.ResolvedTypes.{ResolvedTypes}
use Rattle.schema_types.specs.TypeTables.{IsMade}
use Rattle.schema_constraints.specs.declared.inverses.InverseAttribute.{InverseAttribute as InverseRow}
use Rattle.schema_attribute_sources.specs.declared.sources.AttributeSources.{AttributeSources}
use Rattle.schema_attribute_sources.specs.steps.Deriving.{derives}
use Rattle.schema_attribute_sources.specs.steps.Lowest.{leads, lowest_from}
use Rattle.schema_attribute_sources.specs.StoredAttributes.{AreInverses}

-- The table has the supertype chains of the entities of the schema.
pub record AreSources (s : Schema) (t : AttributeSources) : Type 0 where
  pub lines : HaveLines s (graph_of t.lines.items)
  pub each : length t.lines.items ≡ length s.declarations

-- The types are those of a schema whose names are resolved, and the tables and the inverse
-- attributes belong to it.
pub record AreResolvedSources (types : ResolvedTypes) (t : AttributeSources) (rows : List InverseRow) : Type 0 where
  pub made : IsMade types
  pub sources : AreSources (the_schema types.names) t
  pub inverses : AreInverses (the_schema types.names) rows

-- o is the lowest type that is found, among the types that derive the attribute a of the entity p.
abbrev pub IsLowestFound : ResolvedTypes → AttributeSources → Name → ℕ → List ℕ → Option ℕ → Type 0
IsLowestFound types t a p numbers o =
    lowest_from (derives (the_schema types.names) (graph_of t.lines.items) a p) (leads (graph_of types.above.items))
    None numbers ≡ o
