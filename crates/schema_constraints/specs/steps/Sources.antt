-- The tables from which the rules of a schema are collected.
use Rattle.std.specs.Prelude.{◌≡◌, length}
use Rattle.graphs.specs.Graphs.{graph_of}
use Rattle.schema_explicit_attributes.specs.Places.{places_of, all_places, ArePlaceRows}
use Rattle.schema_explicit_attributes.specs.SupertypeLines.{HaveLines}
use Rattle.schema_attribute_references.specs.steps.Taking.{IsKnown, schema_in}
use Rattle.schema_constraints.specs.declared.sources.Sources.{Sources}

-- The tables are those of the schema.
pub record AreSources (c : Sources) : Type 0 where
  pub known : IsKnown c.known
  pub lines : HaveLines (schema_in c.known) (graph_of c.lines.now)
  pub each : length c.lines.now ≡ length c.known.tables.names.now.schema.now.declarations.items
  pub places : places_of c.places.now ≡ all_places (schema_in c.known)
  pub own : ArePlaceRows (all_places (schema_in c.known)) (schema_in c.known).declarations (graph_of c.own.now)
