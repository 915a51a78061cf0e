-- The tables of the types of a schema.
use Rattle.std.specs.Prelude.{◌≡◌, length}
use Rattle.graphs.specs.Graphs.{graph_of}
use Rattle.schema_semantics.specs.Faults.{IsResolved}
use Rattle.schema_names.specs.Schemas.{the_schema}
use Rattle.schema_explicit_attributes.specs.Supertypes.{AreAbove}
use Rattle.schema_explicit_attributes.specs.Places.{places_of, all_places, HavePlaces, ArePlaceRows}
use Rattle.schema_types.specs.declared.types.ResolvedTypes.{ResolvedTypes}

-- The names of the schema are resolved, and the tables are those of the schema.
pub record IsMade (t : ResolvedTypes) : Type 0 where
  pub resolved : IsResolved (the_schema t.names)
  pub above : AreAbove (the_schema t.names) (graph_of t.above.items)
  pub above_each : length t.above.items ≡ length t.names.schema.now.declarations.items
  pub attributes : places_of t.places.attributes.items ≡ all_places (the_schema t.names)
  pub places : HavePlaces (the_schema t.names) (graph_of t.places.rows.items)
  pub places_each : length t.places.rows.items ≡ length t.names.schema.now.declarations.items
  pub own : ArePlaceRows (all_places (the_schema t.names)) (the_schema t.names).declarations (graph_of t.places.own.items)
