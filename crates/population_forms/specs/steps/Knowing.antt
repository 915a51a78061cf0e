-- The tables about the entities of a schema, by number.
use Rattle.std.specs.Prelude.{◌≡◌, List, [], length, map, filter_map}
use Rattle.graphs.specs.Graphs.{Graph, graph_of}
use Rattle.express_syntax.specs.Schemas.{Schema, Declaration, type, entity, skipped}
use Rattle.schema_semantics.specs.Names.{Name}
use Rattle.schema_semantics.specs.Faults.{IsResolved}
use Rattle.schema_explicit_attributes.specs.Supertypes.{AreAbove}
use Rattle.schema_names.specs.Numbers.{number_of}
use Rattle.schema_names.specs.Schemas.{the_schema}
use Rattle.schema_explicit_attributes.specs.Places.{places_of, all_places, ArePlaceRows, HavePlaces}
use Rattle.schema_redeclarations.specs.Uses.{AreUses}
use Rattle.conformance.specs.Entities.{one_of_in, one_ofs}
use Rattle.population_forms.specs.declared.knowledge.Knowledge.{Knowledge}

-- the operands of the ONEOF of a declaration, if it has one
abbrev pub one_ofs_in : Declaration → List (List Name)
one_ofs_in (type t) = []
one_ofs_in (entity e) = one_of_in e.supertype
one_ofs_in (skipped p) = []

-- each row has the numbers of the operands of a ONEOF; operands that aren't declared are left out
abbrev pub AreOperands : Schema → Graph → Type 0
AreOperands s rows = rows ≡ map (filter_map (number_of s)) (one_ofs s)

-- The names are resolved, and the tables are those of their schema.
pub record AreKnown (k : Knowledge) : Type 0 where
  pub resolved : IsResolved (the_schema k.names.now)
  pub above : AreAbove (the_schema k.names.now) (graph_of k.above.now)
  pub above_each : length k.above.now ≡ length (the_schema k.names.now).declarations
  pub attributes : places_of k.attributes.now ≡ all_places (the_schema k.names.now)
  pub places : HavePlaces (the_schema k.names.now) (graph_of k.places.now)
  pub places_each : length k.places.now ≡ length (the_schema k.names.now).declarations
  pub own : ArePlaceRows (all_places (the_schema k.names.now)) (the_schema k.names.now).declarations (graph_of k.own.now)
  pub uses : AreUses (the_schema k.names.now) k.uses.now
  pub one_ofs : AreOperands (the_schema k.names.now) (graph_of k.one_ofs.now)
