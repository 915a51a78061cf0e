-- The layout of an instance according to a schema (ISO 10303-21, 11.2.5).
use Rattle.std.specs.Prelude.{◌≡◌, map, bytes_eq, ◌↔◌}
use Rattle.std.specs.List.{IsDistinct, filter}
use Rattle.step_structures.specs.Trees.{ExchangeRow}
use Rattle.express_syntax.specs.Schemas.{Schema}
use Rattle.schema_semantics.specs.Names.{Name, Among, DeclaresExplicit}
use Rattle.conformance.specs.ParameterFits.{entity_names, is_listed}
use Rattle.conformance.specs.Entities.{records, named_entity}
use Rattle.conformance.specs.Populations.{Slot, Instance}
use Rattle.conformance.specs.MeaningImages.{HasPlacesOnce}

-- The types of the instance are entities of the schema, in the order of the text. It has one value
-- for each explicit attribute that one of its types declares, and no other value.
pub record IsLaidOut (s : Schema) (i : Instance) : Type 0 where
  pub types : i.types ≡ filter (λ e. is_listed e i.types) (entity_names s)
  pub attributes : (e a : Name)
      → Among (e, a) (map (λ (x : Slot). x.place) i.slots) ↔ (Among e i.types × DeclaresExplicit s e a)
  pub once : HasPlacesOnce i

-- no keyword occurs twice in an instance of a file
abbrev pub HasKeywordsOnce : ExchangeRow → Type 0
HasKeywordsOnce r = IsDistinct bytes_eq (map named_entity (records r.form))
