-- The requirements of an entity, by its clauses.
use Rattle.std.specs.Prelude.{List, [], ◌∷◌, ◌++◌, map, flat_map}
use Rattle.express_syntax.specs.Schemas.{Entity, Inverse}
use Rattle.schema_semantics.specs.Names.{listed, supertypes_of}
use Rattle.schema_semantics.specs.Faults.{Demand, an_entity, inverted, demands_of_holder, holder_of, demands_of_explicit, demands_of_derived, demands_of_inverse}

-- The entity that qualifies the name of the inverted attribute, if any, and that attribute.
abbrev pub demands_of_inverted : Inverse → List Demand
demands_of_inverted i = demands_of_holder i.holder ++ inverted (holder_of i.holder i.entity) i.inverted ∷ []

abbrev pub demands_of_own_inverse : Inverse → List Demand
demands_of_own_inverse i = demands_of_inverse i.attribute i

abbrev pub of_subtype_clause : Entity → List Demand
of_subtype_clause e = map an_entity (supertypes_of e)

abbrev pub of_explicit_clauses : Entity → List Demand
of_explicit_clauses e = flat_map (demands_of_explicit (supertypes_of e)) e.explicits

abbrev pub of_derive_clause : Entity → List Demand
of_derive_clause e = flat_map (demands_of_derived (supertypes_of e)) (listed e.derived)

abbrev pub of_inverse_clause : Entity → List Demand
of_inverse_clause e = flat_map demands_of_own_inverse (listed e.inverses)
