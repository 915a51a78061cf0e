-- Laws of known data types, for every schema.
use Rattle.std.specs.Prelude.{◌≡◌}
use Rattle.express_syntax.specs.Schemas.{Schema, type, entity, TypeDeclaration, Entity, Inverse, own}
use Rattle.express_syntax.specs.Profile.{Every}
use Rattle.schema_semantics.specs.Names.{Name, Among, listed}
use Rattle.schema_semantics.specs.Faults.{IsResolved}
use Rattle.schema_semantics.specs.Attributes.{collected}
use Rattle.schema_data_types.specs.NumberedTypes.{whole_underlying, explicit_types, derived_types}
use Rattle.schema_data_types.specs.ShapeTables.{IsKnown}

-- The data type of an inverse attribute is known, unless the attribute is redeclared.
abbrev pub IsKnownInverse : Schema → Inverse → Type 0
IsKnownInverse s i = (n : Name) → i.attribute ≡ own n → IsKnown s (collected i.collection i.entity)

abbrev pub AreKnownOf : Schema → Entity → Type 0
AreKnownOf s e =
    Every (IsKnown s) (explicit_types e.explicits) × Every (IsKnown s) (derived_types (listed e.derived))
    × Every (IsKnownInverse s) (listed e.inverses)

-- The data types of a resolved schema are known, except those of redeclared inverse attributes.
abbrev pub DataTypesAreKnown : Type 0
DataTypesAreKnown =
    (s : Schema) → IsResolved s
    → ((t : TypeDeclaration) → Among (type t) s.declarations → Every (IsKnown s) (whole_underlying t.underlying))
    × ((e : Entity) → Among (entity e) s.declarations → AreKnownOf s e)
