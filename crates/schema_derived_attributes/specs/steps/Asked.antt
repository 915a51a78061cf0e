-- Looking up derived attributes by name (ISO 10303-11, 9.2.1.2 and 9.2.3.4).
use Rattle.std.specs.Prelude.{ℕ, Bool, List, [], Option, bytes_eq}
use Rattle.std.specs.List.{position_from}
use Rattle.express_syntax.specs.Schemas.{Declaration, type, entity, skipped, Derived}
use Rattle.schema_semantics.specs.Names.{Name, listed}
use Rattle.schema_semantics.specs.Ranks.{derived_name}

-- The DERIVE clause of an entity; empty for other declarations.
abbrev pub deriveds_in : Declaration → List Derived
deriveds_in (type t) = []
deriveds_in (entity e) = listed e.derived
deriveds_in (skipped p) = []

-- Whether d declares or redeclares an attribute a.
abbrev pub derives : Name → Derived → Bool
derives a d = bytes_eq (derived_name d.attribute) a

-- The index of the first derived attribute that declares or redeclares a, if any.
abbrev pub first_for : Name → List Derived → Option ℕ
first_for a ds = position_from (derives a) 0 ds
