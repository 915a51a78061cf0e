-- The derived attributes that give an attribute its value, found along supertype chains.
use Rattle.std.specs.Prelude.{ℕ, Bool, true, false, cond, ◌&&◌, List, [], Option, None, Some, eqb, bytes_eq, slice_get, is_some}
use Rattle.std.specs.List.{find, position_from}
use Rattle.graphs.specs.Graphs.{Graph, next}
use Rattle.express_syntax.specs.Schemas.{Schema, Declaration, type, entity, skipped, Attribute, own, redeclared, Derived}
use Rattle.schema_semantics.specs.Names.{Name, listed}
use Rattle.schema_names.specs.Numbers.{number_of}
use Rattle.schema_explicit_attributes.specs.declared.own_attributes.Meant.TheVariants.{All}
use Rattle.schema_explicit_attributes.specs.steps.Owned.{declares_at}

abbrev pub is_entity : Declaration → Bool
is_entity (type t) = false
is_entity (entity e) = true
is_entity (skipped p) = false

abbrev pub is_some_entity : Option Declaration → Bool
is_some_entity None = false
is_some_entity (Some d) = is_entity d

-- The supertype chain of the entity i; empty without an entity.
abbrev pub line_in : Schema → Graph → Option ℕ → List ℕ
line_in s lines None = []
line_in s lines (Some i) = cond (is_some_entity (slice_get s.declarations i)) (next lines i) []

abbrev pub is_number : ℕ → Option ℕ → Bool
is_number i None = false
is_number i (Some j) = eqb j i

-- The DERIVE clause of an entity; empty for other declarations.
abbrev pub deriveds_in : Declaration → List Derived
deriveds_in (type t) = []
deriveds_in (entity e) = listed e.derived
deriveds_in (skipped p) = []

abbrev pub deriveds_of : Option Declaration → List Derived
deriveds_of None = []
deriveds_of (Some d) = deriveds_in d

abbrev pub deriveds_at : Schema → ℕ → List Derived
deriveds_at s i = deriveds_of (slice_get s.declarations i)

-- The attribute a that the entity p declares is looked up.
module _ (s : Schema) (lines : Graph) (a : Name) (p : ℕ) where
  -- Whether `SELF\q.a` refers to the attribute.
  abbrev pub is_origin : Name → Bool
  is_origin q = is_number p (find (declares_at s All a) (line_in s lines (number_of s q)))

  -- Whether a derived attribute in the entity e gives the attribute its value.
  abbrev pub gives : ℕ → Attribute → Bool
  gives e (own n) = bytes_eq n a && eqb e p
  gives e (redeclared q n) = bytes_eq n a && is_origin q

  -- The index of the first derived attribute that gives the attribute its value, if any.
  abbrev pub first_behind : ℕ → List Derived → Option ℕ
  first_behind e ds = position_from (λ (d : Derived). gives e d.attribute) 0 ds

  abbrev pub first_giving : ℕ → Option ℕ
  first_giving e = first_behind e (deriveds_at s e)

  abbrev pub derives : ℕ → Bool
  derives e = is_some (first_giving e)
