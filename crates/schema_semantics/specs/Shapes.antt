-- What a data type is when the names of defined types are resolved: the types of its values, and
-- its shape (ISO 10303-11, 8).
use Rattle.std.specs.Prelude.{◌≡◌, Bool, true, false, List, ◌⊎◌}
use Rattle.express_syntax.specs.Schemas.{Schema, enumeration, select, DataType, integer, number, boolean, logical, real, string, binary, named, array, list, bag, set}
use Rattle.schema_semantics.specs.Names.{Name, IsOrLeads, IsEntity, StandsFor, Renames, IsMadeOf}

abbrev pub IsEnumeration : Schema → Name → Type 0
IsEnumeration s n = (items : List Name) × StandsFor s n (enumeration items)

abbrev pub IsSelect : Schema → Name → Type 0
IsSelect s n = (items : List Name) × StandsFor s n (select items)

-- The data type is a SELECT, or a defined type that stands for one through any names.
abbrev pub IsOverSelect : Schema → DataType → Type 0
IsOverSelect s k = (n : Name) × IsOrLeads (Renames s) k (named n) × IsSelect s n

-- The sorts of values that aren't instances.
pub data Sort : Type 0 where
  a_number : Sort
  a_logical : Sort
  a_string : Sort
  a_binary : Sort
  -- An item of an enumeration.
  an_item : Sort
  -- An aggregate of elements of this data type.
  an_aggregate : DataType → Sort

-- An element of the sets of types that an expression may have: a sort, with whether the value is of
-- a SELECT; or the instances of an entity and its subtypes.
pub data Atom : Type 0 where
  value : Sort → Bool → Atom
  instance : Name → Atom

-- The sort of a data type, which isn't the name of another data type or of a SELECT.
abbrev pub IsSort : Schema → DataType → Sort → Type 0
IsSort s integer x = x ≡ a_number
IsSort s number x = x ≡ a_number
IsSort s (real w) x = x ≡ a_number
IsSort s boolean x = x ≡ a_logical
IsSort s logical x = x ≡ a_logical
IsSort s (string w) x = x ≡ a_string
IsSort s (binary w) x = x ≡ a_binary
IsSort s (array b o u k) x = x ≡ an_aggregate k
IsSort s (list b u k) x = x ≡ an_aggregate k
IsSort s (bag b k) x = x ≡ an_aggregate k
IsSort s (set b k) x = x ≡ an_aggregate k
IsSort s (named n) x = IsEnumeration s n × (x ≡ an_item)

-- The types of the values of a data type: SELECTs are replaced by their items
-- (ISO 10303-11, 8.4.2).
abbrev pub IsOf : Schema → DataType → Atom → Type 0
IsOf s k (value x false) = (l : DataType) × IsOrLeads (Renames s) k l × IsSort s l x
IsOf s k (value x true) = IsOverSelect s k × ((l : DataType) × IsOrLeads (IsMadeOf s) k l × IsSort s l x)
IsOf s k (instance n) = IsOrLeads (IsMadeOf s) k (named n) × IsEntity s n

-- The shape of a data type, one level deep. All numbers have one shape, and so have BOOLEAN and
-- LOGICAL, SELECTs and entities, and SET and BAG.
pub data TypeShape : Type 0 where
  of_numbers : TypeShape
  of_logicals : TypeShape
  of_strings : TypeShape
  of_binaries : TypeShape
  of_items : TypeShape
  of_instances : TypeShape
  -- An ARRAY, LIST, or SET or BAG, of elements of this data type.
  of_arrays : DataType → TypeShape
  of_lists : DataType → TypeShape
  of_collections : DataType → TypeShape

abbrev pub IsShapeAt : Schema → DataType → TypeShape → Type 0
IsShapeAt s integer f = f ≡ of_numbers
IsShapeAt s number f = f ≡ of_numbers
IsShapeAt s (real w) f = f ≡ of_numbers
IsShapeAt s boolean f = f ≡ of_logicals
IsShapeAt s logical f = f ≡ of_logicals
IsShapeAt s (string w) f = f ≡ of_strings
IsShapeAt s (binary w) f = f ≡ of_binaries
IsShapeAt s (array b o u k) f = f ≡ of_arrays k
IsShapeAt s (list b u k) f = f ≡ of_lists k
IsShapeAt s (bag b k) f = f ≡ of_collections k
IsShapeAt s (set b k) f = f ≡ of_collections k
IsShapeAt s (named n) f =
    (IsEnumeration s n × (f ≡ of_items)) ⊎ ((IsEntity s n ⊎ IsSelect s n) × (f ≡ of_instances))

-- The shape of a data type, with the names of defined types resolved.
abbrev pub HasShape : Schema → DataType → TypeShape → Type 0
HasShape s k f = (l : DataType) × IsOrLeads (Renames s) k l × IsShapeAt s l f

-- Two shapes are the same, with element types that `R` relates.
abbrev pub AreOne : (DataType → DataType → Bool) → TypeShape → TypeShape → Type 0
AreOne R of_numbers of_numbers = Unit {0}
AreOne R of_logicals of_logicals = Unit {0}
AreOne R of_strings of_strings = Unit {0}
AreOne R of_binaries of_binaries = Unit {0}
AreOne R of_items of_items = Unit {0}
AreOne R of_instances of_instances = Unit {0}
AreOne R (of_arrays k) (of_arrays l) = R k l ≡ true
AreOne R (of_lists k) (of_lists l) = R k l ≡ true
AreOne R (of_collections k) (of_collections l) = R k l ≡ true
AreOne R f g = ⊥

-- The relation keeps shapes: data types that it relates have the same shape.
abbrev pub KeepsShapes : Schema → (DataType → DataType → Bool) → Type 0
KeepsShapes s R =
    (k l : DataType) → R k l ≡ true → (f g : TypeShape) × HasShape s k f × HasShape s l g × AreOne R f g

-- Two data types are alike if some relation that keeps shapes relates them. So a pair that comes
-- again within its own comparison counts as alike.
abbrev pub AreAlikeTypes : Schema → DataType → DataType → Type 0
AreAlikeTypes s k l = (R : DataType → DataType → Bool) × (R k l ≡ true) × KeepsShapes s R
