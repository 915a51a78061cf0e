-- What a data type requires of values, with the names of defined types resolved (ISO 10303-11, 8).
use Rattle.std.specs.Prelude.{◌≡◌, ℤ, Bool, false, true, List, Option, None, Some, MatchOption, FitsSigned, IsTrue, ◌↔◌}
use Rattle.std.specs.Option.{option_map}
use Rattle.std.specs.Int.{w64}
use Rattle.graphs.specs.Graphs.{Leads}
use Rattle.step_literals.specs.Decimals.{IsWorth}
use Rattle.express_syntax.specs.Schemas.{Schema, TypeDeclaration, Entity, Bound, Bounds, Width, width, Underlying, DataType}
use Rattle.express_syntax.specs.Schemas as schemas
use Rattle.express_syntax.specs.Clauses.{IsInteger}
use Rattle.express_syntax.specs.Profile.{Every}
use Rattle.schema_semantics.specs.Names.{Name, entities, types, IsMadeOf}
use Rattle.schema_semantics.specs.Shapes.{IsOverSelect}

pub data AggregateKind : Type 0 where
  array : AggregateKind
  list : AggregateKind
  bag : AggregateKind
  set : AggregateKind

-- The width of a STRING or BINARY: at most `most` characters or bits, or exactly `most` if it is
-- FIXED.
pub record Limit : Type 0 where
  pub most : ℤ
  pub fixed : Bool

-- An aggregation data type. The bounds of an ARRAY are its indices. A bound that isn't checked
-- limits nothing. The elements of a SET are always unique.
pub record Aggregate : Type 0 where
  pub collection : AggregateKind
  pub lower : Option ℤ
  pub upper : Option ℤ
  pub optional : Bool
  pub unique : Bool
  pub element : DataType

pub data Base : Type 0 where
  integer : Base
  -- NUMBER or REAL
  number : Base
  boolean : Base
  logical : Base
  string : Option Limit → Base
  binary : Option Limit → Base
  -- An enumeration, with its items.
  enumeration : List Name → Base
  entity : Name → Base
  select : Name → Base
  aggregate : Aggregate → Base

-- The schema's meaning for data types, as functions.
pub record Domain : Type 0 where
  -- The integer value of a bound, if it is checked.
  pub bound : Bound → Option ℤ
  pub width : Width → Option ℤ
  -- The data type for which the name of a defined type or of an entity stands.
  pub of_name : Name → Base
  -- The first name stands for a SELECT, and the second is one of its items, at any depth of
  -- SELECTs.
  pub is_item : Name → Name → Bool

module _ (d : Domain) where
  abbrev pub lower_bound : Option Bounds → Option ℤ
  lower_bound None = None
  lower_bound (Some b) = d.bound b.lower

  abbrev pub upper_bound : Option Bounds → Option ℤ
  upper_bound None = None
  upper_bound (Some b) = d.bound b.upper

  abbrev pub limit : Option (Width × Bool) → Option Limit
  limit None = None
  limit (Some w) = option_map (λ (n : ℤ). record { most = n; fixed = w.1 }) (d.width w.0)

  abbrev pub base : DataType → Base
  base schemas.integer = integer
  base schemas.number = number
  base schemas.boolean = boolean
  base schemas.logical = logical
  base (schemas.real w) = number
  base (schemas.string w) = string (limit w)
  base (schemas.binary w) = binary (limit w)
  base (schemas.named n) = d.of_name n
  base (schemas.array b o u k) = aggregate (record {
    collection = array;
    lower = d.bound b.lower;
    upper = d.bound b.upper;
    optional = o;
    unique = u;
    element = k;
  })
  base (schemas.list b u k) = aggregate (record {
    collection = list;
    lower = lower_bound b;
    upper = upper_bound b;
    optional = false;
    unique = u;
    element = k;
  })
  base (schemas.bag b k) = aggregate (record {
    collection = bag;
    lower = lower_bound b;
    upper = upper_bound b;
    optional = false;
    unique = false;
    element = k;
  })
  base (schemas.set b k) = aggregate (record {
    collection = set;
    lower = lower_bound b;
    upper = upper_bound b;
    optional = false;
    unique = true;
    element = k;
  })

  -- The data type for which the defined type `n` stands, by its underlying type (ISO 10303-11, 8.3
  -- and 8.4).
  abbrev pub base_of_underlying : Name → Underlying → Base
  base_of_underlying n (schemas.enumeration items) = enumeration items
  base_of_underlying n (schemas.select items) = select n
  base_of_underlying n (schemas.data_type k) = base k

-- The integer satisfies `Is` and is a signed integer of 64 bits; `None` if there is no such
-- integer.
abbrev pub IsCheckedBound : (ℤ → Type 0) → Option ℤ → Type 0
IsCheckedBound Is o = MatchOption o ((n : ℤ) → FitsSigned w64 n → Is n → ⊥) (λ n. FitsSigned w64 n × Is n)

abbrev pub IsWidth : Width → ℤ → Type 0
IsWidth (width t) n = IsWorth t n
IsWidth w n = ⊥

-- `m` is a SELECT, or a defined type that stands for one, and `n` is an item of `m` or the
-- underlying type of `m` (ISO 10303-11, 8.4.2).
abbrev pub OpensTo : Schema → Name → Name → Type 0
OpensTo s m n = IsOverSelect s (schemas.named m) × IsMadeOf s (schemas.named m) (schemas.named n)

-- `n` is an item of the SELECT `m`, at any depth of SELECTs, and doesn't stand for a SELECT itself.
abbrev pub IsItem : Schema → Name → Name → Type 0
IsItem s m n = Leads (OpensTo s) m n × (IsOverSelect s (schemas.named n) → ⊥)

-- These functions are the meaning of the data types of `s`. That of a name is defined by recursion
-- over underlying types (ISO 10303-11, 8.3.2).
pub record IsDomain (s : Schema) (d : Domain) : Type 0 where
  pub bounds : (b : Bound) → IsCheckedBound (IsInteger b) (d.bound b)
  pub widths : (w : Width) → IsCheckedBound (IsWidth w) (d.width w)
  pub types : Every (λ (t : TypeDeclaration). d.of_name t.name ≡ base_of_underlying d t.name t.underlying) (types s)
  pub entities : Every (λ (e : Entity). d.of_name e.name ≡ entity e.name) (entities s)
  pub items : (m n : Name) → IsTrue (d.is_item m n) ↔ IsItem s m n
