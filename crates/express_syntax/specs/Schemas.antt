-- Schemas as trees (ISO 10303-11, 8 and 9). Names are in capitals. A part that is set aside is its
-- tokens.
use Rattle.std.specs.Prelude.{ℕ, Bool, List, Option}
use Rattle.express_syntax.specs.declared.expression.Sign.{Sign}
use Rattle.express_syntax.specs.Words.{Word}
use Rattle.express_syntax.specs.Trees.{Tree}
use Rattle.express_syntax.specs.Runs.{Run, Routine}

-- an expression, or tokens that are set aside
pub data Body : Type 0 where
  parsed : Tree → Body
  set_aside : Run → Body

-- a domain rule, with its label, if any
pub record Rule : Type 0 where
  pub label : Option (List ℕ)
  pub body : Body

-- an integer with its sign, if any, by its spelling; `?`; or any other tokens
pub data Bound : Type 0 where
  value : Option Sign → List ℕ → Bound
  unlimited : Bound
  other_bound : Run → Bound

pub record Bounds : Type 0 where
  pub lower : Bound
  pub upper : Bound

pub data Width : Type 0 where
  width : List ℕ → Width
  other_width : Run → Width

-- the data type of an attribute's values or of a defined type
pub data DataType : Type 0 where
  integer : DataType
  number : DataType
  boolean : DataType
  logical : DataType
  real : Option Width → DataType
  -- whether it is FIXED
  string : Option (Width × Bool) → DataType
  binary : Option (Width × Bool) → DataType
  named : List ℕ → DataType
  -- whether it is of OPTIONAL elements, and of UNIQUE elements
  array : Bounds → Bool → Bool → DataType → DataType
  list : Option Bounds → Bool → DataType → DataType
  bag : Option Bounds → DataType → DataType
  set : Option Bounds → DataType → DataType

pub data Underlying : Type 0 where
  enumeration : List (List ℕ) → Underlying
  select : List (List ℕ) → Underlying
  data_type : DataType → Underlying

-- an absent WHERE differs from one without rules
pub record TypeDeclaration : Type 0 where
  pub name : List ℕ
  pub underlying : Underlying
  pub rules : Option (List Rule)

-- the SUPERTYPE clause
pub data Supertype : Type 0 where
  unsaid : Supertype
  bare : Supertype
  of_one : List ℕ → Supertype
  of_one_of : List (List ℕ) → Supertype
  of_other : Run → Supertype

pub data Attribute : Type 0 where
  own : List ℕ → Attribute
  -- SELF\entity.attribute
  redeclared : List ℕ → List ℕ → Attribute

pub record Explicit : Type 0 where
  pub attributes : List Attribute
  pub optional : Bool
  pub data_type : DataType

pub record Derived : Type 0 where
  pub attribute : Attribute
  pub data_type : DataType
  pub body : Body

-- the collection of an inverse attribute: SET or BAG, with bounds or without
pub data Collection : Type 0 where
  alone : Collection
  in_set : Option Bounds → Collection
  in_bag : Option Bounds → Collection

pub record Inverse : Type 0 where
  pub attribute : Attribute
  pub collection : Collection
  pub entity : List ℕ
  -- the entity that declares the inverted attribute, if it is named
  pub holder : Option (List ℕ)
  pub inverted : List ℕ

pub record Unique : Type 0 where
  pub label : Option (List ℕ)
  pub attributes : List Attribute

pub record Entity : Type 0 where
  pub name : List ℕ
  pub is_abstract : Bool
  pub supertype : Supertype
  pub subtype_of : Option (List (List ℕ))
  pub explicits : List Explicit
  pub derived : Option (List Derived)
  pub inverses : Option (List Inverse)
  pub uniques : Option (List Unique)
  pub rules : Option (List Rule)

pub data Skipped : Type 0 where
  function : List ℕ → Routine → Skipped
  procedure : List ℕ → Routine → Skipped
  -- the words up to the one that ends the declaration
  rule : List ℕ → List Word → Skipped
  constants : List Word → Skipped
  subtype_constraint : List ℕ → List Word → Skipped

pub data Declaration : Type 0 where
  type : TypeDeclaration → Declaration
  entity : Entity → Declaration
  skipped : Skipped → Declaration

pub record Schema : Type 0 where
  pub name : List ℕ
  -- a string, by its spelling
  pub version : Option Word
  pub declarations : List Declaration
