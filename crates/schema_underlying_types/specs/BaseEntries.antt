-- The entries of the tables, from a data type or a declaration and the bases of names.
use Rattle.std.specs.Prelude.{◌≡◌, ℕ, ◌+◌, ℤ, Bool, true, false, cond, List, [], ◌∷◌, ◌++◌, length, Option, None, Some, is_some, get_or, slice_get, ◌↔◌}
use Rattle.std.specs.Option.{option_map}
use Rattle.express_syntax.specs.Schemas.{Schema, Bounds, Width, DataType, integer, number, boolean, logical, real, string, binary, named, array, list, bag, set, Underlying, enumeration, select, data_type, Declaration, type, entity, skipped}
use Rattle.schema_names.specs.Numbers.{number_of, IsAt}
use Rattle.graphs.specs.Graphs.{Graph, next, Step, Leads}
use Rattle.std.specs.List.Sorted.{IsNonDecreasing}
use Rattle.schema_underlying_types.specs.declared.base.Limit.{Limit}
use Rattle.schema_underlying_types.specs.declared.base.Aggregate.{Aggregate}
use Rattle.schema_underlying_types.specs.declared.base.Collection.{Collection}
use Rattle.schema_underlying_types.specs.declared.base.Collection.TheVariants as collections
use Rattle.schema_underlying_types.specs.declared.base.Base.{Base}
use Rattle.schema_underlying_types.specs.declared.base.Base.TheVariants.{Integer, Number, Boolean, Logical, String, Binary, Enumeration, Entity, Select}
use Rattle.schema_underlying_types.specs.declared.base.Base.TheVariants as bases
use Rattle.schema_underlying_types.specs.steps.Measures.{bound_in, lower_in, upper_in, width_in}

-- The base of the declaration j, or INTEGER if there is none.
abbrev pub entry : List Base → ℕ → Base
entry declared j = get_or declared j Integer

abbrev pub entry_of : List Base → Option ℕ → Base
entry_of declared None = Integer
entry_of declared (Some j) = entry declared j

-- The base of the name in a data type, or INTEGER if the type isn't a name.
abbrev pub named_in : Schema → List Base → DataType → Base
named_in s declared (named n) = entry_of declared (number_of s n)
named_in s declared k = Integer

-- Whether the name in a data type, if any, is that of a type or an entity.
abbrev pub is_known : Schema → DataType → Bool
is_known s (named n) = is_some (number_of s n)
is_known s (array b o u k) = is_known s k
is_known s (list b u k) = is_known s k
is_known s (bag b k) = is_known s k
is_known s (set b k) = is_known s k
is_known s k = true

abbrev pub limited : Bool → ℤ → Limit
limited fixed n = record { most = n; is_fixed = fixed }

abbrev pub limit_in : Option (Width × Bool) → Option Limit
limit_in None = None
limit_in (Some w) = option_map (limited w.1) (width_in w.0)

-- An aggregate of an unknown element type is replaced by INTEGER: there is no requirement on it.
abbrev pub if_known : Bool → Aggregate → Base
if_known known a = cond known (bases.Aggregate a) Integer

abbrev pub indexed : Bounds → Bool → Bool → ℕ → Aggregate
indexed bounds o u e = record {
  collection = collections.Array;
  lower = bound_in bounds.lower;
  upper = bound_in bounds.upper;
  is_optional = o;
  is_unique = u;
  element = e;
}

-- An aggregate whose elements must not be omitted.
abbrev pub bounded : Collection → Option Bounds → Bool → ℕ → Aggregate
bounded c bounds u e = record {
  collection = c;
  lower = lower_in bounds;
  upper = upper_in bounds;
  is_optional = false;
  is_unique = u;
  element = e;
}

-- The base of a data type; b is the base of its name, and e the number of the data type of its
-- elements.
abbrev pub base_in : Bool → Base → ℕ → DataType → Base
base_in known b e integer = Integer
base_in known b e number = Number
base_in known b e boolean = Boolean
base_in known b e logical = Logical
base_in known b e (real w) = Number
base_in known b e (string w) = String (limit_in w)
base_in known b e (binary w) = Binary (limit_in w)
base_in known b e (named n) = b
base_in known b e (array bounds o u k) = if_known known (indexed bounds o u e)
base_in known b e (list bounds u k) = if_known known (bounded collections.List bounds u e)
base_in known b e (bag bounds k) = if_known known (bounded collections.Bag bounds false e)
base_in known b e (set bounds k) = if_known known (bounded collections.Set bounds true e)

abbrev pub base_of : Schema → List Base → ℕ → DataType → Base
base_of s declared e k = base_in (is_known s k) (named_in s declared k) e k

-- The bases of consecutive data types, with numbers from n on.
abbrev pub bases_from : Schema → List Base → ℕ → List DataType → List Base
bases_from s declared n [] = []
bases_from s declared n (k ∷ ks) = base_of s declared (n + 1) k ∷ bases_from s declared (n + 1) ks

-- The list is extended by the bases of the data types.
abbrev pub GoesOn : Schema → List Base → List Base → List DataType → List Base → Type 0
GoesOn s declared old ks new = new ≡ old ++ bases_from s declared (length old) ks

-- The base of the defined type i, whose first data type has the number `first`.
abbrev pub base_behind : Schema → (DataType → Base) → ℕ → ℕ → Underlying → Base
base_behind s stands first i (enumeration items) = Enumeration i
base_behind s stands first i (select items) = Select i
base_behind s stands first i (data_type k) = base_in (is_known s k) (stands k) (first + 1) k

abbrev pub base_at : Schema → (DataType → Base) → ℕ → ℕ → Declaration → Base
base_at s stands first i (type t) = base_behind s stands first i t.underlying
base_at s stands first i (entity e) = Entity i
base_at s stands first i (skipped p) = Integer

abbrev pub first_of : List ℕ → ℕ
first_of row = get_or row 0 0

-- Each declaration has the base that follows from it and from the bases of the names in it.
abbrev pub AreMade : Schema → Graph → List Base → Type 0
AreMade s rows declared =
    (i : ℕ) (d : Declaration) → IsAt s i d
    → entry declared i ≡ base_at s (named_in s declared) (first_of (next rows i)) i d

-- The base is a SELECT.
abbrev pub is_select : Base → Bool
is_select (Select i) = true
is_select b = false

abbrev pub is_select_at : List Base → ℕ → Bool
is_select_at declared i = is_select (entry declared i)

-- The edges of i if it stands for a SELECT, otherwise empty.
abbrev pub opened : List Base → ℕ → List ℕ → List ℕ
opened declared i row = cond (is_select_at declared i) row []

-- The number j, unless it stands for a SELECT.
abbrev pub item_of : List Base → ℕ → List ℕ
item_of declared j = cond (is_select_at declared j) [] (j ∷ [])

-- One step from a declaration that stands for a SELECT.
abbrev pub OpenStep : List Base → Graph → ℕ → ℕ → Type 0
OpenStep declared g i j = (is_select_at declared i ≡ true) × Step g i j

-- The row of each vertex has, sorted, the vertices that such steps reach and that stand for no
-- SELECT.
pub record AreItems (declared : List Base) (g rows : Graph) : Type 0 where
  pub reached : (i j : ℕ) → Step rows i j ↔ (Leads (OpenStep declared g) i j × (is_select_at declared j ≡ false))
  pub sorted : (i : ℕ) → IsNonDecreasing (next rows i)

abbrev pub is_some_entity : Option Declaration → Bool
is_some_entity (Some (entity e)) = true
is_some_entity d = false

-- Whether the declaration i is an entity.
abbrev pub is_entity_at : Schema → ℕ → Bool
is_entity_at s i = is_some_entity (slice_get s.declarations i)
