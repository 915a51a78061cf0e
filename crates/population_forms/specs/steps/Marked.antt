-- Sorted rows of declaration numbers, and the numbers of the entities that pass a test.
use Rattle.std.specs.Prelude.{◌≡◌, ℕ, ◌+◌, ◌==◌, Bool, false, cond, ◌||◌, ◌&&◌, not, List, [], ◌∷◌, map, get_or, slice_get, Option, None, Some}
use Rattle.std.specs.List.{list_any, find}
use Rattle.std.specs.List.Sorted.{IsStrictlyIncreasing}
use Rattle.graphs.specs.Graphs.{Graph, has, next}
use Rattle.express_syntax.specs.Schemas.{Schema, Declaration, type, entity, skipped}
use Rattle.schema_semantics.specs.Names.{Name}
use Rattle.conformance.specs.Entities.{is_abstract_in}

-- the positions of the marked elements, counted from k
abbrev pub numbers_from : ℕ → List Bool → List ℕ
numbers_from k [] = []
numbers_from k (m ∷ ms) = cond m (k ∷ numbers_from (k + 1) ms) (numbers_from (k + 1) ms)

abbrev pub numbers : List Bool → List ℕ
numbers marks = numbers_from 0 marks

-- whether the element at position i is marked
abbrev pub is_marked : List Bool → ℕ → Bool
is_marked marks i = get_or marks i false

-- the row has exactly the numbers that pass the test, in strictly rising order
pub record AreSorted (test : ℕ → Bool) (row : List ℕ) : Type 0 where
  pub rise : IsStrictlyIncreasing row
  pub told : (i : ℕ) → has row i ≡ test i

-- whether the declaration is an entity whose name passes the test
abbrev pub passes : (Name → Bool) → Declaration → Bool
passes test (type t) = false
passes test (entity e) = test e.name
passes test (skipped p) = false

-- for each declaration, whether it is an entity whose name passes the test
abbrev pub marks_on : Schema → (Name → Bool) → List Bool
marks_on s test = map (passes test) s.declarations

-- whether one of the numbers is in the row and differs from the first, if there is a first
abbrev pub has_another : List ℕ → List ℕ → Option ℕ → Bool
has_another row numbers None = false
has_another row numbers (Some first) = list_any (λ i. not (i == first) && has row i) numbers

-- whether two different numbers are in the row
abbrev pub has_two : List ℕ → List ℕ → Bool
has_two row numbers = has_another row numbers (find (has row) numbers)

-- whether the declaration numbered i is an ABSTRACT entity
abbrev pub is_abstract_at : Schema → ℕ → Bool
is_abstract_at s i = is_abstract_in (slice_get s.declarations i)

-- whether j is a proper supertype of an entity of the row
abbrev pub is_above : Graph → List ℕ → ℕ → Bool
is_above above row j = list_any (λ i. has (next above i) j) row

-- whether j is the entity i or one of its proper supertypes
abbrev pub is_kind : Graph → ℕ → ℕ → Bool
is_kind above i j = i == j || has (next above i) j
