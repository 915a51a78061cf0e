-- Numbers of declarations: their positions in the text, counted from 0.
use Rattle.std.specs.Prelude.{◌≡◌, ℕ, ◌+◌, List, [], ◌∷◌, Option, None, Some, cond, map, slice_get}
use Rattle.express_syntax.specs.Schemas.{Schema, Declaration}
use Rattle.schema_semantics.specs.Names.{Name, declared_name, is_named, declaration_of}

-- The number of the first type or entity that has the name n, counted from k (ISO 10303-11, 10.3).
abbrev pub number_from : ℕ → List Declaration → Name → Option ℕ
number_from k [] n = None
number_from k (d ∷ ds) n = cond (is_named n (declared_name d)) (Some k) (number_from (k + 1) ds n)

abbrev pub number_of : Schema → Name → Option ℕ
number_of s n = number_from 0 s.declarations n

-- i is the number of the declaration that n refers to.
abbrev pub HasNumber : Schema → Name → ℕ → Type 0
HasNumber s n i = number_of s n ≡ Some i

-- The declaration with the number i is d.
abbrev pub IsAt : Schema → ℕ → Declaration → Type 0
IsAt s i d = slice_get s.declarations i ≡ Some d

-- The number of a name is that of the declaration that the name refers to. Names with one number
-- are equal.
pub record NumbersStand (s : Schema) : Type 0 where
  pub at : (n : Name) (i : ℕ) → HasNumber s n i → declaration_of s.declarations n ≡ slice_get s.declarations i
  pub each : (n : Name) (d : Declaration) → declaration_of s.declarations n ≡ Some d → (i : ℕ) × HasNumber s n i
  pub one : (m n : Name) (i : ℕ) → HasNumber s m i → HasNumber s n i → m ≡ n

-- The numbers of `row` are those of the items `xs`: each number is the position of its item in
-- `all`.
abbrev pub AreAt : {A : Type 0} → List A → List ℕ → List A → Type 0
AreAt all row xs = map (slice_get all) row ≡ map Some xs

-- Each row has the numbers of the items that `of` lists for its declaration.
abbrev pub AreNumberRowsOf : {A : Type 0} → (Declaration → List A) → List A → List Declaration → List (List ℕ) → Type 0
AreNumberRowsOf of all ds rows = map (map (slice_get all)) rows ≡ map (λ (d : Declaration). map Some (of d)) ds
