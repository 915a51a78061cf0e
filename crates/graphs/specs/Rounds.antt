-- The state of a search, and of an order that is being built.
use Rattle.std.specs.Prelude.{◌≡◌, ℕ, ◌<◌, Bool, true, false, cond, List, [], ◌∷◌, ◌++◌, get_or, length, take, eqb, ◌⊎◌}
use Rattle.std.specs.List.{IsDistinct}
use Rattle.graphs.specs.Graphs.{Graph, has, Step, Reaches}

-- xs, then the elements of ys that xs lacks, each once
abbrev pub added : List ℕ → List ℕ → List ℕ
added xs [] = xs
added xs (y ∷ ys) = added (cond (has xs y) xs (xs ++ y ∷ [])) ys

-- exactly the numbers that were found are marked
abbrev pub AreMarks : List Bool → List ℕ → Type 0
AreMarks marks found = (b : ℕ) → b < length marks → get_or marks b false ≡ has found b

-- Everything found is reached from a, each number once. The targets of a's edges, and of the edges of the first
-- n numbers found, are found too.
pub record IsSearched (g : Graph) (a : ℕ) (found : List ℕ) (n : ℕ) : Type 0 where
  pub reached : (b : ℕ) → has found b ≡ true → Reaches g a b
  pub once : IsDistinct eqb found
  pub first : (b : ℕ) → Step g a b → has found b ≡ true
  pub onward : (k b : ℕ) → k < n → Step g (get_or found k 0) b → has found b ≡ true

-- the first n of a row are marked
abbrev pub AreMarkedUpTo : List Bool → List ℕ → ℕ → Type 0
AreMarkedUpTo marks row n = (k : ℕ) → k < n → k < length row → get_or marks (get_or row k 0) false ≡ true

-- a is in the order, or it has an edge to a vertex that isn't among the first n of the order
abbrev pub Awaits : Graph → List ℕ → ℕ → ℕ → Type 0
Awaits g order n a = (has order a ≡ true) ⊎ ((b : ℕ) × Step g a b × (has (take n order) b ≡ false))
