-- Topological orders, in which each vertex comes after its edges' targets, and tables made along them.
use Rattle.std.specs.Prelude.{◌≡◌, ℕ, suc, ◌<◌, true, false, List, [], ◌∷◌, ◌++◌, length, map, max, get_or, eqb, ◌⊎◌}
use Rattle.std.specs.List.{IsDistinct, concat}
use Rattle.graphs.specs.Graphs.{Graph, has, next, Step, Chain, LeadsToCycle}
use Rattle.graphs.specs.Rounds.{added}

-- The targets of each vertex's edges are among `seen` or come before the vertex.
abbrev pub Follows : Graph → List ℕ → List ℕ → Type 0
Follows g seen [] = Unit {0}
Follows g seen (a ∷ more) = ((b : ℕ) → Step g a b → has seen b ≡ true) × Follows g (a ∷ seen) more

pub record IsOrder (g : Graph) (xs : List ℕ) : Type 0 where
  pub follows : Follows g [] xs
  pub once : IsDistinct eqb xs
  pub within : (a : ℕ) → has xs a ≡ true → a < length g

-- a topological order; the vertices missing from it are those that lie on a cycle or reach one
pub record IsTopologicalOrder (g : Graph) (xs : List ℕ) : Type 0 where
  pub order : IsOrder g xs
  pub rest : (a : ℕ) → a < length g → has xs a ≡ false → LeadsToCycle g a

-- The value of t at each of these vertices is what F makes of the values at its edges' targets.
abbrev pub Solves : {X : Type 0} → Graph → List ℕ → (ℕ → List X → X) → (ℕ → X) → Type 0
Solves g xs F t = (a : ℕ) → has xs a ≡ true → t a ≡ F a (map t (next g a))

-- t is d at every number that isn't among these vertices.
abbrev pub IsElsewhere : {X : Type 0} → List ℕ → X → (ℕ → X) → Type 0
IsElsewhere xs d t = (a : ℕ) → has xs a ≡ false → t a ≡ d

-- the lists of the edges' targets in turn, then the vertex's own list, without repeats
abbrev pub joined : Graph → ℕ → List (List ℕ) → List ℕ
joined own a rows = added [] (concat rows ++ next own a)

abbrev pub AreJoined : Graph → List ℕ → Graph → Graph → Type 0
AreJoined g xs own t = Solves g xs (joined own) (next t)

-- one more than the greatest of these, or 0 if there are none
abbrev pub above : List ℕ → ℕ
above [] = 0
above (r ∷ rs) = max (suc r) (above rs)

abbrev pub AreRanks : Graph → List ℕ → List ℕ → Type 0
AreRanks g xs ranks = Solves g xs (λ a rs. above rs) (λ a. get_or ranks a 0)

-- the longest chain from a has r steps
pub record IsLongest (g : Graph) (a r : ℕ) : Type 0 where
  pub most : (ms : List ℕ) (b : ℕ) → Chain (Step g) a ms b → length ms < r
  pub some : (r ≡ 0) ⊎ ((ms : List ℕ) × (b : ℕ) × Chain (Step g) a ms b × (suc (length ms) ≡ r))
