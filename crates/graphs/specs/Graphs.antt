-- Directed graphs on the numbers below a bound: for each vertex, the list of its edges' targets.
use Rattle.std.specs.Prelude.{◌≡◌, ℕ, ◌<◌, Bool, true, List, [], ◌∷◌, get_or, length, map, eqb, Vec, ◌⊎◌}
use Rattle.std.specs.List.{list_any}

abbrev pub Graph : Type 0
Graph = List (List ℕ)

-- the graph that is stored as rows of numbers
abbrev pub graph_of : {Z : Type 0} → List (Vec ℕ Z) → Graph
graph_of rows = map (λ v. v.items) rows

-- whether x is among xs
abbrev pub has : List ℕ → ℕ → Bool
has xs x = list_any (eqb x) xs

-- the targets of the edges from a; empty if a is no vertex
abbrev pub next : Graph → ℕ → List ℕ
next g a = get_or g a []

-- an edge leads from a to b
abbrev pub Step : Graph → ℕ → ℕ → Type 0
Step g a b = has (next g a) b ≡ true

-- the target of each edge is below the bound
abbrev pub StaysBelow : ℕ → Graph → Type 0
StaysBelow n g = (a b : ℕ) → Step g a b → b < n

-- the target of each edge is a vertex
abbrev pub IsGraph : Graph → Type 0
IsGraph g = StaysBelow (length g) g

-- Steps of S lead from a through the elements of the list, in turn, to b.
abbrev pub Chain : {A : Type 0} → (A → A → Type 0) → A → List A → A → Type 0
Chain S a [] b = S a b
Chain S a (m ∷ ms) b = S a m × Chain S m ms b

-- b is reached from a by one or more steps: the transitive closure of S
abbrev pub Leads : {A : Type 0} → (A → A → Type 0) → A → A → Type 0
Leads S a b = (ms : List _) × Chain S a ms b

abbrev pub Reaches : Graph → ℕ → ℕ → Type 0
Reaches g = Leads (Step g)

-- a lies on a cycle
abbrev pub IsCyclic : Graph → ℕ → Type 0
IsCyclic g a = Reaches g a a

abbrev pub IsAcyclic : Graph → Type 0
IsAcyclic g = (a : ℕ) → IsCyclic g a → ⊥

-- a lies on a cycle, or reaches a vertex that does
abbrev pub LeadsToCycle : Graph → ℕ → Type 0
LeadsToCycle g a = IsCyclic g a ⊎ ((b : ℕ) × Reaches g a b × IsCyclic g b)
