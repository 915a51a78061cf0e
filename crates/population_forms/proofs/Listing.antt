-- The numbers of what is marked.
use Rattle.std.specs.Prelude.{◌≡◌, ℕ, ◌+◌, ◌<◌, Bool, true, false, cond, ◌||◌, List, [], ◌∷◌, map, get_or, slice_get, Some, eqb}
use Rattle.std.specs.List.{filter, IsDistinct, AllByRecursion}
use Rattle.std.proofs.Common.{refl, ap, ◌∙◌, arith, zero, suc}
use Rattle.std.proofs.lemmas.Bool.Decides.{nat_tests}
use Rattle.graphs.specs.Graphs.{has}
use Rattle.express_syntax.specs.Schemas.{Declaration, type, entity, skipped, Entity}
use Rattle.express_syntax.specs.Profile.{Every}
use Rattle.schema_semantics.specs.Names.{Name, entities_of}
use Rattle.schema_underlying_types.specs.BaseViews.{name_in}
use Rattle.population_forms.specs.steps.Marked.{numbers_from, passes}

-- the names of what is marked
names-of : (name : ℕ → Name) (b : Bool) (k : ℕ) (n : Name) (row : List ℕ) (ns : List Name) → name k ≡ n
    → map name row ≡ ns → map name (cond b (k ∷ row) row) ≡ cond b (n ∷ ns) ns
names-of name true k n row ns e h = ap (λ m. m ∷ map name row) e ∙ ap (λ ms. n ∷ ms) h
names-of name false k n row ns e h = h

module _ (test : Name → Bool) (name : ℕ → Name) where
  pub marked-names : (k : ℕ) (ds : List Declaration)
      → ((i j : ℕ) (d : Declaration) → i ≡ k + j → slice_get ds j ≡ Some d → name i ≡ name_in (Some d))
      → map name (numbers_from k (map (passes test) ds)) ≡ filter test (map (λ (e : Entity). e.name) (entities_of ds))
  marked-names k [] h = refl
  marked-names k (type t ∷ ds) h =
      marked-names (k + 1) ds (λ i j d e at. h i (suc j) d (omega arith) at)
  marked-names k (entity e ∷ ds) h =
      names-of name (test e.name) k e.name (numbers_from (k + 1) (map (passes test) ds))
      (filter test (map (λ (x : Entity). x.name) (entities_of ds))) (h k 0 (entity e) (omega arith) refl)
      (marked-names (k + 1) ds (λ i j d e at. h i (suc j) d (omega arith) at))
  marked-names k (skipped p ∷ ds) h =
      marked-names (k + 1) ds (λ i j d e at. h i (suc j) d (omega arith) at)

-- whether a number is one of these
pub none-below : (k i : ℕ) (marks : List Bool) → i < k → has (numbers_from k marks) i ≡ false
none-below k i [] lt = refl
none-below k i (true ∷ marks) lt =
    let here : eqb i k ≡ false = grind (arith, nat_tests) in
    ap (λ b. b || has (numbers_from (k + 1) marks) i) here ∙ none-below (k + 1) i marks (omega arith)
none-below k i (false ∷ marks) lt = none-below (k + 1) i marks (omega arith)

pub listed-is : (k i j : ℕ) (marks : List Bool) → i ≡ k + j → has (numbers_from k marks) i ≡ get_or marks j false
listed-is k i zero [] e = refl
listed-is k i (suc j) [] e = refl
listed-is k i zero (true ∷ marks) e =
    let here : eqb i k ≡ true = grind (arith, nat_tests) in
    ap (λ b. b || has (numbers_from (k + 1) marks) i) here
listed-is k i zero (false ∷ marks) e = none-below (k + 1) i marks (omega arith)
listed-is k i (suc j) (true ∷ marks) e =
    let here : eqb i k ≡ false = grind (arith, nat_tests) in
    ap (λ b. b || has (numbers_from (k + 1) marks) i) here ∙ listed-is (k + 1) i j marks (omega arith)
listed-is k i (suc j) (false ∷ marks) e = listed-is (k + 1) i j marks (omega arith)

-- each stands once
each-apart : (k x : ℕ) (marks : List Bool) → x < k → AllByRecursion (λ (y : ℕ). eqb x y ≡ false) (numbers_from k marks)
each-apart k x [] lt = tt
each-apart k x (true ∷ marks) lt = (grind (arith, nat_tests), each-apart (k + 1) x marks (omega arith))
each-apart k x (false ∷ marks) lt = each-apart (k + 1) x marks (omega arith)

pub listed-once : (k : ℕ) (marks : List Bool) → IsDistinct eqb (numbers_from k marks)
unfolding IsDistinct
listed-once k [] = tt
listed-once k (true ∷ marks) = (each-apart (k + 1) k marks (omega arith), listed-once (k + 1) marks)
listed-once k (false ∷ marks) = listed-once (k + 1) marks

-- what holds of each declaration that passes holds of its number
pub each-listed : (P : ℕ → Type 0) (k : ℕ) (marks : List Bool)
    → ((i j : ℕ) → i ≡ k + j → get_or marks j false ≡ true → P i) → Every P (numbers_from k marks)
each-listed P k [] h = tt
each-listed P k (true ∷ marks) h =
    (h k 0 (omega arith) refl, each-listed P (k + 1) marks (λ i j e at. h i (suc j) (omega arith) at))
each-listed P k (false ∷ marks) h = each-listed P (k + 1) marks (λ i j e at. h i (suc j) (omega arith) at)
