-- What is gathered along an order of all vertices.
use Rattle.std.specs.Prelude.{◌≡◌, ℕ, zero, suc, ◌<◌, ◌≤◌, Bool, true, false, ◌||◌, nat_lt, Result, Ok, Err, IfOk, List, [], ◌∷◌, ◌++◌, map, length, eqb, ◌⊎◌, ◌↔◌}
use Rattle.std.specs.List.{concat}
use Rattle.std.proofs.Common.{refl, inl, inr, ap, sym, subst, ◌∙◌, arith}
use Rattle.std.proofs.lemmas.Bool.Decides.{nat_tests}
use Rattle.std.proofs.lemmas.List.Folds.{list_any-append}
use Rattle.graphs.specs.Graphs.{Graph, has, next, Step, IsGraph, IsAcyclic, LeadsToCycle, Chain}
use Rattle.graphs.specs.Orders.{IsOrder, IsTopologicalOrder, Follows, AreJoined}
use Rattle.graphs.proofs.Found.{has-added}
use Rattle.graphs.proofs.Searching.{either, left-holds, right-holds}
use Rattle.schema_data_types.specs.steps.Gathering.{Gathers, IsGathered}

module _ (g own t : Graph) (order : List ℕ) (o : IsOrder g order) (joins : AreJoined g order own t) (graph : IsGraph g)
    (all : (a : ℕ) → a < length g → has order a ≡ true) where
  -- a row, by those of where the edges lead
  row-has : (a y : ℕ) → a < length g
      → has (next t a) y ≡ (has (concat (map (next t) (next g a))) y || has (next own a) y)
  row-has a y lt =
      ap (λ row. has row y) (joins a (all a lt))
      ∙ has-added [] (concat (map (next t) (next g a)) ++ next own a) y
      ∙ list_any-append (eqb y) (concat (map (next t) (next g a))) (next own a)

  from-rows : (bs : List ℕ) (y : ℕ) → has (concat (map (next t) bs)) y ≡ true → (b : ℕ) × (has bs b ≡ true) × Step t b y
  from-rows [] y h = absurd (cc)
  from-rows (b ∷ bs) y h =
      by (either (has (next t b) y) (has (concat (map (next t) bs)) y)
      (sym (list_any-append (eqb y) (next t b) (concat (map (next t) bs))) ∙ h)) (from-rows bs y)
    where
      by : (has (next t b) y ≡ true) ⊎ (has (concat (map (next t) bs)) y ≡ true)
          → (has (concat (map (next t) bs)) y ≡ true → (c : ℕ) × (has bs c ≡ true) × Step t c y)
          → (c : ℕ) × (has (b ∷ bs) c ≡ true) × Step t c y
      by (inl here) more =
          let first : eqb b b ≡ true = grind (arith, nat_tests) in (b, left-holds (eqb b b) (has bs b) first, here)
      by (inr later) more = let (c, m, there) = more later in (c, right-holds (eqb c b) (has bs c) m, there)

  to-rows : (bs : List ℕ) (b y : ℕ) → has bs b ≡ true → Step t b y → has (concat (map (next t) bs)) y ≡ true
  to-rows [] b y m h = absurd (cc)
  to-rows (c ∷ bs) b y m h =
      list_any-append (eqb y) (next t c) (concat (map (next t) bs)) ∙ by (either (eqb b c) (has bs b) m) (to-rows bs b y)
    where
      by : (eqb b c ≡ true) ⊎ (has bs b ≡ true)
          → (has bs b ≡ true → Step t b y → has (concat (map (next t) bs)) y ≡ true)
          → (has (next t c) y || has (concat (map (next t) bs)) y) ≡ true
      by (inl e) more =
          let same : b ≡ c = grind (arith, nat_tests) in
          left-holds (has (next t c) y) (has (concat (map (next t) bs)) y) (subst (λ x. Step t x y) same h)
      by (inr later) more = right-holds (has (next t c) y) (has (concat (map (next t) bs)) y) (more later h)

  -- up by one edge
  up : (a : ℕ) → a < length g → ((b : ℕ) → Step g a b → (y : ℕ) → Step t b y → Gathers g (next own) b y) → (y : ℕ) → Step t a y
      → Gathers g (next own) a y
  up a lt below y h =
      by (either (has (concat (map (next t) (next g a))) y) (has (next own a) y) (sym (row-has a y lt) ∙ h))
    where
      on : (b : ℕ) → Step g a b → Gathers g (next own) b y → Gathers g (next own) a y
      on b step (inl mine) = inr (b, ([], step), mine)
      on b step (inr (c, (ms, chain), mine)) = inr (c, (b ∷ ms, (step, chain)), mine)

      by : (has (concat (map (next t) (next g a))) y ≡ true) ⊎ (has (next own a) y ≡ true) → Gathers g (next own) a y
      by (inl m) = let (b, step, there) = from-rows (next g a) y m in on b step (below b step y there)
      by (inr mine) = inl mine

  climb : (seen xs : List ℕ) → Follows g seen xs → ((a : ℕ) → has xs a ≡ true → a < length g)
      → ((b : ℕ) → has seen b ≡ true → (y : ℕ) → Step t b y → Gathers g (next own) b y) → (a : ℕ) → has xs a ≡ true
      → (y : ℕ) → Step t a y → Gathers g (next own) a y
  climb seen [] f within held a m = absurd (cc)
  climb seen (x ∷ xs) f within held a m =
      by (either (eqb a x) (has xs a) m)
      (climb (x ∷ seen) xs f.1 (λ c k. within c (right-holds (eqb c x) (has xs c) k)) now a)
    where
      first : has (x ∷ xs) x ≡ true
      first = let e : eqb x x ≡ true = grind (arith, nat_tests) in left-holds (eqb x x) (has xs x) e

      here : (y : ℕ) → Step t x y → Gathers g (next own) x y
      here = up x (within x first) (λ b step. held b (f.0 b step))

      now : (b : ℕ) → has (x ∷ seen) b ≡ true → (y : ℕ) → Step t b y → Gathers g (next own) b y
      now b h = seen-so (either (eqb b x) (has seen b) h)
        where
          seen-so : (eqb b x ≡ true) ⊎ (has seen b ≡ true) → (y : ℕ) → Step t b y → Gathers g (next own) b y
          seen-so (inl e) =
              let same : b ≡ x = grind (arith, nat_tests) in
              subst (λ c. (y : ℕ) → Step t c y → Gathers g (next own) c y) (sym same) here
          seen-so (inr s) = held b s

      by : (eqb a x ≡ true) ⊎ (has xs a ≡ true)
          → (has xs a ≡ true → (y : ℕ) → Step t a y → Gathers g (next own) a y) → (y : ℕ) → Step t a y
          → Gathers g (next own) a y
      by (inl e) more =
          let same : a ≡ x = grind (arith, nat_tests) in
          subst (λ c. (y : ℕ) → Step t c y → Gathers g (next own) c y) (sym same) here
      by (inr l) more = more l

  none-seen : (b : ℕ) → has [] b ≡ true → (y : ℕ) → Step t b y → Gathers g (next own) b y
  none-seen b h = absurd (cc)

  mine-there : (a y : ℕ) → a < length g → Step own a y → Step t a y
  mine-there a y lt h = row-has a y lt ∙ right-holds (has (concat (map (next t) (next g a))) y) (has (next own a) y) h

  step-there : (a b y : ℕ) → a < length g → Step g a b → Step t b y → Step t a y
  step-there a b y lt step h =
      row-has a y lt
      ∙ left-holds (has (concat (map (next t) (next g a))) y) (has (next own a) y) (to-rows (next g a) b y step h)

  chain-there : (a : ℕ) (ms : List ℕ) (b y : ℕ) → a < length g → Chain (Step g) a ms b → Step own b y → Step t a y
  chain-there a [] b y lt step h = step-there a b y lt step (mine-there b y (graph a b step) h)
  chain-there a (m ∷ ms) b y lt (step, chain) h =
      step-there a m y lt step (chain-there m ms b y (graph a m step) chain h)

  gathers-back : (a y : ℕ) → a < length g → Gathers g (next own) a y → Step t a y
  gathers-back a y lt (inl mine) = mine-there a y lt mine
  gathers-back a y lt (inr (b, (ms, chain), mine)) = chain-there a ms b y lt chain mine

  pub gathered-inside : (a y : ℕ) → a < length g → Step t a y ↔ Gathers g (next own) a y
  gathered-inside a y lt =
      ((λ h. climb [] order o.follows o.within none-seen a (all a lt) y h), (λ h. gathers-back a y lt h))

pub nothing-beyond : (rows : Graph) (a : ℕ) → length rows ≤ a → next rows a ≡ []
nothing-beyond [] a far = refl
nothing-beyond (r ∷ rows) zero far = absurd (omega (arith, far))
nothing-beyond (r ∷ rows) (suc a) far = nothing-beyond rows a (omega (arith, far))

-- no vertex is missing in an order of a graph without cycles
complete : (g : Graph) (order : List ℕ) → IsTopologicalOrder g order → IsAcyclic g → (a : ℕ) → a < length g
    → has order a ≡ true
complete g order o acyclic a lt = by (has order a) refl
  where
    none : LeadsToCycle g a → ⊥
    none (inl c) = acyclic a c
    none (inr (b, r, c)) = acyclic b c

    by : (b : Bool) → has order a ≡ b → b ≡ true
    by true e = refl
    by false e = absurd (none (o.rest a lt e))

pub are-gathered : (g own t : Graph) (order : List ℕ) → IsTopologicalOrder g order → AreJoined g order own t
    → IsGraph g → IsAcyclic g → length own ≡ length g → length t ≡ length g → IsGathered g (next own) t
are-gathered g own t order o joins graph acyclic mine long = record {
  same = long;
  each = λ a j. by a j (nat_lt a (length g)) refl;
}
  where
    empty : (rows : Graph) (a j : ℕ) → length rows ≤ a → Step rows a j → ⊥
    empty rows a j far h = let q = ap (λ row. has row j) (sym (nothing-beyond rows a far)) ∙ h in absurd (cc)

    outside : (a j : ℕ) → length g ≤ a → Gathers g (next own) a j → ⊥
    outside a j far (inl h) = empty own a j (omega (arith, far, mine)) h
    outside a j far (inr (b, ([], step), h)) = empty g a b far step
    outside a j far (inr (b, (m ∷ ms, (step, chain)), h)) = empty g a m far step

    by : (a j : ℕ) (b : Bool) → nat_lt a (length g) ≡ b → Step t a j ↔ Gathers g (next own) a j
    by a j true e =
        gathered-inside g own t order o.order joins graph (complete g order o acyclic) a j (grind (arith, nat_tests))
    by a j false e =
        let far : length g ≤ a = grind (arith, nat_tests) in
        ((λ h. absurd (empty t a j (omega (arith, far, long)) h)), (λ h. absurd (outside a j far h)))

-- what is known of the rows of a result by two clauses
pub from-both : {T E : Type 0} (r : Result T E) (P Q R : T → Type 0) → ((x : T) → P x → Q x → R x) → IfOk r P
    → IfOk r Q → IfOk r R
from-both (Ok x) P Q R f p q = f x p q
from-both (Err e) P Q R f p q = tt
