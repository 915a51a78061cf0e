-- What stands in an order, and the parents of that.
use Rattle.std.proofs.Common.{◌≡◌, ℕ, zero, suc, ◌+◌, ◌<◌, ◌∙◌, sym, Bool, true, false, ◌||◌, ◌⊎◌, inl, inr, List, [], ◌∷◌, ◌++◌, length, take, get_or, eqb, refl, ap, subst, arith}
use Rattle.std.specs.List.{IsDistinct, AllByRecursion}
use Rattle.std.proofs.lemmas.Bool.Decides.{nat_tests}
use Rattle.graphs.specs.Graphs.{Graph, has, next, Step, LeadsToCycle}
use Rattle.graphs.specs.Orders.{Follows, IsOrder, IsTopologicalOrder}
use Rattle.graphs.proofs.Found.{at-member}
use Rattle.graphs.proofs.Searching.{either}
use Rattle.graphs.proofs.Gathered.{follows-at, follows-before}
use Rattle.graphs.specs.steps.Forests.{first_or, parent, IsForest, IsComplete}

pub never : (b : Bool) → b ≡ true → b ≡ false → ⊥
never true t f = absurd (cc)
never false t f = absurd (cc)

-- what goes up along the edges holds of all that stands in an order
pub climb : (g : Graph) (Holds : ℕ → Type 0) (seen xs : List ℕ) → ((b : ℕ) → has seen b ≡ true → Holds b)
    → Follows g seen xs → ((a : ℕ) → has xs a ≡ true → ((b : ℕ) → Step g a b → Holds b) → Holds a)
    → (a : ℕ) → has xs a ≡ true → Holds a
climb g Holds seen [] before f up a h = absurd (cc)
climb g Holds seen (x ∷ xs) before f up a h =
    by (either (eqb a x) (has xs a) h) (climb g Holds (x ∷ seen) xs also f.1 (λ b m rest. up b (behind b m) rest) a)
  where
    first : (x : ℕ) (xs : List ℕ) → has (x ∷ xs) x ≡ true
    first x xs = grind (arith, nat_tests)

    here : Holds x
    here = up x (first x xs) (λ b step. before b (f.0 b step))

    also : (b : ℕ) → has (x ∷ seen) b ≡ true → Holds b
    also b k = which (either (eqb b x) (has seen b) k)
      where
        which : (eqb b x ≡ true) ⊎ (has seen b ≡ true) → Holds b
        which (inl e) = let is : b ≡ x = grind (arith, nat_tests) in subst Holds (sym is) here
        which (inr k) = before b k

    behind : (b : ℕ) → has xs b ≡ true → has (x ∷ xs) b ≡ true
    behind b k = which (eqb b x)
      where
        which : (c : Bool) → (c || has xs b) ≡ true
        which true = refl
        which false = k

    by : (eqb a x ≡ true) ⊎ (has xs a ≡ true) → (has xs a ≡ true → Holds a) → Holds a
    by (inl e) more = let is : a ≡ x = grind (arith, nat_tests) in subst Holds (sym is) here
    by (inr k) more = more k

-- what stands at an index doesn't stand before it
apart-from : (x : ℕ) (xs : List ℕ) (b : ℕ) → AllByRecursion (λ (y : ℕ). eqb x y ≡ false) xs → has xs b ≡ true
    → eqb b x ≡ false
apart-from x [] b h m = absurd (cc)
apart-from x (y ∷ ys) b h m = which (either (eqb b y) (has ys b) m) h.0 (apart-from x ys b h.1)
  where
    which : (eqb b y ≡ true) ⊎ (has ys b ≡ true) → eqb x y ≡ false → (has ys b ≡ true → eqb b x ≡ false)
        → eqb b x ≡ false
    which (inl here) differs later = grind (arith, nat_tests)
    which (inr there) differs later = later there

pub fresh : (xs : List ℕ) (i : ℕ) → IsDistinct eqb xs → i < length xs → has (take i xs) (get_or xs i 0) ≡ false
unfolding IsDistinct
fresh [] i once lt = absurd (omega (arith, lt))
fresh (x ∷ xs) zero once lt = refl
fresh (x ∷ xs) (suc i) once lt =
    ap (λ c. c || has (take i xs) (get_or xs i 0))
    (apart-from x xs (get_or xs i 0) once.0 (at-member xs i 0 (omega (arith, lt))))
    ∙ fresh xs i once.1 (omega (arith, lt))

module _ (g : Graph) (h : IsForest g) where
  -- the parent of a vertex is behind all vertices, or its edge leads there
  pub parent-is : (a : ℕ) → (parent g a ≡ length g) ⊎ Step g a (parent g a)
  parent-is a = by (next g a) refl
    where
      first : (b : ℕ) (bs : List ℕ) → has (b ∷ bs) b ≡ true
      first b bs = grind (arith, nat_tests)

      by : (row : List ℕ) → next g a ≡ row → (parent g a ≡ length g) ⊎ Step g a (parent g a)
      by [] e = inl (ap (first_or (length g)) e)
      by (b ∷ bs) e = inr (subst (λ row. has row (first_or (length g) row) ≡ true) (sym e) (first b bs))

  pub parent-within : (a : ℕ) → parent g a < length g + 1
  parent-within a = by (parent-is a)
    where
      by : (parent g a ≡ length g) ⊎ Step g a (parent g a) → parent g a < length g + 1
      by (inl e) = omega (arith, e)
      by (inr step) = let lt = h.graph a (parent g a) step in omega (arith, lt)

  -- no vertex of a forest is missing
  pub complete : (order : List ℕ) → IsTopologicalOrder g order → IsComplete g order
  complete order o a lt = by (has order a) refl
    where
      none : LeadsToCycle g a → ⊥
      none (inl c) = h.acyclic a c
      none (inr (b, r, c)) = h.acyclic b c

      by : (b : Bool) → has order a ≡ b → has order a ≡ true
      by true e = e
      by false e = absurd (none (o.rest a lt e))

  module _ (order : List ℕ) (o : IsOrder g order) where
    pub within-at : (i : ℕ) → i < length order → get_or order i 0 < length g
    within-at i lt = o.within (get_or order i 0) (at-member order i 0 lt)

    -- the parent of what stands at an index stands before it, or behind all vertices
    pub above-at : (i : ℕ) → i < length order
        → (parent g (get_or order i 0) ≡ length g) ⊎ (has (take i order) (parent g (get_or order i 0)) ≡ true)
    above-at i lt = by (parent-is (get_or order i 0))
      where
        x : ℕ
        x = get_or order i 0

        by : (parent g x ≡ length g) ⊎ Step g x (parent g x)
            → (parent g x ≡ length g) ⊎ (has (take i order) (parent g x) ≡ true)
        by (inl e) = inl e
        by (inr step) = inr (follows-at g [] order i 0 o.follows lt (parent g x) step)

    pub above-before : (i a : ℕ) → has (take i order) a ≡ true
        → (parent g a ≡ length g) ⊎ (has (take i order) (parent g a) ≡ true)
    above-before i a m = by (parent-is a)
      where
        by : (parent g a ≡ length g) ⊎ Step g a (parent g a)
            → (parent g a ≡ length g) ⊎ (has (take i order) (parent g a) ≡ true)
        by (inl e) = inl e
        by (inr step) = inr (follows-before g [] order i a o.follows m (parent g a) step)

    -- a vertex whose parent comes before index i is not the vertex at i
    pub not-here : (i a : ℕ) → i < length order → (a ≡ length g) ⊎ (has (take i order) a ≡ true)
        → a ≡ get_or order i 0 → ⊥
    not-here i a lt (inl e) is =
        let low = within-at i lt in
        absurd (omega (arith, e, is, low))
    not-here i a lt (inr m) is =
        never (has (take i order) (get_or order i 0)) (subst (λ b. has (take i order) b ≡ true) is m)
        (fresh order i o.once lt)
