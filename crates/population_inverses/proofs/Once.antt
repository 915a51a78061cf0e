-- How often a number stands in a list, and that a sorted one without repeats has each once.
use Rattle.std.specs.Prelude.{◌≡◌, ℕ, suc, ◌+◌, ◌<◌, ◌≤◌, ◌==◌, min, Bool, true, false, cond, List, [], ◌∷◌, ◌++◌, eqb}
use Rattle.std.specs.List.{dedup, dedup_from, sum_by}
use Rattle.std.specs.List.Sorted.{IsSorted, IsNonDecreasing, IsPermutation}
use Rattle.std.specs.Ordering.{nat_cmp}
use Rattle.std.proofs.Common.{refl, sym, ◌∙◌, ap, subst, inl, inr, arith, eqb-true, eq-eqb}
use Rattle.std.proofs.lemmas.Bool.{cases_lt}
use Rattle.std.proofs.lemmas.List.Sums.{sum_by-cons}
use Rattle.std.proofs.lemmas.List.Sorted.{sum_by-IsPermutation, IsNonDecreasingBy-from_sort}
use Rattle.population_inverses.specs.steps.Targets.{often}

pub often-append : (y : ℕ) (xs ys : List ℕ) → often y (xs ++ ys) ≡ often y xs + often y ys
often-append y [] ys = omega arith
often-append y (x ∷ xs) ys = by (y == x) (often-append y xs ys)
  where
    by : (b : Bool) → often y (xs ++ ys) ≡ often y xs + often y ys
        → cond b (suc (often y (xs ++ ys))) (often y (xs ++ ys)) ≡ cond b (suc (often y xs)) (often y xs) + often y ys
    by true e = omega (arith, e)
    by false e = e

pub often-moved : (y : ℕ) (xs ys : List ℕ) → IsPermutation xs ys → often y xs ≡ often y ys
often-moved y xs ys p = summed xs ∙ sym (sum_by-IsPermutation (λ x. cond (y == x) 1 0) xs ys p) ∙ sym (summed ys)
  where
    one : (b : Bool) (m n : ℕ) → m ≡ n → cond b (suc m) m ≡ cond b 1 0 + n
    one true m n e = omega (arith, e)
    one false m n e = omega (arith, e)

    summed : (xs : List ℕ) → often y xs ≡ sum_by (λ x. cond (y == x) 1 0) xs
    summed [] = refl
    summed (x ∷ xs) = one (y == x) (often y xs) (sum_by (λ x. cond (y == x) 1 0) xs) (summed xs)
        ∙ sym (sum_by-cons (λ x. cond (y == x) 1 0) x xs)

-- k, and what follows, never falls
abbrev Rise : ℕ → List ℕ → Type 0
Rise k [] = Unit {0}
Rise k (x ∷ xs) = (k ≤ x) × Rise x xs

rise : (k : ℕ) (xs : List ℕ) → IsNonDecreasing (k ∷ xs) → Rise k xs
rise k [] h = tt
rise k (x ∷ xs) h = (
  h 0 1 k (omega arith) (omega arith),
  rise x xs (λ i j d le lt. h (suc i) (suc j) d (omega (arith, le)) (omega (arith, lt))),
)

other : (y k : ℕ) → y < k → (y == k) ≡ false
other y k lt = by (y == k) refl
  where
    by : (b : Bool) → (y == k) ≡ b → (y == k) ≡ false
    by true e = let is : y ≡ k = eqb-true y k e in absurd (omega (arith, lt, is))
    by false e = e

not-there : (y k : ℕ) (xs : List ℕ) → Rise k xs → y < k → often y (k ∷ xs) ≡ 0
not-there y k [] h lt = ap (λ b. cond b 1 0) (other y k lt)
not-there y k (x ∷ xs) h lt =
    let le = h.0 in
    ap (λ b. cond b (suc (often y (x ∷ xs))) (often y (x ∷ xs))) (other y k lt)
    ∙ not-there y x xs h.1 (omega (arith, le, lt))

-- Each stands once in what a risen list leaves without repeats.
kept-from : (y k : ℕ) (xs : List ℕ) → Rise k xs → often y (dedup_from eqb k xs) ≡ min (often y (k ∷ xs)) 1
kept-from y k [] h = by (y == k)
  where
    by : (b : Bool) → cond b 1 0 ≡ min (cond b 1 0) 1
    by true = refl
    by false = refl
kept-from y k (x ∷ xs) h =
    step (eqb x k) refl (kept-from y x xs h.1) (λ e. kept-from y k xs (subst (λ z. Rise z xs) e h.1))
  where
    twice : (b : Bool) (n : ℕ) → min (cond b (suc n) n) 1 ≡ min (cond b (suc (cond b (suc n) n)) (cond b (suc n) n)) 1
    twice true n = omega arith
    twice false n = refl

    again : x ≡ k → often y (dedup_from eqb k xs) ≡ min (often y (k ∷ xs)) 1
        → often y (dedup_from eqb k xs) ≡ min (often y (k ∷ x ∷ xs)) 1
    again e rest = rest ∙ twice (y == k) (often y xs) ∙ ap (λ z. min (often y (k ∷ z ∷ xs)) 1) (sym e)

    apart : k < x → (b : Bool) → (y == k) ≡ b → often y (dedup_from eqb x xs) ≡ min (often y (x ∷ xs)) 1
        → cond b (suc (often y (dedup_from eqb x xs))) (often y (dedup_from eqb x xs))
        ≡ min (cond b (suc (often y (x ∷ xs))) (often y (x ∷ xs))) 1
    apart lt true e rest =
        let is : y ≡ k = eqb-true y k e in
        let none = not-there y x xs h.1 (omega (arith, lt, is)) in
        omega (arith, none, rest)
    apart lt false e rest = rest

    above : eqb x k ≡ false → k < x
    above f = elim (cases_lt k x) [ inl lt ↦ lt | inr le ↦ absurd (same (let ge = h.0 in omega (arith, le, ge))) ]
      where
        same : x ≡ k → ⊥
        same is = let t : eqb x k ≡ true = eq-eqb x k is in absurd (cc)

    step : (b : Bool) → eqb x k ≡ b → often y (dedup_from eqb x xs) ≡ min (often y (x ∷ xs)) 1
        → (x ≡ k → often y (dedup_from eqb k xs) ≡ min (often y (k ∷ xs)) 1)
        → often y (cond b (dedup_from eqb k xs) (k ∷ dedup_from eqb x xs)) ≡ min (often y (k ∷ x ∷ xs)) 1
    step true e rest less = again (eqb-true x k e) (less (eqb-true x k e))
    step false e rest less = apart (above e) (y == k) refl rest

pub kept-once : (y : ℕ) (xs : List ℕ) → IsSorted nat_cmp xs → often y (dedup eqb xs) ≡ min (often y xs) 1
kept-once y [] h = refl
kept-once y (x ∷ xs) h = kept-from y x xs (rise x xs (IsNonDecreasingBy-from_sort (λ z. z) (x ∷ xs) h))
