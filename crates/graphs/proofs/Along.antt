-- Tables that are made along an order, each item from that of the parent.
use Rattle.std.proofs.Common.{◌≡◌, ℕ, ◌+◌, ◌<◌, ◌∙◌, sym, Bool, true, false, ◌||◌, ◌⊎◌, inl, inr, List, [], ◌∷◌, ◌++◌, length, take, get_or, set, eqb, ap, subst, arith}
use Rattle.std.proofs.lemmas.Bool.Decides.{nat_tests}
use Rattle.graphs.specs.Graphs.{Graph, has}
use Rattle.graphs.specs.Orders.{IsOrder}
use Rattle.graphs.proofs.Found.{taken, has-more}
use Rattle.graphs.proofs.Searching.{either}
use Rattle.graphs.proofs.Gathered.{set-here, set-elsewhere}
use Rattle.graphs.specs.steps.Forests.{parent, IsForest}
use Rattle.graphs.proofs.ForestOrders.{within-at, above-at, above-before, not-here}

-- one more of an order is an old one, or the one that stands there
pub one-more : (order : List ℕ) (i a : ℕ) → i < length order → has (take (i + 1) order) a ≡ true
    → (has (take i order) a ≡ true) ⊎ (a ≡ get_or order i 0)
one-more order i a lt m =
    by (either (has (take i order) a) (eqb a x)
    (sym (has-more (take i order) x a) ∙ ap (λ xs. has xs a) (sym (taken order i lt)) ∙ m))
  where
    x : ℕ
    x = get_or order i 0

    by : (has (take i order) a ≡ true) ⊎ (eqb a x ≡ true) → (has (take i order) a ≡ true) ⊎ (a ≡ x)
    by (inl old) = inl old
    by (inr new) = inr (grind (arith, nat_tests))

module _ {X : Type 0} (g : Graph) (h : IsForest g) (order : List ℕ) (o : IsOrder g order) (d : X) (F : ℕ → X → X) where
  abbrev pub Along : List X → List ℕ → Type 0
  Along t done = (a : ℕ) → has done a ≡ true → get_or t a d ≡ F a (get_or t (parent g a) d)

  pub along-next : (t : List X) (i : ℕ) (y : X) → i < length order → length t ≡ length g + 1 → Along t (take i order)
      → y ≡ F (get_or order i 0) (get_or t (parent g (get_or order i 0)) d)
      → Along (set t (get_or order i 0) y) (take (i + 1) order)
  along-next t i y lt long old is a m = by (one-more order i a lt m)
    where
      x : ℕ
      x = get_or order i 0

      stays : (b : ℕ) → (b ≡ length g) ⊎ (has (take i order) b ≡ true) → get_or (set t x y) b d ≡ get_or t b d
      stays b k = set-elsewhere t x y b d (not-here g h order o i b lt k)

      new : get_or (set t x y) x d ≡ F x (get_or (set t x y) (parent g x) d)
      new =
          let low = within-at g h order o i lt in
          set-here t x y d (omega (arith, low, long)) ∙ is
          ∙ ap (F x) (sym (stays (parent g x) (above-at g h order o i lt)))

      by : (has (take i order) a ≡ true) ⊎ (a ≡ x)
          → get_or (set t x y) a d ≡ F a (get_or (set t x y) (parent g a) d)
      by (inl k) =
          stays a (inr k) ∙ old a k ∙ ap (F a) (sym (stays (parent g a) (above-before g h order o i a k)))
      by (inr e) = subst (λ b. get_or (set t x y) b d ≡ F b (get_or (set t x y) (parent g b) d)) (sym e) new
