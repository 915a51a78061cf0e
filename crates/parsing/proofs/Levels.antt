-- A cell says what it does over its children, whatever the number of levels.
use Rattle.std.proofs.Common.{◌≡◌, ◌<◌, ◌≤◌, ℕ, zero, suc, List, Option, Some, None, refl, ◌∙◌, ap, arith, slice_get}
use Rattle.parsing.specs.Nodes.{Nodes, AsksChildrenAlone, said_or, said_within, said_at, IsColumn}

module _ {C T : Type 0} (nodes : Nodes C T) (looks : AsksChildrenAlone nodes) (column : List C)
    (h : IsColumn nodes column) where
  or_alike : (f g : ℕ → T) (i : ℕ) (o : Option C) → slice_get column i ≡ o → ((k : ℕ) → k < i → f k ≡ g k)
      → said_or nodes f o ≡ said_or nodes g o
  or_alike f g i None e a = refl
  or_alike f g i (Some c) e a = let l = h i c e in looks f g c (λ k b. a k (omega (arith, l, b)))

  deep : (m n i : ℕ) → i < m → i < n → said_within nodes m column i ≡ said_within nodes n column i
  deep zero n i l r = absurd (omega (arith, l))
  deep (suc m) zero i l r = absurd (omega (arith, r))
  deep (suc m) (suc n) i l r =
      or_alike (said_within nodes m column) (said_within nodes n column) i (slice_get column i) refl
      (λ k b. deep m n k (omega (arith, l, b)) (omega (arith, r, b)))

  -- what is said at a place is what its cell says
  pub said : (i : ℕ) (c : C) → slice_get column i ≡ Some c
      → said_at nodes column i ≡ nodes.says (said_at nodes column) c
  said i c e =
      let before : nodes.reach c ≤ i = h i c e in
      ap (said_or nodes (said_within nodes i column)) e
      ∙ looks (said_within nodes i column) (said_at nodes column) c
      (λ k b. deep i (suc k) k (omega (arith, before, b)) (omega arith))
