-- What is inside a parameter weighs less.
use Rattle.std.proofs.Common.{◌≡◌, ◌<◌, ◌+◌, ℕ, zero, suc, List, [], ◌∷◌, Some, ap, arith, slice_get}
use Rattle.step_structures.specs.Trees.{Tree, leaf, typed, group, Trees, none, one}
use Rattle.step_records.specs.Cells.{all_of}

abbrev mutual
  pub weight : Tree → ℕ
  weight (leaf w) = 1
  weight (typed s x) = suc (suc (weight x))
  weight (group xs) = suc (suc (weight_of xs))

  pub weight_of : Trees → ℕ
  weight_of none = 1
  weight_of (one x xs) = suc (weight x + weight_of xs)

-- the weight of parameters side by side
abbrev pub weights : List Tree → ℕ
weights xs = weight_of (all_of xs)

some_weight : (xs : Trees) → 0 < weight_of xs
some_weight none = omega arith
some_weight (one x xs) = omega arith

-- each of them
pub lighter : (xs : List Tree) (i : ℕ) (x : Tree) → slice_get xs i ≡ Some x → suc (weight x) < weights xs
lighter [] i x e = absurd (cc)
lighter (y ∷ xs) zero x e =
    let same : y ≡ x = cc in
    let w = ap weight same in
    let l = some_weight (all_of xs) in
    omega (arith, w, l)
lighter (y ∷ xs) (suc i) x e = let l = lighter xs i x e in omega (arith, l)
