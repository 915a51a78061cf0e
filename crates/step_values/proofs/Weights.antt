-- What is inside a value weighs less.
use Rattle.std.proofs.Common.{◌≡◌, ◌<◌, ◌+◌, ℕ, zero, suc, Some, ap, arith}
use Rattle.step_values.specs.steps.Slots.{nth}
use Rattle.step_values.specs.Values.{Value, leaf, reference, typed, sequence, bag, Values, none, more}

abbrev mutual
  pub weight : Value → ℕ
  weight (leaf a) = 1
  weight (reference y) = 1
  weight (typed n v) = suc (suc (weight v))
  weight (sequence vs) = suc (suc (weight_of vs))
  weight (bag vs) = suc (suc (weight_of vs))

  pub weight_of : Values → ℕ
  weight_of none = 1
  weight_of (more v vs) = suc (weight v + weight_of vs)

pub lighter : (vs : Values) (i : ℕ) (v : Value) → nth vs i ≡ Some v → suc (weight v) < weight_of vs
lighter none i v e = absurd (cc)
lighter (more u vs) zero v e = let same : u ≡ v = cc in let w = ap weight same in let l = some vs in omega (arith, w, l)
  where
    some : (ws : Values) → 0 < weight_of ws
    some none = omega arith
    some (more w ws) = omega arith
lighter (more u vs) (suc i) v e = let l = lighter vs i v e in omega (arith, l)
