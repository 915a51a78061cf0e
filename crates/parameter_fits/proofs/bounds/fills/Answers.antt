use Rattle.std.proofs.Common.{◌≡◌, ◌<◌, ◌^◌, ◌+ℤ◌, ◌-ℤ◌, ℕ, ℤ, pos, negsuc, Bool, true, false, arith, rules, nat_eq, to_z, of_z, eqb-true, refl, ap, ◌∙◌, FitsSigned, w64}
use mir.Syntax.{w128}
use Rattle.std.proofs.lemmas.Int.{ints}
use Rattle.std.specs.Ordering.{int_eq}
use Rattle.parameter_fits.proofs.bounds.fills.Goals as goal

not_same : (n m : ℕ) → n < m → nat_eq n m ≡ false
not_same n m h = go (nat_eq n m) refl
  where
    go : (b : Bool) → nat_eq n m ≡ b → nat_eq n m ≡ false
    go true e = let same = eqb-true n m e in absurd (omega (arith, same, h))
    go false e = e

-- a count is told from its bits
by_bits : (n : ℕ) (z : ℤ) → n < 2 ^ 64 → FitsSigned w128 z → nat_eq n (of_z w128 z) ≡ int_eq (pos n) z
by_bits n (pos m) h f = grind arith
by_bits n (negsuc m) h f = not_same n (of_z w128 (negsuc m)) (let few = f.sfits in omega (arith, few, h))

-- a number of 64 bits, and the difference of two of them and one more, as they are computed
abbrev read64 : ℤ → ℤ
read64 z = to_z w64 (of_z w64 z)

abbrev indices : ℤ → ℤ → ℤ
indices l u = to_z w128 (of_z w128 (to_z w128 (of_z w128 u) -ℤ to_z w128 (of_z w128 l))) +ℤ pos 1

computed : (l u : ℤ) → FitsSigned w64 l → FitsSigned w64 u → indices (read64 l) (read64 u) ≡ u -ℤ l +ℤ pos 1
computed l u f g = omega (arith, ints)

fit : (l u : ℤ) → FitsSigned w64 l → FitsSigned w64 u → FitsSigned w128 (u -ℤ l +ℤ pos 1)
fit l u f g = search rules

pub returns : goal.returns
returns c =
    let l = c.args.lower in
    let u = c.args.upper in
    ap (λ z. nat_eq c.args.count (of_z w128 z)) (ap (indices c.from-2.result) c.from.ensures
    ∙ ap (λ z. indices z (read64 u)) c.from-2.ensures ∙ computed l u c.ranges.lower c.ranges.upper)
    ∙ by_bits c.args.count (u -ℤ l +ℤ pos 1) c.ranges.count.fits (fit l u c.ranges.lower c.ranges.upper)
