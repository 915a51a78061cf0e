-- Lists that are related place by place.
use Rattle.std.proofs.Common.{◌≡◌, ℕ, zero, suc, List, [], ◌∷◌, length, Some, refl, subst, arith}
use Rattle.std.specs.Prelude.{slice_get}
use Rattle.std.specs.List.{AllZip}
use Rattle.row_signatures.proofs.Naming.{once}

module _ (R : ℕ → ℕ → Type 0) where
  pub zip_there : (ys zs : List ℕ) → AllZip R ys zs → (i y : ℕ) → slice_get ys i ≡ Some y
      → (z : ℕ) × (slice_get zs i ≡ Some z) × R y z
  zip_there [] zs h i y e = absurd (cc)
  zip_there (a ∷ ys) [] h i y e = absurd h
  zip_there (a ∷ ys) (b ∷ zs) h zero y e = (b, refl, subst (λ w. R w b) (once a y e) h.0)
  zip_there (a ∷ ys) (b ∷ zs) h (suc i) y e = zip_there ys zs h.1 i y e

  pub zip_back : (ys zs : List ℕ) → AllZip R ys zs → (i z : ℕ) → slice_get zs i ≡ Some z
      → (y : ℕ) × (slice_get ys i ≡ Some y) × R y z
  zip_back [] [] h i z e = absurd (cc)
  zip_back [] (b ∷ zs) h i z e = absurd h
  zip_back (a ∷ ys) [] h i z e = absurd h
  zip_back (a ∷ ys) (b ∷ zs) h zero z e = (a, refl, subst (λ w. R a w) (once b z e) h.0)
  zip_back (a ∷ ys) (b ∷ zs) h (suc i) z e = zip_back ys zs h.1 i z e

  pub zip_from : (ys zs : List ℕ) → length ys ≡ length zs
      → ((i y z : ℕ) → slice_get ys i ≡ Some y → slice_get zs i ≡ Some z → R y z) → AllZip R ys zs
  zip_from [] [] e f = tt
  zip_from [] (b ∷ zs) e f = absurd (omega (arith, e))
  zip_from (a ∷ ys) [] e f = absurd (omega (arith, e))
  zip_from (a ∷ ys) (b ∷ zs) e f =
      (f 0 a b refl refl, zip_from ys zs (omega (arith, e)) (λ i y z g h. f (suc i) y z g h))
