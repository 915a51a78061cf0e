-- The values of derived attributes of lesser ranks.
use Rattle.std.proofs.Common.{◌≡◌, ℕ, zero, suc, ◌==◌, Bool, true, false, [], refl, ap, sym, ◌∙◌, arith}
use Rattle.std.specs.Prelude.{nat_lt, List, Option, Some, None, if◌then◌else◌}
use Rattle.std.proofs.lemmas.Bool.Decides.{nat_tests}
use Rattle.express_syntax.specs.Trees.{Tree}
use Rattle.express_syntax.specs.Schemas.{Schema}
use Rattle.schema_semantics.specs.Attributes.{Derivation}
use Rattle.conformance.specs.Bases.{Domain}
use Rattle.conformance.specs.Entities.{Entities}
use Rattle.conformance.specs.Populations.{Instance}
use Rattle.express_logic.specs.Data.{Datum, indeterminate, instance}
use Rattle.conformance.specs.Expressions.{means}
use Rattle.conformance.specs.Attributes.{Formula, Attributes}
use Rattle.conformance.specs.Meanings.{setting, by_rank, below, above, derived_value}
use Rattle.conformance.specs.MeaningLaws.{is_below, DerivedAreTheirExpressions}

same_rank : (r : ℕ) → (r == r) ≡ true
same_rank r = grind (arith, nat_tests)

none_below : (r : ℕ) → nat_lt r 0 ≡ false
none_below r = grind (arith, nat_tests)

at_rank : (r n : ℕ) → (r == n) ≡ true → r ≡ n
at_rank r n h = grind (arith, nat_tests, h)

just_below : (r n : ℕ) → (r == n) ≡ true → nat_lt r (suc n) ≡ true
just_below r n h = grind (arith, nat_tests, h)

other_below : (r n : ℕ) → (r == n) ≡ false → nat_lt r (suc n) ≡ nat_lt r n
other_below r n h = by (nat_lt r n) refl
  where
    by : (b : Bool) → nat_lt r n ≡ b → nat_lt r (suc n) ≡ b
    by true l = grind (arith, nat_tests, l)
    by false l = grind (arith, nat_tests, h, l)

module _ (s : Schema) (d : Domain) (en : Entities) (attributes : Attributes) (is : List Instance) where
  abbrev given : ℕ → ℕ → Tree → Datum
  given n y x = means (setting s d en attributes is (below s d en attributes is n)) [] (instance y) x

  -- where a formula has this rank
  abbrev step : ℕ → ℕ → Derivation → Option Formula → Datum
  step n y e o = by_rank n o (given n y) (below s d en attributes is n y e)

  abbrev computed : ℕ → Derivation → Option Formula → Datum
  computed y e o = below s d en attributes is (above o) y e

  -- what a formula gives, where those of lesser ranks have their values
  own : (y : ℕ) (e : Derivation) (f : Formula) → attributes.formula e ≡ Some f
      → derived_value s d en attributes is y e ≡ given f.rank y f.expression
  own y e f is' =
      ap (computed y e) is' ∙ ap (step f.rank y e) is'
      ∙ ap (λ b. if b then given f.rank y f.expression else below s d en attributes is f.rank y e) (same_rank f.rank)

  is_lesser : (n y : ℕ) (e : Derivation) (o : Option Formula) → attributes.formula e ≡ o
      → below s d en attributes is n y e
      ≡ (if is_below n o then derived_value s d en attributes is y e else indeterminate)
  is_lesser zero y e None h = refl
  is_lesser zero y e (Some f) h =
      ap (λ b. if b then derived_value s d en attributes is y e else indeterminate) (sym (none_below f.rank))
  is_lesser (suc n) y e None h = ap (step n y e) h ∙ is_lesser n y e None h
  is_lesser (suc n) y e (Some f) h = ap (step n y e) h ∙ by (f.rank == n) refl (is_lesser n y e (Some f) h)
    where
      by : (b : Bool) → (f.rank == n) ≡ b
          → below s d en attributes is n y e
          ≡ (if nat_lt f.rank n then derived_value s d en attributes is y e else indeterminate)
          → (if b then given n y f.expression else below s d en attributes is n y e)
          ≡ (if nat_lt f.rank (suc n) then derived_value s d en attributes is y e else indeterminate)
      by true k rest =
          ap (λ r. given r y f.expression) (sym (at_rank f.rank n k)) ∙ sym (own y e f h)
          ∙ ap (λ b. if b then derived_value s d en attributes is y e else indeterminate) (sym (just_below f.rank n k))
      by false k rest =
          rest
          ∙ ap (λ b. if b then derived_value s d en attributes is y e else indeterminate) (sym (other_below f.rank n k))

pub derived_are_their_expressions : DerivedAreTheirExpressions
derived_are_their_expressions s d en attributes is e f h y =
    own s d en attributes is y e f h
    ∙ (λ i. means (setting s d en attributes is
    (λ z c. is_lesser s d en attributes is f.rank z c (attributes.formula c) refl i)) [] (instance y) f.expression)
