-- One integer at most is a bound that is checked.
use Rattle.std.specs.Prelude.{◌≡◌, ◌^◌, ℤ, Option, None, Some, MatchOption, FitsSigned}
use Rattle.std.specs.Int.{w64}
use Rattle.std.proofs.Common.{refl, ap, sym, ◌∙◌}
use Rattle.step_literals.specs.Decimals.{finest}
use Rattle.step_literals.specs.steps.MagnitudeLemmas.{ten_pos}
use Rattle.step_literals.proofs.UnitLemmas.{times_cancel}
use Rattle.express_syntax.specs.Schemas.{Bound, value, unlimited, other_bound}
use Rattle.express_syntax.specs.Clauses.{IsInteger}
use Rattle.conformance.specs.Bases.{IsCheckedBound}

one-integer : (b : Bound) (m n : ℤ) → IsInteger b m → IsInteger b n → m ≡ n
one-integer (value s t) m n h k = times_cancel m n (10 ^ finest) (ten_pos finest) (sym h ∙ k)
one-integer unlimited m n h k = absurd h
one-integer (other_bound r) m n h k = absurd h

one-checked : (b : Bound) (o p : Option ℤ) → IsCheckedBound (IsInteger b) o → IsCheckedBound (IsInteger b) p → o ≡ p
one-checked b None None h k = refl
one-checked b None (Some n) h k = absurd (h n k.0 k.1)
one-checked b (Some m) None h k = absurd (k m h.0 h.1)
one-checked b (Some m) (Some n) h k = ap Some (one-integer b m n h.1 k.1)

-- what code answers is of 64 bits anyway
checked-of : (b : Bound) (o : Option ℤ) → ((n : ℤ) → o ≡ Some n → FitsSigned w64 n)
    → MatchOption o ((n : ℤ) → FitsSigned w64 n → IsInteger b n → ⊥) (λ n. IsInteger b n) → IsCheckedBound (IsInteger b) o
checked-of b None small h = h
checked-of b (Some n) small h = (small n refl, h)

pub bound-is : (b : Bound) (o p : Option ℤ) → ((n : ℤ) → o ≡ Some n → FitsSigned w64 n)
    → MatchOption o ((n : ℤ) → FitsSigned w64 n → IsInteger b n → ⊥) (λ n. IsInteger b n) → IsCheckedBound (IsInteger b) p
    → o ≡ p
bound-is b o p small h k = one-checked b o p (checked-of b o small h) k
