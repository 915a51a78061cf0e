-- The integers of bounds and widths are the only ones that are checked.
use Rattle.std.specs.Prelude.{◌≡◌, ℕ, zero, suc, ◌+◌, ◌*◌, ◌/◌, ◌^◌, ◌<◌, ℤ, pos, negsuc, neg_ℤ, ◌*ℤ◌, Bool, true, false, cond, ◌&&◌, Option, None, Some, MatchOption, FitsSigned, int_div}
use Rattle.std.specs.Int.{w64}
use Rattle.std.specs.Ordering.{int_eq}
use Rattle.std.proofs.Common.{refl, ap, sym, ◌∙◌, arith}
use Rattle.std.proofs.lemmas.Bool.Decides.{nat_tests, Decides-int_eq}
use Rattle.std.proofs.lemmas.Nat.{div-mul-add}
use Rattle.step_literals.specs.Decimals.{finest, units, turned, IsWhole}
use Rattle.step_literals.specs.steps.MagnitudeLemmas.{ten_pos}
use Rattle.step_literals.proofs.UnitLemmas.{times_cancel, times_pos}
use Rattle.express_syntax.specs.Schemas.{Bound, value, unlimited, other_bound, Width, width, other_width}
use Rattle.express_syntax.specs.Clauses.{is_minus, IsInteger}
use Rattle.conformance.specs.Bases.{IsCheckedBound, IsWidth}
use Rattle.schema_underlying_types.specs.steps.Measures.{fits, quotient, whole_in, bound_in, width_in}

fits-signed : (n : ℤ) → fits n ≡ true → FitsSigned w64 n
fits-signed (pos n) h = let lt : n < 2 ^ 63 = grind (arith, nat_tests) in record { sfits = omega (arith, lt) }
fits-signed (negsuc n) h = let lt : n < 2 ^ 63 = grind (arith, nat_tests) in record { sfits = omega (arith, lt) }

signed-fits : (n : ℤ) → FitsSigned w64 n → fits n ≡ true
signed-fits (pos n) h = let lt : n < 2 ^ 63 = omega (arith, h.sfits) in grind (arith, nat_tests)
signed-fits (negsuc n) h = let lt : n < 2 ^ 63 = omega (arith, h.sfits) in grind (arith, nat_tests)

left-of : (p q : Bool) → (p && q) ≡ true → p ≡ true
left-of true q e = refl
left-of false q e = absurd (cc)

right-of : (p q : Bool) → (p && q) ≡ true → q ≡ true
right-of true q e = e
right-of false q e = absurd (cc)

both-of : (p q : Bool) → p ≡ true → q ≡ true → (p && q) ≡ true
both-of p q e f = rw (e, f) refl

div-mul : (n t : ℕ) → 0 < t → (n * t) / t ≡ n
div-mul n t lt = let none : n * t ≡ n * t + 0 = omega arith in ap (λ m. m / t) none ∙ div-mul-add n t 0 lt

turned-div : (p t n : ℕ) → 0 < t → p ≡ suc n * t → int_div (neg_ℤ (pos p)) (pos t) ≡ negsuc n
turned-div zero t n lt e = absurd (omega (arith, e, times_pos n t lt))
turned-div (suc q) t n lt e = ap (λ m. neg_ℤ (pos (m / t))) e ∙ ap (λ m. neg_ℤ (pos m)) (div-mul (suc n) t lt)

-- an exact quotient is found
exact : (t : ℕ) (n : ℤ) → 0 < t → int_div (n *ℤ pos t) (pos t) ≡ n
exact t (pos n) lt = ap pos (div-mul n t lt)
exact t (negsuc n) lt = turned-div (suc n * t) t n lt refl

module _ (t : ℕ) (lt : 0 < t) (u : ℤ) where
  checked-at : (n : ℤ) → n ≡ int_div u (pos t) → (b : Bool) → (int_eq (n *ℤ pos t) u && fits n) ≡ b
      → IsCheckedBound (λ m. u ≡ m *ℤ pos t) (cond b (Some n) None)
  checked-at n is true e = (
    fits-signed n (right-of (int_eq (n *ℤ pos t) u) (fits n) e),
    sym ((Decides-int_eq (n *ℤ pos t) u).0 (left-of (int_eq (n *ℤ pos t) u) (fits n) e)),
  )
  checked-at n is false e = λ m small h.
      (let same : n ≡ m = is ∙ ap (λ v. int_div v (pos t)) h ∙ exact t m lt in
      let holds : (int_eq (n *ℤ pos t) u && fits n) ≡ true = both-of (int_eq (n *ℤ pos t) u) (fits n)
      ((Decides-int_eq (n *ℤ pos t) u).1 (ap (λ k. k *ℤ pos t) same ∙ sym h))
      (ap fits same ∙ signed-fits m small) in
      absurd (cc))

  quotient-checked : IsCheckedBound (λ m. u ≡ m *ℤ pos t) (quotient t u)
  quotient-checked = checked-at (int_div u (pos t)) refl (int_eq (int_div u (pos t) *ℤ pos t) u
      && fits (int_div u (pos t))) refl

pub whole-checked : (u : ℤ) → IsCheckedBound (IsWhole u) (whole_in u)
unfolding whole_in
whole-checked u = quotient-checked (10 ^ finest) (ten_pos finest) u

-- one integer at most is checked
module _ (Is : ℤ → Type 0) (one : (m n : ℤ) → Is m → Is n → m ≡ n) where
  pub one-checked : (o p : Option ℤ) → IsCheckedBound Is o → IsCheckedBound Is p → o ≡ p
  one-checked None None h k = refl
  one-checked None (Some n) h k = absurd (h n k.0 k.1)
  one-checked (Some m) None h k = absurd (k m h.0 h.1)
  one-checked (Some m) (Some n) h k = ap Some (one m n h.1 k.1)

one-whole : (u m n : ℤ) → IsWhole u m → IsWhole u n → m ≡ n
one-whole u m n h k = times_cancel m n (10 ^ finest) (ten_pos finest) (sym h ∙ k)

one-integer : (b : Bound) (m n : ℤ) → IsInteger b m → IsInteger b n → m ≡ n
one-integer (value s t) m n h k = one-whole (turned (is_minus s) (units t)) m n h k
one-integer unlimited m n h k = absurd h
one-integer (other_bound r) m n h k = absurd h

one-width : (w : Width) (m n : ℤ) → IsWidth w m → IsWidth w n → m ≡ n
one-width (width t) m n h k = one-whole (units t) m n h k
one-width (other_width r) m n h k = absurd h

pub bound-checked : (b : Bound) → IsCheckedBound (IsInteger b) (bound_in b)
bound-checked (value s t) = whole-checked (turned (is_minus s) (units t))
bound-checked unlimited = λ n small h. h
bound-checked (other_bound r) = λ n small h. h

pub width-checked : (w : Width) → IsCheckedBound (IsWidth w) (width_in w)
width-checked (width t) = whole-checked (units t)
width-checked (other_width r) = λ n small h. h

pub bound-is : (b : Bound) (o : Option ℤ) → IsCheckedBound (IsInteger b) o → o ≡ bound_in b
bound-is b o h = one-checked (IsInteger b) (one-integer b) o (bound_in b) h (bound-checked b)

pub width-is : (w : Width) (o : Option ℤ) → IsCheckedBound (IsWidth w) o → o ≡ width_in w
width-is w o h = one-checked (IsWidth w) (one-width w) o (width_in w) h (width-checked w)

-- what code answers is of 64 bits anyway
pub checked-of : (Is : ℤ → Type 0) (o : Option ℤ) → ((n : ℤ) → o ≡ Some n → FitsSigned w64 n)
    → MatchOption o ((n : ℤ) → FitsSigned w64 n → Is n → ⊥) (λ n. Is n) → IsCheckedBound Is o
checked-of Is None small h = h
checked-of Is (Some n) small h = (small n refl, h)
