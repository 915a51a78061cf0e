-- Numbers compared in units.
use Rattle.std.proofs.Common.{◌≡◌, ℕ, suc, ◌*◌, ◌^◌, ◌<◌, Bool, true, false, cond, ℤ, pos, negsuc, ◌+ℤ◌, ◌*ℤ◌, ◌<ℤ◌, int_lt, codes, refl, sym, ap, ◌∙◌, arith, inl, lit<, lit≤, zero-add, Ordering, Less, Equal, Greater, int_cmp, is_lt}
use Rattle.std.specs.Ordering.{MatchOrdering, ordering_reverse}
use Rattle.std.specs.Cmp.{int_ranked, int_cmp_is}
use Rattle.std.proofs.lemmas.Int.{ints}
use Rattle.std.proofs.Math.Nat.{mul-lt-mul_of_pos_right}
use Rattle.step_literals.specs.Decimals.{units, exponent, ten_to, finest}
use Rattle.step_literals.specs.Literals.{IsDecimal}
use Rattle.step_literals.specs.steps.MagnitudeLemmas.{ten_pos}
use Rattle.step_literals.proofs.UnitLemmas.{times_pos}
use Rattle.express_logic.specs.Literals.{whole_units}

times_less : (m n : ℤ) (p : ℕ) → 0 < p → m <ℤ n → (m *ℤ pos p) <ℤ (n *ℤ pos p)
times_less (pos a) (pos b) p h l =
    let k : a * p < b * p = mul-lt-mul_of_pos_right (omega (arith, ints, l)) h in omega (arith, ints, k)
times_less (pos a) (negsuc b) p h l = absurd (omega (arith, ints, l))
times_less (negsuc a) (pos b) p h l = omega (arith, ints, times_pos a p h)
times_less (negsuc a) (negsuc b) p h l =
    let k : suc b * p < suc a * p = mul-lt-mul_of_pos_right (omega (arith, ints, l)) h in omega (arith, ints, k)

times_rank : (r : Ordering) (m n : ℤ) (p : ℕ) → 0 < p → MatchOrdering r (m <ℤ n) (m ≡ n) (n <ℤ m)
    → MatchOrdering r ((m *ℤ pos p) <ℤ (n *ℤ pos p)) ((m *ℤ pos p) ≡ (n *ℤ pos p)) ((n *ℤ pos p) <ℤ (m *ℤ pos p))
times_rank Less m n p h k = times_less m n p h k
times_rank Equal m n p h k = ap (λ z. z *ℤ pos p) k
times_rank Greater m n p h k = times_less n m p h k

-- whole numbers compare as their units do
pub counts_by : (m n : ℤ) (r : Ordering) → r ≡ int_cmp m n → r ≡ int_cmp (whole_units m) (whole_units n)
counts_by m n r e = int_cmp_is _ _ r (times_rank r m n (10 ^ finest) (ten_pos finest) (int_ranked m n r e))

turned_rank : (r s : Ordering) (x y : ℤ) → MatchOrdering r (x <ℤ y) (x ≡ y) (y <ℤ x) → s ≡ ordering_reverse r
    → MatchOrdering s (y <ℤ x) (y ≡ x) (x <ℤ y)
turned_rank Less s x y h e = rw e h
turned_rank Equal s x y h e = rw e (sym h)
turned_rank Greater s x y h e = rw e h

-- the other way round
pub reversed : (x y : ℤ) (r s : Ordering) → r ≡ int_cmp x y → s ≡ ordering_reverse r → s ≡ int_cmp y x
reversed x y r s h e = int_cmp_is y x s (turned_rank r s x y (int_ranked x y r h) e)

-- the least number of 64 bits
pub least_spelt : IsDecimal (codes "-9223372036854775808")
least_spelt = record {
  number = inl (
    codes "-",
    codes "9223372036854775808",
    refl,
    (lit< tt, (refl, (refl, (refl, (refl, (refl, (refl, (refl, (refl, (refl, (refl, (refl, (refl, (refl, (refl, (refl, (refl, (refl, (refl, (refl, tt)))))))))))))))))))),
    refl,
  );
  short = record { short = lit≤ tt; exponent = lit≤ tt };
}

no_exponent : exponent (codes "-9223372036854775808") +ℤ pos finest ≡ pos finest
no_exponent = ap pos (zero-add finest)

pub least_worth : units (codes "-9223372036854775808") ≡ whole_units (negsuc 9223372036854775807)
unfolding units
least_worth = ap (λ e. negsuc 9223372036854775807 *ℤ ten_to e) no_exponent

-- the test of an order
pub less_told : (x y : ℤ) → is_lt (int_cmp x y) ≡ int_lt x y
less_told x y = by (int_lt x y) (int_lt y x)
  where
    by : (a b : Bool) → is_lt (cond a Less (cond b Greater Equal)) ≡ a
    by true b = refl
    by false true = refl
    by false false = refl
