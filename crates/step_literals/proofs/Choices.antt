-- What can be decided, and the first place where it holds.
use Rattle.std.proofs.Common.{◌≡◌, ℕ, zero, suc, ◌≤◌, ◌<◌, true, false, List, map, sym, ◌∙◌, arith, subst, ◌⊎◌, inl, inr}
use Rattle.std.specs.Prelude.{nat_eq}
use Rattle.std.specs.Char.{to_ascii_lowercase}
use Rattle.std.specs.Cmp.Lexicographic.{bytes_decides, pointwise}
use Rattle.std.proofs.lemmas.Bool.{false≢true, cases_Bool, cases_eq}
use Rattle.memchr.specs.Find.{Nowhere, NoneBefore}
use Rattle.step_literals.specs.Tokens.{Says}

-- it holds, or it doesn't
abbrev pub Decided : Type 0 → Type 0
Decided P = P ⊎ (P → ⊥)

same_list : (xs ys : List ℕ) → Decided (xs ≡ ys)
same_list xs ys = by (cases_Bool (pointwise nat_eq xs ys))
  where
    by : (pointwise nat_eq xs ys ≡ true) ⊎ (pointwise nat_eq xs ys ≡ false) → Decided (xs ≡ ys)
    by (inl h) = inl ((bytes_decides xs ys).0 h)
    by (inr h) = inr (λ e. false≢true (sym h ∙ (bytes_decides xs ys).1 e))

pub says_or_not : (word t : List ℕ) → Decided (Says word t)
says_or_not word t = same_list (map to_ascii_lowercase t) (map to_ascii_lowercase word)

-- the first place below a bound, if there is one
pub first_below : (P : ℕ → Type 0) → ((k : ℕ) → Decided (P k)) → (n : ℕ) → ((k : ℕ) × NoneBefore P 0 n k × P k)
    ⊎ Nowhere P 0 n
first_below P decide zero = inr (λ k low high. omega (arith, high))
first_below P decide (suc n) = by (first_below P decide n) (decide n)
  where
    by : ((k : ℕ) × NoneBefore P 0 n k × P k) ⊎ Nowhere P 0 n → Decided (P n)
        → ((k : ℕ) × NoneBefore P 0 (suc n) k × P k) ⊎ Nowhere P 0 (suc n)
    by (inl f) d = inl (f.0, record { low = f.1.low; high = omega (arith, f.1.high); before = f.1.before }, f.2)
    by (inr none) (inl here) = inl (n, record { low = omega arith; high = omega arith; before = none }, here)
    by (inr none) (inr not_here) = inr (λ k low high p. at k low high p (cases_eq k n))
      where
        at : (k : ℕ) → 0 ≤ k → k < suc n → P k → (k ≡ n) ⊎ (k ≡ n → ⊥) → ⊥
        at k low high p (inl e) = not_here (subst P e p)
        at k low high p (inr e) = none k low (omega (arith, high, e)) p
