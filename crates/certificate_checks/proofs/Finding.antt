-- The row that is found is there.
use Rattle.std.proofs.Common.{◌≡◌, ◌≢◌, ℕ, zero, suc, ◌+◌, ◌<◌, Bool, true, false, ◌⊎◌, inl, inr, Some, subst, eqb-true, eq-eqb, Result, Ok, Err, IfOk, List, [], ◌∷◌, length, slice_get, refl, sym, ap, ◌∙◌, arith}
use Rattle.std.specs.Prelude.{is_some, ◌==◌, ◌↔◌}
use Rattle.std.proofs.lemmas.Bool.{false≢true}
use Rattle.value_equality.specs.Rows.{Row, row_at}

held : (rows : List Row) (i : ℕ) → i < length rows → is_some (slice_get rows i) ≡ true
held [] i l = absurd (omega (arith, l))
held (r ∷ rows) zero l = refl
held (r ∷ rows) (suc i) l = held rows i (omega (arith, l))

pub found_row : (rows : List Row) (i y : ℕ) → i < length rows → slice_get rows i ≡ row_at rows y
    → is_some (row_at rows y) ≡ true
found_row rows i y lt e = ap is_some (sym e) ∙ held rows i lt

after : (i k : ℕ) (b : Bool) → (i == k) ≡ b → i < k + 1 → (i ≡ k) ⊎ (i < k)
after i k true e lt = inl (eqb-true i k e)
after i k false e lt = inr (let other : i ≢ k = (λ q. false≢true (sym e ∙ eq-eqb i k q)) in omega (arith, lt, other))

-- one row more
pub one_more : (Q : Row → Type 0) (rows : List Row) (k : ℕ) (q : Row) → slice_get rows k ≡ Some q → Q q
    → ((i : ℕ) (r : Row) → i < k → slice_get rows i ≡ Some r → Q r) → (i : ℕ) (r : Row) → i < k + 1
    → slice_get rows i ≡ Some r → Q r
one_more Q rows k q at h all i r lt e = by (after i k (i == k) refl lt)
  where
    once : (x y : Row) → Some x ≡ Some y → x ≡ y
    once x y p = cc

    by : (i ≡ k) ⊎ (i < k) → Q r
    by (inl same) = subst Q (once q r (sym at ∙ ap (slice_get rows) (sym same) ∙ e)) h
    by (inr less) = all i r less e

pub through_ok : {E A B : Type 0} (r : Result Bool E) → IfOk r (λ b. (b ≡ true) ↔ A) → (A ↔ B)
    → IfOk r (λ b. (b ≡ true) ↔ B)
through_ok (Ok b) h k = ((λ e. k.0 (h.0 e)), (λ x. h.1 (k.1 x)))
through_ok (Err e) h k = h
