-- Values that are kept, one after another.
use Rattle.std.proofs.Common.{◌≡◌, ◌<◌, ℕ, zero, suc, true, nat_lt, ◌++◌, List, [], ◌∷◌, length, get_or, sym, subst, arith}
use Rattle.std.proofs.lemmas.Bool.Decides.{nat_tests}
use Rattle.express_syntax.specs.Profile.{Every}
use Rattle.rule_evaluation.specs.declared.derived_values.Wanted.{Wanted}

is-below : (i n : ℕ) → true ≡ nat_lt i n → i < n
is-below i n h = grind (arith, nat_tests, h)

module _ {A : Type 0} (P : A → Type 0) where
  among : (xs : List A) (i : ℕ) (x : A) → i < length xs → x ≡ get_or xs i x → Every P xs → P x
  among [] i x l e h = absurd (omega (arith, l))
  among (y ∷ xs) zero x l e h = subst P (sym e) h.0
  among (y ∷ xs) (suc i) x l e h = among xs i x (omega (arith, l)) e h.1

  -- of all of them one that is found, where the list is the one that is lent
  pub every-at : (xs ys : List A) (i : ℕ) (x : A) → xs ≡ ys → true ≡ nat_lt i (length xs) → x ≡ get_or xs i x → Every P ys
      → P x
  every-at xs ys i x same l e h = among xs i x (is-below i (length xs) l) e (subst (Every P) (sym same) h)

  pub every-pushed : (xs : List A) (x : A) → Every P xs → P x → Every P (xs ++ x ∷ [])
  every-pushed [] x h p = (p, tt)
  every-pushed (y ∷ xs) x h p = (h.0, every-pushed xs x h.1 p)

-- what agrees in instance and attribute is one
pub one_wanted : (v w : Wanted) → v.instance ≡ w.instance → v.derivation.entity ≡ w.derivation.entity
    → v.derivation.number ≡ w.derivation.number → v ≡ w
one_wanted v w p q r = λ i. record { instance = p i; derivation = record { entity = q i; number = r i } }
