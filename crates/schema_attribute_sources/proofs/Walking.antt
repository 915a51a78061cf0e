-- A list that is gone over from the front, where what is left decides.
use Rattle.std.specs.Prelude.{◌≡◌, ℕ, suc, ◌+◌, ◌<◌, List, ◌∷◌, drop, length, get_or}
use Rattle.std.proofs.Common.{ap, sym, subst, ◌∙◌, arith}
use Rattle.std.proofs.Math.Seq.{drop-cons}

-- What is said of a list from each place on, by the item there and what is said of those behind it.
module _ {A R : Type 0} (said : ℕ → List A → R) (step : ℕ → A → R → R)
    (behind : (k : ℕ) (x : A) (xs : List A) → said k (x ∷ xs) ≡ step k x (said (k + 1) xs)) where
  pub from-here : (whole : R) (xs : List A) (i : ℕ) (d : A) → i < length xs → said i (drop i xs) ≡ whole
      → step i (get_or xs i d) (said (i + 1) (drop (i + 1) xs)) ≡ whole
  from-here whole xs i d lt left =
      subst (λ j. step i (get_or xs i d) (said (i + 1) (drop j xs)) ≡ whole) next
      (sym (behind i (get_or xs i d) (drop (suc i) xs)) ∙ sym (ap (said i) (drop-cons xs i d lt)) ∙ left)
    where
      next : suc i ≡ i + 1
      next = omega arith
