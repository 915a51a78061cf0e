-- Lists item by item, behind what there is of them already.
use Rattle.std.specs.Prelude.{◌≡◌, ℕ, zero, suc, ◌+◌, ◌<◌, ◌≤◌, List, [], ◌∷◌, ◌++◌, length, Option, Some, None}
use Rattle.std.proofs.Common.{refl, sym, ◌∙◌, ap, arith, get_or, drop, add-one}

-- what is left of a list at a place within it
pub drop_at : {A : Type 0} (xs : List A) (i : ℕ) (d : A) → i < length xs → drop i xs ≡ get_or xs i d ∷ drop (i + 1) xs
drop_at xs i d lt = go xs i lt ∙ ap (λ n. get_or xs i d ∷ drop n xs) (sym (add-one i))
  where
    go : (xs : List _) (i : ℕ) → i < length xs → drop i xs ≡ get_or xs i d ∷ drop (suc i) xs
    go [] i lt = absurd (omega (arith, lt))
    go (x ∷ xs) zero lt = refl
    go (x ∷ xs) (suc i) lt = go xs i (omega (arith, lt))

pub drop_all : {A : Type 0} (xs : List A) (i : ℕ) → length xs ≤ i → drop i xs ≡ []
drop_all [] zero h = refl
drop_all [] (suc i) h = refl
drop_all (x ∷ xs) zero h = absurd (omega (arith, h))
drop_all (x ∷ xs) (suc i) h = drop_all xs i (omega (arith, h))

module _ {A : Type 0} where
  -- what is there in front of others, if these are there
  abbrev pub behind : List A → Option (List A) → Option (List A)
  behind xs None = None
  behind xs (Some ys) = Some (xs ++ ys)

  abbrev pub in_front : A → Option (List A) → Option (List A)
  in_front x None = None
  in_front x (Some ys) = Some (x ∷ ys)

  pub append_one : (xs : List A) (x : A) (ys : List A) → (xs ++ x ∷ []) ++ ys ≡ xs ++ x ∷ ys
  append_one [] x ys = refl
  append_one (z ∷ xs) x ys = ap (λ zs. z ∷ zs) (append_one xs x ys)

  pub behind_more : (xs : List A) (x : A) (o : Option (List A)) → behind (xs ++ x ∷ []) o ≡ behind xs (in_front x o)
  behind_more xs x None = refl
  behind_more xs x (Some ys) = ap Some (append_one xs x ys)
