-- Sorted lists that have each element equally often are equal place by place.
use Rattle.std.proofs.Common.{◌≡◌, ◌<◌, ◌+◌, ℕ, suc, Bool, true, false, cond, List, [], ◌∷◌, length, get_or, refl, sym, ◌∙◌, ap, add-one, arith}
use Rattle.std.specs.declared.cmp.Ordering.{Ordering}
use Rattle.std.specs.declared.cmp.Ordering.TheVariants.{Less, Equal, Greater}
use Rattle.std.specs.Cmp.{IsTotalOrder}
use Rattle.std.specs.Cmp.Lexicographic.{pointwise}
use Rattle.std.specs.Ordering.{is_lt, is_eq, ordering_reverse}
use Rattle.std.specs.List.{sum_by}
use Rattle.std.specs.List.Sorted.{IsPermutation, IsSorted}
use Rattle.std.proofs.lemmas.Bool.{and_from, and_parts}
use Rattle.std.proofs.lemmas.Cmp.{tied_itself, alike_right}
use Rattle.std.proofs.lemmas.List.Sums.{sum_by-cons}
use Rattle.std.proofs.lemmas.List.Sorted.{sum_by-IsPermutation, sorted_far, ranks_by}

count_less : (b : Bool) (m n : ℕ) → cond b (suc m) m ≡ cond b (suc n) n → m ≡ n
count_less true m n e = omega arith
count_less false m n e = e

tied : (r s : Ordering) → r ≡ ordering_reverse s → is_lt r ≡ false → is_lt s ≡ false → is_eq r ≡ true
tied Equal s e h k = refl
tied Less s e h k = absurd (cc)
tied Greater Less e h k = absurd (cc)
tied Greater Equal e h k = absurd (cc)
tied Greater Greater e h k = absurd (cc)

is_equal : (r : Ordering) → is_eq r ≡ true → r ≡ Equal
is_equal Equal h = refl
is_equal Less h = absurd (cc)
is_equal Greater h = absurd (cc)

-- how often an element stands in a list
abbrev pub often : {K : Type 0} → (K → K → Bool) → K → List K → ℕ
often same z [] = 0
often same z (x ∷ xs) = cond (same z x) (suc (often same z xs)) (often same z xs)

module _ {K : Type 0} (same : K → K → Bool) (R : K → K → Ordering) (o : IsTotalOrder R) (ties : (x y : K)
    → same x y ≡ is_eq (R x y)) where
  -- no element of the list is before y
  abbrev Follow : K → List K → Type 0
  Follow y [] = Unit {0}
  Follow y (x ∷ xs) = (is_lt (R x y) ≡ false) × Follow y xs

  abbrev Ascend : List K → Type 0
  Ascend [] = Unit {0}
  Ascend (x ∷ xs) = Follow x xs × Ascend xs

  follow : (y : K) (xs : List K) → ((k : ℕ) (d : K) → k < length xs → is_lt (R (get_or xs k d) y) ≡ false) → Follow y xs
  follow y [] f = tt
  follow y (x ∷ xs) f = (f 0 x (omega arith), follow y xs (λ k d l. f (suc k) d (omega (arith, l))))

  tail_sorted : (x : K) (xs : List K) → IsSorted R (x ∷ xs) → IsSorted R xs
  tail_sorted x xs h k d z l =
      ap (λ n. is_lt (R (get_or xs n d) (get_or xs k d))) (add-one k)
      ∙ ap (λ n. is_lt (R (get_or (x ∷ xs) n d) (get_or xs k d))) (sym (add-one (suc k)))
      ∙ h (suc k) d (omega arith) (omega (arith, l))

  pub ascend : (xs : List K) → IsSorted R xs → Ascend xs
  ascend [] h = tt
  ascend (x ∷ xs) h = (
    follow x xs (λ k d l. sorted_far (λ a b. is_lt (R a b)) (ranks_by o (λ a. a)) (x ∷ xs) h 0 (suc k) d (omega arith)
        (omega (arith, l))),
    ascend xs (tail_sorted x xs h),
  )

  -- an element that stands in the list isn't before what all of it follows
  not_before : (x y : K) (ws : List K) → Follow y ws → 0 < often same x ws → is_lt (R x y) ≡ false
  not_before x y [] f h = absurd (omega arith)
  not_before x y (w ∷ ws) f h = go (same x w) refl h (not_before x y ws f.1)
    where
      go : (b : Bool) → same x w ≡ b → 0 < cond b (suc (often same x ws)) (often same x ws)
          → (0 < often same x ws → is_lt (R x y) ≡ false) → is_lt (R x y) ≡ false
      go true e l later = ap is_lt (o.congr x w y (is_equal (R x w) (sym (ties x w) ∙ e))) ∙ f.0
      go false e l later = later l

  same_itself : (x : K) → same x x ≡ true
  same_itself x = ties x x ∙ ap is_eq (tied_itself o x)

  itself_stands : (x : K) (xs : List K) → often same x (x ∷ xs) ≡ suc (often same x xs)
  itself_stands x xs = ap (λ b. cond b (suc (often same x xs)) (often same x xs)) (same_itself x)

  first_follows : (y : K) (ys : List K) → Ascend (y ∷ ys) → Follow y (y ∷ ys)
  first_follows y ys a = (ap is_lt (tied_itself o y), a.0)

  first_same : (x y : K) (xs ys : List K) → Ascend (x ∷ xs) → Ascend (y ∷ ys)
      → ((z : K) → often same z (x ∷ xs) ≡ often same z (y ∷ ys)) → same x y ≡ true
  first_same x y xs ys a b f =
      let here = itself_stands x xs in
      let there = itself_stands y ys in
      let mine = f x in
      let yours = f y in
      ties x y ∙ tied (R x y) (R y x) (o.antisymm x y) (not_before x y (y ∷ ys) (first_follows y ys b)
      (omega (arith, here, mine))) (not_before y x (x ∷ xs) (first_follows x xs a) (omega (arith, there, yours)))

  pub places_same : (xs ys : List K) → Ascend xs → Ascend ys → ((z : K) → often same z xs ≡ often same z ys)
      → pointwise same xs ys ≡ true
  places_same [] [] a b f = refl
  places_same [] (y ∷ ys) a b f = let e = itself_stands y ys in let g = f y in absurd (omega (arith, e, g))
  places_same (x ∷ xs) [] a b f = let e = itself_stands x xs in let g = f x in absurd (omega (arith, e, g))
  places_same (x ∷ xs) (y ∷ ys) a b f =
      let first = first_same x y xs ys a b f in
      let alike : (z : K) → same z x ≡ same z y = λ z. ties z x
      ∙ ap is_eq (alike_right o x y z (is_equal (R x y) (sym (ties x y) ∙ first))) ∙ sym (ties z y) in
      and_from (same x y) (pointwise same xs ys) first
      (places_same xs ys a.1 b.1 (λ z. count_less (same z y) (often same z xs) (often same z ys)
      (ap (λ c. cond c (suc (often same z xs)) (often same z xs)) (sym (alike z)) ∙ f z)))

  -- and those that are equal place by place have each equally often
  pub same_often : (xs ys : List K) → pointwise same xs ys ≡ true → (z : K) → often same z xs ≡ often same z ys
  same_often [] [] h z = refl
  same_often [] (y ∷ ys) h z = absurd (cc)
  same_often (x ∷ xs) [] h z = absurd (cc)
  same_often (x ∷ xs) (y ∷ ys) h z =
      let parts = and_parts (same x y) (pointwise same xs ys) h in
      ap (λ c. cond c (suc (often same z xs)) (often same z xs))
      (ties z x ∙ ap is_eq (alike_right o x y z (is_equal (R x y) (sym (ties x y) ∙ parts.0))) ∙ sym (ties z y))
      ∙ ap (λ n. cond (same z y) (suc n) n) (same_often xs ys parts.1 z)

  pub often_moved : (z : K) (xs ys : List K) → IsPermutation xs ys → often same z xs ≡ often same z ys
  often_moved z xs ys p = summed xs ∙ sym (sum_by-IsPermutation (λ x. cond (same z x) 1 0) xs ys p) ∙ sym (summed ys)
    where
      one : (b : Bool) (m n : ℕ) → m ≡ n → cond b (suc m) m ≡ cond b 1 0 + n
      one true m n e = omega (arith, e)
      one false m n e = omega (arith, e)

      summed : (xs : List K) → often same z xs ≡ sum_by (λ x. cond (same z x) 1 0) xs
      summed [] = refl
      summed (x ∷ xs) = one (same z x) (often same z xs) (sum_by (λ x. cond (same z x) 1 0) xs) (summed xs)
          ∙ sym (sum_by-cons (λ x. cond (same z x) 1 0) x xs)
