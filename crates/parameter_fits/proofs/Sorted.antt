-- Of a sorted list no two elements are the same where no two neighbours are.
use Rattle.std.proofs.Common.{◌≡◌, ◌≤◌, ℕ, suc, Bool, true, false, cond, List, [], ◌∷◌, refl, sym, ◌∙◌, ap, arith}
use Rattle.std.specs.Prelude.{not, ◌&&◌}
use Rattle.std.specs.declared.cmp.Ordering.{Ordering}
use Rattle.std.specs.Cmp.{IsTotalOrder}
use Rattle.std.specs.declared.cmp.Ordering.TheVariants.{Less, Equal, Greater}
use Rattle.std.specs.Ordering.{is_lt, is_eq, ordering_reverse}
use Rattle.std.specs.List.Sorted.{IsPermutation, IsSorted}
use Rattle.std.proofs.lemmas.Bool.{and_from, and_parts}
use Rattle.std.proofs.lemmas.Cmp.{tied_itself}
use Rattle.step_values.proofs.Sorting.{often, often_moved, ascend}
use Rattle.step_values.proofs.Deciding.{same_bool}
use Rattle.parameter_fits.specs.steps.Apart.{differs, all_apart, neighbours_apart}

not_true : (b : Bool) → not b ≡ true → b ≡ false
not_true false e = refl
not_true true e = absurd (cc)

is_equal : (r : Ordering) → is_eq r ≡ true → r ≡ Equal
is_equal Equal h = refl
is_equal Less h = absurd (cc)
is_equal Greater h = absurd (cc)

tied : (r s : Ordering) → r ≡ ordering_reverse s → is_lt r ≡ false → is_lt s ≡ false → is_eq r ≡ true
tied Equal s e h k = refl
tied Less s e h k = absurd (cc)
tied Greater Less e h k = absurd (cc)
tied Greater Equal e h k = absurd (cc)
tied Greater Greater e h k = absurd (cc)

module _ {K : Type 0} (same : K → K → Bool) (R : K → K → Ordering) (o : IsTotalOrder R)
    (ties : (x y : K) → same x y ≡ is_eq (R x y)) where
  -- each element stands once at most
  abbrev Once : List K → Type 0
  Once xs = (z : K) → often same z xs ≤ 1

  none_of : (x : K) (xs : List K) → differs same x xs ≡ true → often same x xs ≡ 0
  none_of x [] d = refl
  none_of x (y ∷ ys) d =
      let parts = and_parts (not (same x y)) (differs same x ys) d in
      ap (λ b. cond b (suc (often same x ys)) (often same x ys)) (not_true (same x y) parts.0) ∙ none_of x ys parts.1

  of_none : (x : K) (xs : List K) → often same x xs ≡ 0 → differs same x xs ≡ true
  of_none x [] e = refl
  of_none x (y ∷ ys) e = go (same x y) refl e (of_none x ys)
    where
      go : (b : Bool) → same x y ≡ b → cond b (suc (often same x ys)) (often same x ys) ≡ 0
          → (often same x ys ≡ 0 → differs same x ys ≡ true) → (not (same x y) && differs same x ys) ≡ true
      go true f e g = absurd (omega (arith, e))
      go false f e g = and_from (not (same x y)) (differs same x ys) (ap not f) (g e)

  alike : (z x w : K) → same z x ≡ true → same z w ≡ same x w
  alike z x w e = ties z w ∙ ap is_eq (o.congr z x w (is_equal (R z x) (sym (ties z x) ∙ e))) ∙ sym (ties x w)

  often_alike : (z x : K) (ws : List K) → same z x ≡ true → often same z ws ≡ often same x ws
  often_alike z x [] e = refl
  often_alike z x (w ∷ ws) e = ap (λ b. cond b (suc (often same z ws)) (often same z ws)) (alike z x w e)
      ∙ ap (λ n. cond (same x w) (suc n) n) (often_alike z x ws e)

  once : (xs : List K) → all_apart same xs ≡ true → Once xs
  once [] a z = omega arith
  once (x ∷ xs) a z =
      let parts = and_parts (differs same x xs) (all_apart same xs) a in
      go (same z x) refl (none_of x xs parts.0) (once xs parts.1 z)
    where
      go : (b : Bool) → same z x ≡ b → often same x xs ≡ 0 → often same z xs ≤ 1
          → cond b (suc (often same z xs)) (often same z xs) ≤ 1
      go true e n l = let k = often_alike z x xs e in omega (arith, n, k)
      go false e n l = l

  itself : (x : K) (xs : List K) → often same x (x ∷ xs) ≡ suc (often same x xs)
  itself x xs = ap (λ b. cond b (suc (often same x xs)) (often same x xs)) (ties x x ∙ ap is_eq (tied_itself o x))

  fewer : (b : Bool) (n : ℕ) → cond b (suc n) n ≤ 1 → n ≤ 1
  fewer true n l = omega (arith, l)
  fewer false n l = l

  apart : (xs : List K) → Once xs → all_apart same xs ≡ true
  apart [] h = refl
  apart (x ∷ xs) h =
      let here = itself x xs in let most = h x in
      and_from (differs same x xs) (all_apart same xs) (of_none x xs (omega (arith, here, most)))
      (apart xs (λ z. fewer (same z x) (often same z xs) (h z)))

  -- no element of the list is before y
  abbrev Follow : K → List K → Type 0
  Follow y [] = Unit {0}
  Follow y (x ∷ xs) = (is_lt (R x y) ≡ false) × Follow y xs

  abbrev Ascend : List K → Type 0
  Ascend [] = Unit {0}
  Ascend (x ∷ xs) = Follow x xs × Ascend xs

  beyond : (x y : K) (ws : List K) → same x y ≡ false → is_lt (R y x) ≡ false → Follow y ws → differs same x ws ≡ true
  beyond x y [] n l f = refl
  beyond x y (w ∷ ws) n l f = and_from (not (same x w)) (differs same x ws) (go (same x w) refl) (beyond x y ws n l f.1)
    where
      go : (b : Bool) → same x w ≡ b → not b ≡ true
      go false e = refl
      go true e =
          let before : is_lt (R x y) ≡ false = ap is_lt (o.congr x w y (is_equal (R x w) (sym (ties x w) ∙ e))) ∙ f.0 in
          let same_pair : same x y ≡ true = ties x y ∙ tied (R x y) (R y x) (o.antisymm x y) before l in
          absurd (cc)

  apart_by : (xs : List K) → Ascend xs → neighbours_apart same xs ≡ true → all_apart same xs ≡ true
  apart_by [] a n = refl
  apart_by (x ∷ []) a n = refl
  apart_by (x ∷ y ∷ ys) a n =
      let parts = and_parts (not (same x y)) (neighbours_apart same (y ∷ ys)) n in
      let far = beyond x y ys (not_true (same x y) parts.0) a.0.0 a.1.0 in
      and_from (differs same x (y ∷ ys)) (all_apart same (y ∷ ys))
      (and_from (not (same x y)) (differs same x ys) parts.0 far) (apart_by (y ∷ ys) a.1 parts.1)

  neighbours : (xs : List K) → all_apart same xs ≡ true → neighbours_apart same xs ≡ true
  neighbours [] a = refl
  neighbours (x ∷ []) a = refl
  neighbours (x ∷ y ∷ ys) a =
      let parts = and_parts (differs same x (y ∷ ys)) (all_apart same (y ∷ ys)) a in
      let first = and_parts (not (same x y)) (differs same x ys) parts.0 in
      and_from (not (same x y)) (neighbours_apart same (y ∷ ys)) first.0 (neighbours (y ∷ ys) parts.1)

  -- sorting and looking at neighbours decides
  pub decided : (ms ns : List K) → IsPermutation ms ns → IsSorted R ns → neighbours_apart same ns ≡ all_apart same ms
  decided ms ns p s = same_bool (neighbours_apart same ns) (all_apart same ms)
      (λ e.
      let each = once ns (apart_by ns (ascend same R o ties ns s) e) in
      apart ms (λ z. let k = often_moved same R o ties z ms ns p in let l = each z in omega (arith, k, l)))
      (λ e.
      let each = once ms e in
      neighbours ns (apart ns (λ z.
      let k = often_moved same R o ties z ms ns p in
      let l = each z in
      omega (arith, k, l))))
