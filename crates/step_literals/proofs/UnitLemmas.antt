-- The units of numbers: their order, and whole numbers of units.
use Rattle.std.proofs.Common.{◌≡◌, ℕ, zero, suc, ◌+◌, ◌-◌, ◌*◌, ◌%◌, ◌^◌, ◌<◌, ◌≤◌, Bool, true, false, not, List, [], ◌∷◌, length, ℤ, pos, negsuc, neg_ℤ, ◌-ℤ◌, ◌*ℤ◌, ◌<ℤ◌, Option, Some, None, Result, Ok, Err, to_z, of_z, subst, refl, sym, ap, ◌∙◌, arith, inl, inr}
use Rattle.std.specs.Prelude.{◌⊎◌, ◌||◌, unsigned_abs, FitsSigned, MatchOption}
use Rattle.std.specs.Int.{w64, w128}
use Rattle.std.specs.Result.{OkIff, result_ok}
use Rattle.std.specs.declared.cmp.Ordering.{Ordering}
use Rattle.std.specs.Ordering.{MatchOrdering, nat_cmp, int_cmp, ordering_reverse}
use Rattle.std.specs.Cmp.{int_cmp_is, nat_cmp_is}
use Rattle.std.specs.declared.cmp.Ordering.TheVariants.{Less, Equal, Greater}
use Rattle.std.proofs.lemmas.Cmp.{ranked}
use Rattle.std.proofs.lemmas.Nat.{pow-add}
use Rattle.std.proofs.lemmas.Int.{ints}
use Rattle.std.proofs.lemmas.Bool.{cases_lt}
use Rattle.std.proofs.Math.Bool.{beq}
use Rattle.std.proofs.Math.Nat.{pow-suc, pow-le-pow_right, mul-le-mul_right, mul-lt-mul_of_pos_right, le_of_mul-le-mul_right}
use Rattle.step_literals.specs.declared.literal.decimals.Digits.{Digits}
use Rattle.step_literals.specs.Decimals.{signed, units, finest, ten_to, turned, IsWhole}
use Rattle.step_literals.specs.steps.DigitStrings.{is_significant, has_digit, magnitude, digit, front_value, end_of, top, significant_digits, shift_of, is_below_zero}
use Rattle.step_literals.specs.steps.Digits.{digits_of, magnitude_of, worth_of}
use Rattle.step_literals.specs.steps.MagnitudeLemmas.{digit_small, ten_pos, magnitude_leads, magnitude_none, magnitude_below, scaled, front_below, front_whole}
use Rattle.step_literals.specs.steps.NormalFormLemmas.{no_tens, signed_times, signed_same, units_by_digits, magnitude_end, magnitude_some, end_value, end_within, end_last, end_some}
use Rattle.step_literals.proofs.DecimalDigits.{matched}
use Rattle.step_literals.proofs.DecimalText.{finest_is}

-- the units of a number, by the digits cut from its text
pub units_by_cut : (d : Digits) (t : List ℕ) → digits_of d ≡ significant_digits t → d.shift ≡ shift_of t
    → d.below_zero ≡ is_below_zero t → units t ≡ signed d.below_zero (magnitude_of d)
units_by_cut d t hd hs hb = units_by_digits t ∙ (λ i. signed (sym hb i) (magnitude (sym hd i) (sym hs i)))

some_below : (b : Bool) (xs : List ℕ) (s : ℕ) → is_significant xs ≡ true → b ≡ true → (not b || has_digit xs) ≡ true
    → 0 < magnitude xs s
some_below true [] s sig h g = absurd (let q : false ≡ true = g in cc)
some_below false [] s sig h g = absurd (cc)
some_below b (x ∷ xs) s sig h g = magnitude_some x xs s sig

-- what is below zero isn't 0
pub below_is_some : (d : Digits) → d.below_zero ≡ true → 0 < magnitude_of d
below_is_some d h = some_below d.below_zero (digits_of d) d.shift d.significant h d.sign

order_of : (r : Ordering) (m n : ℕ) (x y : ℤ) → r ≡ nat_cmp m n → (m < n → x <ℤ y) → (m ≡ n → x ≡ y) → (n < m → y <ℤ x)
    → r ≡ int_cmp x y
order_of r m n x y h less same greater = int_cmp_is x y r (matched r (ranked m n r h) less same greater)

-- two numbers that aren't below zero
pub order_above : (r : Ordering) (b p : Bool) (m n : ℕ) (x y : ℤ) → x ≡ signed b m → y ≡ signed p n → b ≡ false
    → p ≡ false → r ≡ nat_cmp m n → r ≡ int_cmp x y
order_above r b p m n x y hx hy hb hp h =
    let ex : x ≡ pos m = hx ∙ ap (λ c. signed c m) hb in
    let ey : y ≡ pos n = hy ∙ ap (λ c. signed c n) hp in
    order_of r m n x y h (λ l. omega (arith, ints, ex, ey, l)) (λ l. omega (arith, ints, ex, ey, l))
    (λ l. omega (arith, ints, ex, ey, l))

-- two numbers below zero
pub order_below : (r : Ordering) (b p : Bool) (m n : ℕ) (x y : ℤ) → x ≡ signed b m → y ≡ signed p n → b ≡ true
    → p ≡ true → r ≡ nat_cmp n m → r ≡ int_cmp x y
order_below r b p m n x y hx hy hb hp h =
    let ex : x ≡ neg_ℤ (pos m) = hx ∙ ap (λ c. signed c m) hb in
    let ey : y ≡ neg_ℤ (pos n) = hy ∙ ap (λ c. signed c n) hp in
    order_of r n m x y h (λ l. omega (arith, ints, ex, ey, l)) (λ l. omega (arith, ints, ex, ey, l))
    (λ l. omega (arith, ints, ex, ey, l))

-- one of each
pub less_by_sign : (b p : Bool) (m n : ℕ) (x y : ℤ) → x ≡ signed b m → y ≡ signed p n → b ≡ true → p ≡ false → 0 < m
    → x <ℤ y
less_by_sign b p m n x y hx hy hb hp h =
    let ex : x ≡ neg_ℤ (pos m) = hx ∙ ap (λ c. signed c m) hb in
    let ey : y ≡ pos n = hy ∙ ap (λ c. signed c n) hp in
    omega (arith, ints, ex, ey, h)

-- a product with a whole number, and its sign
abs_times : (b : Bool) (m p : ℕ) (n : ℤ) → signed b m ≡ n *ℤ pos p → m ≡ unsigned_abs n * p
abs_times b m p (pos k) e = (signed_same b false m (k * p) e).0
abs_times b m p (negsuc k) e = (signed_same b true m (suc k * p) e).0

abs_small : (n : ℤ) → FitsSigned w64 n → unsigned_abs n ≤ 2 ^ 63
abs_small (pos k) h = omega (arith, h.sfits)
abs_small (negsuc k) h = omega (arith, h.sfits)

same_times : (a b p : ℕ) → 0 < p → a * p ≡ b * p → a ≡ b
same_times a b p h e =
    let le : a ≤ b = le_of_mul-le-mul_right {k = p} (omega (arith, e)) h in
    let ge : b ≤ a = le_of_mul-le-mul_right {k = p} (omega (arith, e)) h in omega (arith, le, ge)

pub times_pos : (k p : ℕ) → 0 < p → 0 < suc k * p
times_pos k p h = omega (arith, h)

pub times_cancel : (x y : ℤ) (p : ℕ) → 0 < p → x *ℤ pos p ≡ y *ℤ pos p → x ≡ y
times_cancel (pos j) (pos k) p h e = ap pos (same_times j k p h (signed_same false false (j * p) (k * p) e).0)
times_cancel (pos j) (negsuc k) p h e = absurd (omega (arith, ints, e, times_pos k p h))
times_cancel (negsuc j) (pos k) p h e = absurd (omega (arith, ints, e, times_pos j p h))
times_cancel (negsuc j) (negsuc k) p h e = let q = same_times (suc j) (suc k) p h
    (signed_same true true (suc j * p) (suc k * p) e).0 in ap negsuc (omega (arith, q))

-- a number of more than 19 digits before the point
above_long : (xs : List ℕ) (s f w : ℕ) → is_significant xs ≡ true → 19 < top xs s - f → w ≤ 2 ^ 63
    → w * 10 ^ f < magnitude xs s
above_long [] s f w sig h small = absurd (omega (arith, h))
above_long (x ∷ xs) s f w sig h small =
    let le : 10 ^ (f + 19) ≤ 10 ^ (length xs + s) = pow-le-pow_right (omega arith) (omega (arith, h)) in
    let below : w * 10 ^ f ≤ 2 ^ 63 * 10 ^ f = mul-le-mul_right (10 ^ f) small in
    omega (arith, le, below, pow-add 10 f 19, ten_pos f, magnitude_leads x xs s sig)

pub too_long : (xs : List ℕ) (s f : ℕ) (b : Bool) (n : ℤ) → is_significant xs ≡ true → 19 < top xs s - f
    → FitsSigned w64 n → signed b (magnitude xs s) ≡ n *ℤ pos (10 ^ f) → ⊥
too_long xs s f b n sig h fits e = omega (
  arith,
  above_long xs s f (unsigned_abs n) sig h (abs_small n fits),
  abs_times b (magnitude xs s) (10 ^ f) n e,
)

-- a digit that isn't 0, and a greater power of ten
too_fine_of : (m q a j : ℕ) → 0 < m % 10 → m * 10 ^ a ≡ q * 10 ^ (a + suc j) → ⊥
too_fine_of m q zero j h e =
    let s : 0 + suc j ≡ suc j = omega arith in
    let t = rw (s, pow-suc 10 j) at e in let u : m ≡ q * 10 ^ j * 10 = omega (arith, t) in
    omega (arith, no_tens m (q * 10 ^ j) u, h)
too_fine_of m q (suc a) j h e =
    let s : suc a + suc j ≡ suc (a + suc j) = omega arith in
    let t = rw (s, pow-suc 10 a, pow-suc 10 (a + suc j)) at e in let u : m * 10 ^ a ≡ q * 10 ^ (a + suc j) =
    omega (arith, t) in
    too_fine_of m q a j h u

top_of : (xs : List ℕ) (s : ℕ) → 0 < length xs → top xs s ≡ length xs + s
top_of [] s h = absurd (omega (arith, h))
top_of (x ∷ xs) s h = refl

-- a digit behind the point that isn't 0
pub too_fine : (xs : List ℕ) (s f : ℕ) (b : Bool) (n : ℤ) → is_significant xs ≡ true → top xs s - f < end_of (length xs)
    xs → signed b (magnitude xs s) ≡ n *ℤ pos (10 ^ f) → ⊥
too_fine xs s f b n sig h e =
    let some : 0 < length xs = omega (arith, h, end_within xs s sig) in
    let a = length xs - end_of (length xs) xs + s in
    let low : a + suc (f - suc a) ≡ f = omega (arith, h, end_within xs s sig, top_of xs s some) in
    let same : front_value (end_of (length xs) xs) xs * 10 ^ a ≡ unsigned_abs n * 10 ^ (a + suc (f - suc a)) =
    sym (magnitude_end xs s sig) ∙ abs_times b (magnitude xs s) (10 ^ f) n e ∙ ap (λ k. unsigned_abs n * 10 ^ k)
    (sym low) in
    too_fine_of (front_value (end_of (length xs) xs) xs) (unsigned_abs n) a (f - suc a)
    (end_last xs s sig (omega (arith, h))) same

-- digits in front of others, and one more in the last of them
front_span : (xs : List ℕ) (n k : ℕ) → ((j : ℕ) → digit xs j ≤ 9)
    → (front_value n xs * 10 ^ k ≤ front_value (k + n) xs) × (front_value (k + n) xs < suc (front_value n xs) * 10 ^ k)
front_span xs n zero small = let e : 0 + n ≡ n = omega arith in rw e (omega arith, omega arith)
front_span xs n (suc k) small =
    let e : suc k + n ≡ suc (k + n) = omega arith in
    let h = front_span xs n k small in
    rw (e, pow-suc) (omega (arith, h.0, h.1, small (k + n)), omega (arith, h.0, h.1, small (k + n)))

-- the digits before the point are worth the whole number below
floor_by : (xs : List ℕ) (s f n : ℕ) → is_significant xs ≡ true → n + f ≡ length xs + s
    → (n < length xs) ⊎ (length xs ≤ n)
    → (front_value n xs * 10 ^ f ≤ magnitude xs s) × (magnitude xs s < suc (front_value n xs) * 10 ^ f)
unfolding magnitude
floor_by xs s f n sig e (inr h) =
    let same = scaled xs s n f h e in rw same (omega arith, omega (arith, ten_pos f))
floor_by xs s f n sig e (inl h) =
    let k = length xs - n in
    let f_is : f ≡ k + s = omega (arith, h, e) in
    let l : k + n ≡ length xs = omega (arith, h) in
    let span = rw l at (front_span xs n k (digit_small xs sig)) in
    let low = mul-le-mul_right (10 ^ s) span.0 in
    let high = mul-lt-mul_of_pos_right span.1 (ten_pos s) in
    rw (f_is, pow-add, sym (front_whole xs)) (omega (arith, low), omega (arith, high))

pub floor : (xs : List ℕ) (s f n : ℕ) → is_significant xs ≡ true → n ≡ top xs s - f
    → (front_value n xs * 10 ^ f ≤ magnitude xs s) × (magnitude xs s < suc (front_value n xs) * 10 ^ f)
floor [] s f n sig e =
    let z : n ≡ 0 = omega (arith, e) in
    rw (z, magnitude_none s) (omega arith, omega (arith, ten_pos f))
floor (x ∷ xs) s f n sig e = by (cases_lt (top (x ∷ xs) s) f)
  where
    by : (top (x ∷ xs) s < f) ⊎ (f ≤ top (x ∷ xs) s)
        → (front_value n (x ∷ xs) * 10 ^ f ≤ magnitude (x ∷ xs) s)
        × (magnitude (x ∷ xs) s < suc (front_value n (x ∷ xs)) * 10 ^ f)
    by (inl h) =
        let z : n ≡ 0 = omega (arith, e, h) in
        let le : 10 ^ (length (x ∷ xs) + s) ≤ 10 ^ f = pow-le-pow_right (omega arith) (omega (arith, h)) in
        rw z (omega arith, omega (arith, le, magnitude_below (x ∷ xs) s sig))
    by (inr h) = floor_by (x ∷ xs) s f n sig (omega (arith, e, h)) (cases_lt n (length (x ∷ xs)))

-- if no digits but zeros follow the point, the number is the whole number
exact_of : (xs : List ℕ) (s f n : ℕ) → is_significant xs ≡ true → 0 < length xs → n + f ≡ length xs + s
    → end_of (length xs) xs ≤ n → (n < length xs) ⊎ (length xs ≤ n) → magnitude xs s ≡ front_value n xs * 10 ^ f
unfolding magnitude
exact_of xs s f n sig some e le (inr h) = scaled xs s n f h e
exact_of xs s f n sig some e le (inl h) =
    let p : length xs - end_of (length xs) xs + s ≡ n - end_of (length xs) xs + f =
    omega (arith, e, le, end_within xs s sig) in
    magnitude_end xs s sig ∙ (rw (p, pow-add)
    (omega (arith, ap (λ v. v * 10 ^ f) (end_value xs s sig n le (omega (arith, h))))))

exact : (xs : List ℕ) (s f n : ℕ) → is_significant xs ≡ true → n ≡ top xs s - f → end_of (length xs) xs ≤ n
    → magnitude xs s ≡ front_value n xs * 10 ^ f
exact [] s f n sig hn le = let e : n ≡ 0 = omega (arith, hn) in rw e (omega (arith, magnitude_none s))
exact (x ∷ xs) s f n sig hn le =
    let some : 0 < end_of (length (x ∷ xs)) (x ∷ xs) = end_some (x ∷ xs) s sig (magnitude_some x xs s sig) in
    exact_of (x ∷ xs) s f n sig (omega arith) (omega (arith, hn, le, some)) le (cases_lt n (length (x ∷ xs)))

-- digits that are no whole number within 64 bits
module _ (d : Digits) (len : ℕ) (hl : len ≡ top (digits_of d) d.shift - 1000400) where
  len_is : len ≡ top (digits_of d) d.shift - finest
  len_is = hl ∙ ap (λ k. top (digits_of d) d.shift - k) (sym finest_is)

  pub long_is_none : 19 < len → (n : ℤ) → FitsSigned w64 n → IsWhole (worth_of d) n → ⊥
  long_is_none h n fits w = too_long (digits_of d) d.shift finest d.below_zero n d.significant
      (omega (arith, len_is, h)) fits w

  pub fine_is_none : len < end_of (length (digits_of d)) (digits_of d) → (n : ℤ) → FitsSigned w64 n
      → IsWhole (worth_of d) n → ⊥
  fine_is_none h n fits w = too_fine (digits_of d) d.shift finest d.below_zero n d.significant
      (omega (arith, len_is, h)) w

  -- those that are a whole number of at most 19 digits
  pub whole_units : end_of (length (digits_of d)) (digits_of d) ≤ len → worth_of d ≡ signed d.below_zero
      (front_value len (digits_of d)) *ℤ pos (10 ^ finest)
  whole_units le =
      ap (signed d.below_zero) (exact (digits_of d) d.shift finest len d.significant len_is le)
      ∙ sym (signed_times d.below_zero (front_value len (digits_of d)) (10 ^ finest))

  pub whole_small : len ≤ 19 → front_value len (digits_of d) < 2 ^ 64
  whole_small h =
      let le : 10 ^ len ≤ 10 ^ 19 = pow-le-pow_right (omega arith) h in
      omega (arith, le, front_below (digits_of d) len (digit_small (digits_of d) d.significant))

-- what is cut from a number, compared with a whole number
module _ (d : Digits) (w len : ℕ) (hl : len ≡ top (digits_of d) d.shift - 1000400) where
  cut_at : len ≡ top (digits_of d) d.shift - finest
  cut_at = hl ∙ ap (λ k. top (digits_of d) d.shift - k) (sym finest_is)

  pub long_is_greater : 19 < len → w ≤ 2 ^ 63 → Greater ≡ nat_cmp (magnitude_of d) (w * 10 ^ finest)
  long_is_greater h small = nat_cmp_is _ _ Greater (above_long (digits_of d) d.shift finest w d.significant
      (omega (arith, cut_at, h)) small)

  -- the digits before the point, which are at most 19
  front_is : (v : ℕ) → v ≡ front_value len (digits_of d) % 2 ^ 64 → len ≤ 19 → v ≡ front_value len (digits_of d)
  front_is v hv h =
      let le : 10 ^ len ≤ 10 ^ 19 = pow-le-pow_right (omega arith) h in
      omega (arith, hv, le, front_below (digits_of d) len (digit_small (digits_of d) d.significant))

  -- they are the whole number, and more stands behind the point
  pub fine_is_greater : (v : ℕ) → v ≡ front_value len (digits_of d) % 2 ^ 64 → len ≤ 19 → v ≡ w
      → len < end_of (length (digits_of d)) (digits_of d) → Greater ≡ nat_cmp (magnitude_of d) (w * 10 ^ finest)
  fine_is_greater v hv h e more =
      let low = (floor (digits_of d) d.shift finest len d.significant cut_at).0 in
      let f = sym (front_is v hv h) ∙ e in
      let le : w * 10 ^ finest ≤ magnitude_of d = rw f at low in
      let differ : magnitude_of d ≡ w * 10 ^ finest → ⊥ = λ same. too_fine (digits_of d) d.shift finest false (pos w)
      d.significant (omega (arith, cut_at, more)) (ap pos same) in
      nat_cmp_is _ _ Greater (by (cases_lt (w * 10 ^ finest) (magnitude_of d)) le differ)
    where
      by : {m n : ℕ} → (m < n) ⊎ (n ≤ m) → m ≤ n → (n ≡ m → ⊥) → m < n
      by (inl h) le differ = h
      by (inr h) le differ = absurd (differ (omega (arith, h, le)))

  -- they tell the order else
  pub front_orders : (v : ℕ) (r : Ordering) → v ≡ front_value len (digits_of d) % 2 ^ 64 → len ≤ 19
      → (v ≡ w → end_of (length (digits_of d)) (digits_of d) ≤ len) → r ≡ nat_cmp v w
      → r ≡ nat_cmp (magnitude_of d) (w * 10 ^ finest)
  front_orders v r hv h whole e =
      let span = floor (digits_of d) d.shift finest len d.significant cut_at in
      let f = front_is v hv h in
      nat_cmp_is _ _ r (matched r (ranked v w r e)
      (λ less. let le : suc v * 10 ^ finest ≤ w * 10 ^ finest = mul-le-mul_right (10 ^ finest) less in
      let high = rw (sym f) at span.1 in omega (arith, le, high))
      (λ same. exact (digits_of d) d.shift finest len d.significant cut_at (whole same)
      ∙ ap (λ k. k * 10 ^ finest) (sym f ∙ same))
      (λ more. let lt : w * 10 ^ finest < v * 10 ^ finest = mul-lt-mul_of_pos_right more (ten_pos finest) in
      let low = rw (sym f) at span.0 in omega (arith, lt, low)))

-- a whole number in units
pub times_above : (n : ℤ) (m : ℕ) (b : Bool) → b ≡ false → n ≡ pos m → n *ℤ ten_to (pos finest) ≡ signed b
    (m * 10 ^ finest)
times_above n m b h e = ap (λ z. z *ℤ pos (10 ^ finest)) e ∙ signed_times false m (10 ^ finest)
    ∙ ap (λ c. signed c (m * 10 ^ finest)) (sym h)

pub times_below : (n : ℤ) (m : ℕ) (b : Bool) → b ≡ true → n ≡ neg_ℤ (pos m) → n *ℤ ten_to (pos finest) ≡ signed b
    (m * 10 ^ finest)
times_below n m b h e = ap (λ z. z *ℤ pos (10 ^ finest)) e ∙ signed_times true m (10 ^ finest)
    ∙ ap (λ c. signed c (m * 10 ^ finest)) (sym h)

reversed_by : (r s : Ordering) (m n : ℕ) → MatchOrdering r (m < n) (m ≡ n) (n < m) → s ≡ ordering_reverse r
    → MatchOrdering s (n < m) (n ≡ m) (m < n)
reversed_by Less s m n h e = rw e h
reversed_by Equal s m n h e = rw e (sym h)
reversed_by Greater s m n h e = rw e h

pub tens_some : (m f : ℕ) → 0 < m → 0 < m * 10 ^ f
tens_some m f h = let le : 1 * 10 ^ f ≤ m * 10 ^ f = mul-le-mul_right (10 ^ f) h in omega (arith, le, ten_pos f)

pub reversed : (r s : Ordering) (m n : ℕ) → r ≡ nat_cmp m n → s ≡ ordering_reverse r → s ≡ nat_cmp n m
reversed r s m n h e = nat_cmp_is n m s (reversed_by r s m n (ranked m n r h) e)

-- a number with its sign turned, where it has a digit and where it has none
pub turned_some : (b t r : Bool) (m : ℕ) → r ≡ not (beq b t) → signed r m ≡ turned t (signed b m)
turned_some true true r m h = ap (λ c. signed c m) h ∙ omega (arith, ints)
turned_some true false r m h = ap (λ c. signed c m) h
turned_some false true r m h = ap (λ c. signed c m) h
turned_some false false r m h = ap (λ c. signed c m) h

zero_either : (b : Bool) → signed b 0 ≡ pos 0
zero_either true = refl
zero_either false = refl

zero_turned : (t : Bool) (z : ℤ) → z ≡ pos 0 → turned t z ≡ pos 0
zero_turned true z h = rw h refl
zero_turned false z h = h

none_worth : (xs : List ℕ) (s : ℕ) → length xs ≤ 0 → magnitude xs s ≡ 0
none_worth [] s h = magnitude_none s
none_worth (x ∷ xs) s h = absurd (omega (arith, h))

pub turned_none : (b t r : Bool) (xs : List ℕ) (s : ℕ) → length xs ≤ 0
    → signed r (magnitude xs s) ≡ turned t (signed b (magnitude xs s))
turned_none b t r xs s h =
    let e = none_worth xs s h in
    ap (signed r) e ∙ zero_either r ∙ sym (zero_turned t (signed b (magnitude xs s)) (ap (signed b) e ∙ zero_either b))

-- a number of 128 bits, negated and not
pub negated : (z m : ℤ) (v w : ℕ) → m ≡ pos v → v ≡ w % 2 ^ 64 → w < 2 ^ 64
    → z ≡ to_z w128 (of_z w128 (pos 0 -ℤ to_z w128 (of_z w128 m))) → z ≡ neg_ℤ (pos w)
negated z m v w hm hv hw e = omega (arith, ints, hm, hv, hw, e)

pub not_negated : (z m : ℤ) (v w : ℕ) → m ≡ pos v → v ≡ w % 2 ^ 64 → w < 2 ^ 64 → z ≡ to_z w128 (of_z w128 m)
    → z ≡ pos w
not_negated z m v w hm hv hw e = omega (arith, ints, hm, hv, hw, e)

-- the whole number, where it is within 64 bits
pub whole_told : {E : Type 0} (u : ℤ) (b : Bool) (w : ℕ) (z : ℤ) (r : Result ℤ E) (o : Option ℤ)
    → u ≡ signed b w *ℤ pos (10 ^ finest) → z ≡ signed b w → OkIff r (FitsSigned w64 z) z → o ≡ result_ok r
    → MatchOption o ((n : ℤ) → FitsSigned w64 n → IsWhole u n → ⊥) (λ n. IsWhole u n)
whole_told u b w z (Ok x) (Some y) h e fits s = let q : y ≡ x = cc in h ∙ ap (λ k. k *ℤ pos (10 ^ finest))
    (sym (q ∙ fits.1 ∙ e))
whole_told u b w z (Ok x) None h e fits s = absurd (cc)
whole_told u b w z (Err x) (Some y) h e fits s = absurd (cc)
whole_told u b w z (Err x) None h e fits s = λ n small worth.
    fits (subst (FitsSigned w64) (times_cancel n (signed b w) (10 ^ finest) (ten_pos finest) (sym worth ∙ h) ∙ sym e)
    small)

-- the whole number of equal units is the same
pub whole_same : (u v : ℤ) (o : Option ℤ) → v ≡ u
    → MatchOption o ((n : ℤ) → FitsSigned w64 n → IsWhole u n → ⊥) (λ n. IsWhole u n)
    → MatchOption o ((n : ℤ) → FitsSigned w64 n → IsWhole v n → ⊥) (λ n. IsWhole v n)
whole_same u v o e h =
    subst (λ z. MatchOption o ((n : ℤ) → FitsSigned w64 n → IsWhole z n → ⊥) (λ n. IsWhole z n)) (sym e) h
