-- Lemmas for the laws of the traits: comparing strings of digits with a power of ten.
use Rattle.std.proofs.Common.{◌≡◌, ℕ, zero, suc, ◌+◌, ◌*◌, ◌-◌, ◌^◌, ◌≤◌, ◌<◌, max, Bool, true, false, cond, not, List, [], ◌∷◌, length, refl, sym, ap, ◌∙◌, arith}
use Rattle.std.specs.Prelude.{◌==◌, ◌&&◌}
use Rattle.std.specs.List.{list_all}
use Rattle.std.specs.Char.{digit_value}
use Rattle.std.specs.Str.Parse.{digits_value, digits_value_after, AllDigits}
use Rattle.std.proofs.lemmas.Int.Digits.{digits_value-lt}
use Rattle.std.proofs.lemmas.Nat.{pow-add}
use Rattle.std.proofs.Math.Nat.{pow-suc, one-le-pow, pow-le-pow_right, mul-le-mul_right, mul-lt-mul_of_pos_right}
use Rattle.std.proofs.lemmas.Bool.Decides.{nat_tests}
use Rattle.step_literals.specs.Bytes.{is_digit}
use Rattle.step_literals.specs.steps.DigitStrings.{significant, is_significant, magnitude, digit, front_value, top}

-- if the conjunction of two tests is true, both are
pub both : (a b : Bool) → (a && b) ≡ true → (a ≡ true) × (b ≡ true)
both true b h = (refl, h)
both false b h = (h, absurd (let q : false ≡ true = h in cc))

-- significant digits are digits
pub all_digits : (xs : List ℕ) → is_significant xs ≡ true → list_all is_digit xs ≡ true
all_digits [] h = refl
all_digits (x ∷ xs) h = (both (not (x == 48)) (list_all is_digit (x ∷ xs)) h).1

byte_small : (b : ℕ) → is_digit b ≡ true → digit_value b < 10
byte_small b h = grind (arith, nat_tests)

byte_some : (b : ℕ) → is_digit b ≡ true → not (b == 48) ≡ true → 0 < digit_value b
byte_some b h g = grind (arith, nat_tests)

below_ten : (xs : List ℕ) → list_all is_digit xs ≡ true → AllDigits 10 xs
below_ten [] h = tt
below_ten (x ∷ xs) h = let p = both (is_digit x) (list_all is_digit xs) h in (byte_small x p.0, below_ten xs p.1)

digit_small_of : (xs : List ℕ) → list_all is_digit xs ≡ true → (j : ℕ) → digit xs j ≤ 9
digit_small_of [] h j = omega arith
digit_small_of (x ∷ xs) h zero = omega (arith, byte_small x (both (is_digit x) (list_all is_digit xs) h).0)
digit_small_of (x ∷ xs) h (suc j) = digit_small_of xs (both (is_digit x) (list_all is_digit xs) h).1 j

pub digit_small : (xs : List ℕ) → is_significant xs ≡ true → (j : ℕ) → digit xs j ≤ 9
digit_small xs h = digit_small_of xs (all_digits xs h)

-- the first significant digit isn't 0
leads : (x : ℕ) (xs : List ℕ) → is_significant (x ∷ xs) ≡ true → 0 < digit_value x
leads x xs h =
    let p = both (not (x == 48)) (list_all is_digit (x ∷ xs)) h in
    byte_some x (both (is_digit x) (list_all is_digit xs) p.1).0 p.0

pub ten_pos : (n : ℕ) → 0 < 10 ^ n
ten_pos n = one-le-pow n 10 (omega arith)

front_shift : (n : ℕ) (x : ℕ) (xs : List ℕ) → front_value (suc n) (x ∷ xs) ≡ digit_value x * 10 ^ n + front_value n xs
front_shift zero x xs = omega arith
front_shift (suc n) x xs = rw pow-suc (omega (arith, front_shift n x xs))

after_front : (n : ℕ) (xs : List ℕ) → digits_value_after 10 n xs ≡ n * 10 ^ length xs + front_value (length xs) xs
after_front n [] = omega arith
after_front n (x ∷ xs) = rw pow-suc (omega (
  arith,
  after_front (n * 10 + digit_value x) xs,
  front_shift (length xs) x
      xs,
))

-- the first digits of a string, if they are all of it, write its number
pub front_whole : (xs : List ℕ) → front_value (length xs) xs ≡ digits_value 10 xs
front_whole xs = omega (arith, after_front 0 xs)

pub past_end : (xs : List ℕ) (k : ℕ) → digit xs (length xs + k) ≡ 0
past_end [] k = refl
past_end (x ∷ xs) k = ap (λ i. digit (x ∷ xs) i) (let e : length (x ∷ xs) + k ≡ suc (length xs + k) = omega arith in e)
    ∙ past_end xs k

-- each zero that follows multiplies the number by ten
pub front_zeros : (xs : List ℕ) (n k : ℕ) → ((j : ℕ) → digit xs (n + j) ≡ 0) → front_value (k + n) xs ≡ front_value n xs
    * 10 ^ k
front_zeros xs n zero h = let e : 0 + n ≡ n = omega arith in rw e (omega arith)
front_zeros xs n (suc k) h =
    let e : suc k + n ≡ suc (k + n) = omega arith in
    let z : digit xs (k + n) ≡ 0 = ap (digit xs) (let c : k + n ≡ n + k = omega arith in c) ∙ h k in
    rw (e, pow-suc) (omega (arith, front_zeros xs n k h, z))

front_past : (xs : List ℕ) (k : ℕ) → front_value (k + length xs) xs ≡ digits_value 10 xs * 10 ^ k
front_past xs k = front_zeros xs (length xs) k (past_end xs) ∙ ap (λ v. v * 10 ^ k) (front_whole xs)

-- the first digit in which two numbers differ decides which is less
front_less : (xs ys : List ℕ) (i k : ℕ) → ((j : ℕ) → digit xs j ≤ 9) → front_value i xs < front_value i ys
    → front_value (k + i) xs < front_value (k + i) ys
front_less xs ys i zero small h = let e : 0 + i ≡ i = omega arith in rw e h
front_less xs ys i (suc k) small h =
    let e : suc k + i ≡ suc (k + i) = omega arith in
    rw e (omega (arith, front_less xs ys i k small h, small (k + i)))

pub front_below : (xs : List ℕ) (n : ℕ) → ((j : ℕ) → digit xs j ≤ 9) → front_value n xs < 10 ^ n
front_below xs zero small = omega arith
front_below xs (suc n) small = rw pow-suc (omega (arith, front_below xs n small, small n))

-- a number in terms of the digits up to a place that both numbers reach
pub scaled : (xs : List ℕ) (s n r : ℕ) → length xs ≤ n → n + r ≡ length xs + s → digits_value 10 xs * 10 ^
    s ≡ front_value n xs * 10 ^ r
scaled xs s n r h e =
    let j : s ≡ n - length xs + r = omega (arith, h, e) in
    let m : n ≡ n - length xs + length xs = omega (arith, h) in
    rw (j, pow-add) (omega (
      arith,
      ap (λ v. v * 10 ^ r) (front_past xs (n - length xs)),
      ap (λ k. front_value k xs * 10 ^ r) m,
    ))

less_scaled : (xs ys : List ℕ) (s t n r i : ℕ) → ((j : ℕ) → digit xs j ≤ 9) → length xs ≤ n → length ys ≤ n
    → n + r ≡ length xs + s → n + r ≡ length ys + t → i < n
    → front_value i xs ≡ front_value i ys → digit xs i < digit ys i → digits_value 10 xs * 10 ^ s < digits_value 10 ys *
    10 ^ t
less_scaled xs ys s t n r i small hx hy ex ey lt same less =
    let m : n ≡ n - suc i + suc i = omega (arith, lt) in
    let front : front_value (suc i) xs < front_value (suc i) ys = omega (arith, same, less) in
    let more : front_value n xs < front_value n ys = rw m (front_less xs ys (suc i) (n - suc i) small front) in
    rw (scaled xs s n r hx ex, scaled ys t n r hy ey) (mul-lt-mul_of_pos_right more (ten_pos r))

leading : (x : ℕ) (xs : List ℕ) → is_significant (x ∷ xs) ≡ true → 10 ^ length xs ≤ digits_value 10 (x ∷ xs)
leading x xs h =
    let le : 1 * 10 ^ length xs ≤ digit_value x * 10 ^ length xs = mul-le-mul_right (10 ^ length xs) (leads x xs h) in
    let z : 0 * 10 + digit_value x ≡ digit_value x = omega arith in
    rw z (omega (arith, after_front (digit_value x) xs, le))

-- the value of a number with digits is at least the power of ten of its first digit
pub magnitude_leads : (x : ℕ) (xs : List ℕ) (s : ℕ) → is_significant (x ∷ xs) ≡ true → 10 ^ (length xs + s) ≤ magnitude
    (x ∷ xs) s
unfolding magnitude
magnitude_leads x xs s h = rw pow-add (mul-le-mul_right (10 ^ s) (leading x xs h))

pub magnitude_below : (xs : List ℕ) (s : ℕ) → is_significant xs ≡ true → magnitude xs s < 10 ^ (length xs + s)
unfolding magnitude
magnitude_below xs s h = rw pow-add (mul-lt-mul_of_pos_right (digits_value-lt 10 xs (below_ten xs (all_digits xs h)))
    (ten_pos s))

pub magnitude_none : (s : ℕ) → magnitude [] s ≡ 0
unfolding magnitude
magnitude_none s = omega arith

-- the number with the greater power of ten above its first digit is the greater
pub less_by_top : (xs ys : List ℕ) (s t : ℕ) → is_significant xs ≡ true → is_significant ys ≡ true → top xs s < top ys t
    → magnitude xs s < magnitude ys t
less_by_top xs [] s t hx hy h = absurd (omega (arith, h))
less_by_top [] (y ∷ ys) s t hx hy h = omega (
  arith,
  magnitude_none s,
  magnitude_leads y ys t hy,
  ten_pos (length ys + t),
)
less_by_top (x ∷ xs) (y ∷ ys) s t hx hy h =
    let le : 10 ^ (length (x ∷ xs) + s) ≤ 10 ^ (length ys + t) = pow-le-pow_right (omega arith) (omega (arith, h)) in
    omega (arith, le, magnitude_below (x ∷ xs) s hx, magnitude_leads y ys t hy)

-- if the powers above the first digits are equal, the first digit in which the numbers differ decides
pub less_by_digit : (xs ys : List ℕ) (s t i : ℕ) → is_significant xs ≡ true → top xs s ≡ top ys t
    → i < max (length xs) (length ys)
    → front_value i xs ≡ front_value i ys → digit xs i < digit ys i → magnitude xs s < magnitude ys t
unfolding magnitude
less_by_digit [] [] s t i hx e lt same less = absurd (omega (arith, lt))
less_by_digit [] (y ∷ ys) s t i hx e lt same less = absurd (omega (arith, e))
less_by_digit (x ∷ xs) [] s t i hx e lt same less = absurd (omega (arith, e))
less_by_digit (x ∷ xs) (y ∷ ys) s t i hx e lt same less =
    let n = max (length (x ∷ xs)) (length (y ∷ ys)) in
    less_scaled (x ∷ xs) (y ∷ ys) s t n (length (x ∷ xs) + s - n) i (digit_small (x ∷ xs) hx) (omega arith)
    (omega arith) (omega (arith, e)) (omega (arith, e)) lt same less

-- if the powers above the first digits are equal, and no digit differs, the values are equal
pub same_by_digits : (xs ys : List ℕ) (s t : ℕ) → top xs s ≡ top ys t → front_value (max (length xs) (length ys))
    xs ≡ front_value (max (length xs) (length ys)) ys → magnitude xs s ≡ magnitude ys t
unfolding magnitude
same_by_digits [] [] s t e same = omega arith
same_by_digits [] (y ∷ ys) s t e same = absurd (omega (arith, e))
same_by_digits (x ∷ xs) [] s t e same = absurd (omega (arith, e))
same_by_digits (x ∷ xs) (y ∷ ys) s t e same =
    let n = max (length (x ∷ xs)) (length (y ∷ ys)) in
    let r = length (x ∷ xs) + s - n in
    scaled (x ∷ xs) s n r (omega arith) (omega (arith, e)) ∙ ap (λ v. v * 10 ^ r) same
    ∙ sym (scaled (y ∷ ys) t n r (omega arith) (omega (arith, e)))

-- leading zeros don't change the value
significant_one : (x : ℕ) (xs : List ℕ) (b : Bool) → (x == 48) ≡ b → digits_value 10 (significant xs) ≡ digits_value 10
    xs → digits_value 10 (cond b (significant xs) (x ∷ xs)) ≡ digits_value 10 (x ∷ xs)
significant_one x xs true h ih = let e : x ≡ 48 = grind (arith, nat_tests) in rw e ih
significant_one x xs false h ih = refl

pub significant_value : (xs : List ℕ) → digits_value 10 (significant xs) ≡ digits_value 10 xs
significant_value [] = refl
significant_value (x ∷ xs) = significant_one x xs (x == 48) refl (significant_value xs)

is_significant_one : (x : ℕ) (xs : List ℕ) (b : Bool) → (x == 48) ≡ b → list_all is_digit (x ∷ xs) ≡ true
    → is_significant (significant xs) ≡ true → is_significant (cond b (significant xs) (x ∷ xs)) ≡ true
is_significant_one x xs true h all ih = ih
is_significant_one x xs false h all ih = rw (h, all) refl

pub significant_is : (xs : List ℕ) → list_all is_digit xs ≡ true → is_significant (significant xs) ≡ true
significant_is [] h = refl
significant_is (x ∷ xs) h = is_significant_one x xs (x == 48) refl h
    (significant_is xs (both (is_digit x) (list_all is_digit xs) h).1)
