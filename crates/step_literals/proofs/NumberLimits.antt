-- The digits of an exponent.
use Rattle.std.proofs.Common.{◌≡◌, ℕ, ◌+◌, ◌≤◌, ◌<◌, true, false, not, List, [], ◌∷◌, ◌++◌, length, drop, sym, ap, refl, ◌∙◌, arith, append_assoc, append-nil, length-append, length-drop, cond, Bool, subst, inl, inr}
use Rattle.std.specs.List.{prefix_len}
use Rattle.std.proofs.lemmas.Bool.Decides.{nat_tests}
use Rattle.std.specs.Char.{digit_value}
use Rattle.std.specs.Str.Parse.{digits_value, AllDigits}
use Rattle.std.proofs.lemmas.Int.Digits.{digits_value-lt}
use Rattle.std.proofs.Math.Nat.{pow-le-pow_right}
use Rattle.std.proofs.Math.Seq.{drop-append_seam}
use Rattle.std.proofs.Math.ListN.{drop_of_length-le}
use Rattle.step_literals.specs.Bytes.{is_digit, Each}
use Rattle.step_literals.specs.Tokens.{is_e, is_sign, sign_len, IsSign, IsDigits, IsExponent, IsNext, integer, real}
use Rattle.step_literals.specs.Numbers.{exponent_text, exponent_digits}
use Rattle.step_literals.specs.Literals.{IsNumber}
use Rattle.step_literals.proofs.NumberLemmas.{sign_taken}

abbrev pub no_e : ℕ → Bool
no_e b = not (is_e b)

digit_no_e : (b : ℕ) → is_digit b ≡ true → no_e b ≡ true
digit_no_e b h = grind (arith, nat_tests)

sign_no_e : (b : ℕ) → is_sign b ≡ true → no_e b ≡ true
sign_no_e b h = grind (arith, nat_tests)

pub e_is : (b : ℕ) → is_e b ≡ true → no_e b ≡ false
e_is b h = rw h refl

pub digits_no_e : (ds : List ℕ) → Each is_digit ds → Each no_e ds
digits_no_e [] h = tt
digits_no_e (x ∷ xs) h = (digit_no_e x h.0, digits_no_e xs h.1)

pub signs_no_e : (s : List ℕ) → IsSign s → Each no_e s
signs_no_e [] h = tt
signs_no_e (x ∷ []) h = (sign_no_e x h, tt)
signs_no_e (x ∷ y ∷ ys) h = absurd h

pub each_append : (p : ℕ → Bool) (xs ys : List ℕ) → Each p xs → Each p ys → Each p (xs ++ ys)
each_append p [] ys h g = g
each_append p (x ∷ xs) ys h g = (h.0, each_append p xs ys h.1 g)

pub prefix_passed : (p : ℕ → Bool) (xs ys : List ℕ) → Each p xs → prefix_len p (xs ++ ys) ≡ length xs + prefix_len p ys
prefix_passed p [] ys h = omega arith
prefix_passed p (x ∷ xs) ys h = rw h.0 (omega (arith, prefix_passed p xs ys h.1))

-- a front with no `E`, and nothing behind it
pub no_exponent_text : (front : List ℕ) → Each no_e front → exponent_text front ≡ []
no_exponent_text front h =
    let n : prefix_len no_e front ≡ length front = ap (prefix_len no_e) (sym (append-nil front))
    ∙ prefix_passed no_e front [] h ∙ omega arith in
    drop_of_length-le front (omega (arith, n))

pub no_exponent : (front : List ℕ) → Each no_e front → exponent_digits front ≡ []
no_exponent front h = ap (λ tail. drop (sign_len tail) tail) (no_exponent_text front h)

pub drop_one_more : (xs ys : List ℕ) (y : ℕ) → drop (1 + length xs) (xs ++ y ∷ ys) ≡ ys
drop_one_more xs ys y =
    let e : xs ++ y ∷ ys ≡ (xs ++ y ∷ []) ++ ys = sym (append_assoc xs (y ∷ []) ys) in
    let n : 1 + length xs ≡ length (xs ++ y ∷ []) = omega (arith, length-append xs (y ∷ [])) in
    (λ i. drop (n i) (e i)) ∙ drop-append_seam (xs ++ y ∷ []) ys

pub exponent_behind_e : (front bs : List ℕ) (e : ℕ) → Each no_e front → is_e e ≡ true
    → exponent_text (front ++ e ∷ bs) ≡ bs
exponent_behind_e front bs e h he =
    let n : prefix_len no_e (front ++ e ∷ bs) ≡ length front = prefix_passed no_e front (e ∷ bs) h
    ∙ (rw (e_is e he) (omega arith)) in
    ap (λ k. drop (1 + k) (front ++ e ∷ bs)) n ∙ drop_one_more front bs e

-- a front with no `E`, and an exponent
pub exponent_written : (front sign ds : List ℕ) (e : ℕ) → Each no_e front → is_e e ≡ true → IsSign sign → IsDigits ds
    → exponent_digits (front ++ e ∷ (sign ++ ds)) ≡ ds
exponent_written front sign ds e h he hs hd =
    let tail : exponent_text (front ++ e ∷ (sign ++ ds)) ≡ sign ++ (ds ++ []) = exponent_behind_e front (sign ++ ds) e h
    he ∙ ap (λ l. sign ++ l) (sym (append-nil ds)) in
    ap (λ l. drop (sign_len l) l) tail ∙ sym (sign_taken sign ds [] hs hd).1 ∙ append-nil ds

exponent_behind : (front exponent : List ℕ) → Each no_e front → IsExponent exponent
    → Each is_digit (exponent_digits (front ++ exponent))
exponent_behind front [] h x =
    let e : exponent_digits (front ++ []) ≡ [] = ap exponent_digits (append-nil front) ∙ no_exponent front h in
    subst (Each is_digit) (sym e) tt
exponent_behind front (e ∷ bs) h x =
    let same : exponent_digits (front ++ e ∷ bs) ≡ x.2 = ap (λ l. exponent_digits (front ++ e ∷ l)) x.5
    ∙ exponent_written front x.1 x.2 e h x.0 x.3 x.4 in
    subst (Each is_digit) (sym same) x.4.1

-- what stands behind the `E` of a number and its sign are digits
pub exponent_each : (t : List ℕ) → IsNumber t → Each is_digit (exponent_digits t)
exponent_each t (inl h) =
    let e : exponent_digits t ≡ [] = ap exponent_digits h.4 ∙ no_exponent (h.0 ++ h.1)
    (each_append no_e h.0 h.1 (signs_no_e h.0 h.2) (digits_no_e h.1 h.3.1)) in
    subst (Each is_digit) (sym e) tt
exponent_each t (inr h) =
    let front = h.0 ++ h.1 ++ 46 ∷ h.2 in
    let each : Each no_e front = each_append no_e (h.0 ++ h.1) (46 ∷ h.2) (each_append no_e h.0 h.1 (signs_no_e h.0 h.4)
    (digits_no_e h.1 h.5.1)) (refl, digits_no_e h.2 h.6) in
    subst (λ l. Each is_digit (exponent_digits l)) (sym h.8) (exponent_behind front h.3 each h.7)

digit_small : (b : ℕ) → is_digit b ≡ true → digit_value b < 10
digit_small b h = grind (arith, nat_tests)

all_decimal : (ds : List ℕ) → Each is_digit ds → AllDigits 10 ds
all_decimal [] h = tt
all_decimal (d ∷ ds) h = (digit_small d h.0, all_decimal ds h.1)

-- the exponent of a short number has six digits at most
pub few_digits : (t : List ℕ) → IsNumber t → length t ≤ 7 → digits_value 10 (exponent_digits t) ≤ 999999
few_digits t h few =
    let tail = exponent_text t in
    let ds = exponent_digits t in
    let size : length ds ≤ 6 = omega (arith, few, length-drop (sign_len tail) tail, length-drop (1 + prefix_len no_e t) t) in
    omega (
      arith,
      digits_value-lt 10 ds (all_decimal ds (exponent_each t h)),
      pow-le-pow_right {n = 10} (omega arith) size,
    )

-- the exponent digits as the code cuts them
pub exponent_cut : (t x ds : List ℕ) (n : ℕ) → x ≡ exponent_text t → n ≡ sign_len x → ds ≡ drop n x
    → ds ≡ exponent_digits t
exponent_cut t x ds n hx hn hd = hd ∙ ap (λ k. drop k x) hn ∙ ap (λ l. drop (sign_len l) l) hx

-- the number that the code finds
pub number_is : (b : Bool) (t after : List ℕ) → IsNext (cond b real integer) t after → IsNumber t
number_is true t after h = inr h.allowed
number_is false t after h = inl h.allowed
