-- A number's text: where its digits, its point and its exponent stand.
use Rattle.std.proofs.Common.{◌≡◌, ℕ, ◌+◌, ◌-◌, ◌≤◌, ◌<◌, min, Bool, true, false, cond, not, List, [], ◌∷◌, ◌++◌, length, take, drop, ℤ, pos, ◌+ℤ◌, ◌-ℤ◌, refl, sym, ap, ◌∙◌, arith, append_assoc, append-nil, length-append, length-drop, length-take, subst, inl, inr, Option, Some, None, ◌^◌}
use Rattle.std.specs.Prelude.{◌==◌, unsigned_abs}
use Rattle.std.specs.List.{prefix_len, filter}
use Rattle.std.specs.Option.{SomeIff, unwrap_or}
use Rattle.std.specs.Str.Parse.{digits_value}
use Rattle.std.proofs.Math.Bool.{Bool-set}
use Rattle.std.proofs.Math.Nat.{ℕ_set}
use mathlib.Core.List.{is_set}
use Rattle.std.proofs.Math.Bridge.{le_prop}
use Rattle.std.proofs.Math.Logic.{∥∥₁_elim}
use Rattle.std.proofs.Math.Seq.{take-append_seam, drop-append_seam}
use Rattle.std.proofs.Math.ListN.{drop_of_length-le}
use Rattle.std.proofs.lemmas.Int.{ints}
use Rattle.std.proofs.lemmas.List.Elements.{filter-append}
use Rattle.std.proofs.lemmas.Bool.Decides.{nat_tests}
use Rattle.step_literals.specs.Bytes.{is_digit, Each}
use Rattle.step_literals.specs.Tokens.{is_sign, is_e, sign_len, IsSign, IsDigits, IsExponent}
use Rattle.step_literals.specs.Numbers.{exponent_text, exponent_digits}
use Rattle.step_literals.specs.Literals.{IsNumber, IsDecimal}
use Rattle.step_literals.specs.Decimals.{mantissa_text, mantissa_digits, part_digits, is_negative, signed, exponent, finest}
use Rattle.step_literals.specs.steps.DigitStrings.{shift_of}
use Rattle.step_literals.proofs.NumberLimits.{no_e, e_is, digits_no_e, signs_no_e, each_append, prefix_passed, no_exponent_text, exponent_behind_e, drop_one_more, exponent_each}
use Rattle.step_literals.proofs.NumberLemmas.{sign_taken}

abbrev pub no_dot : ℕ → Bool
no_dot b = not (b == 46)

each_prop : (p : ℕ → Bool) (xs : List ℕ) → IsProp (Each p xs)
each_prop p [] = hlevel
each_prop p (x ∷ xs) = let ih = each_prop p xs in hlevel (Bool-set)

-- what a decimal's text is within
pub text_short : (t : List ℕ) → ∥ IsDecimal t ∥₁ → length t ≤ 400
text_short t h = ∥∥₁_elim h le_prop (λ d. d.short.short)

pub exponent_small : (t : List ℕ) → ∥ IsDecimal t ∥₁ → digits_value 10 (exponent_digits t) ≤ 999999
exponent_small t h = ∥∥₁_elim h le_prop (λ d. d.short.exponent)

pub exponent_is_digits : (t : List ℕ) → ∥ IsDecimal t ∥₁ → Each is_digit (exponent_digits t)
exponent_is_digits t h = ∥∥₁_elim h (each_prop is_digit (exponent_digits t)) (λ d. exponent_each t d.number)

-- the point and the digits behind it, or neither
pub record IsTail (tail p : List ℕ) : Type 0 where
  pub stops : prefix_len is_digit tail ≡ 0
  pub cut : drop (min (length tail) 1) tail ≡ p
  pub kept : filter is_digit tail ≡ p
  pub behind : (xs : List ℕ) → Each no_dot xs → drop (1 + prefix_len no_dot (xs ++ tail)) (xs ++ tail) ≡ p

filter_each : (p : ℕ → Bool) (xs : List ℕ) → Each p xs → filter p xs ≡ xs
filter_each p [] h = refl
filter_each p (x ∷ xs) h = rw (h.0, filter_each p xs h.1) refl

pub no_point : IsTail [] []
no_point = record {
  stops = refl;
  cut = refl;
  kept = refl;
  behind = λ xs h. drop_of_length-le (xs ++ []) (omega (arith, prefix_passed no_dot xs [] h, length-append xs []));
}

pub point : (p : List ℕ) → Each is_digit p → IsTail (46 ∷ p) p
point p h = record {
  stops = refl;
  cut = (let e : min (length (46 ∷ p)) 1 ≡ 1 = omega arith in rw e refl);
  kept = filter_each is_digit p h;
  behind = λ xs g. (let e : 1 + prefix_len no_dot (xs ++ 46 ∷ p) ≡ 1 + length xs = omega
      (arith, prefix_passed no_dot xs (46 ∷ p) g) in ap (λ n. drop n (xs ++ 46 ∷ p)) e ∙ drop_one_more xs p 46);
}

digit_no_dot : (b : ℕ) → is_digit b ≡ true → no_dot b ≡ true
digit_no_dot b h = grind (arith, nat_tests)

sign_no_dot : (b : ℕ) → is_sign b ≡ true → no_dot b ≡ true
sign_no_dot b h = grind (arith, nat_tests)

sign_no_digit : (b : ℕ) → is_sign b ≡ true → is_digit b ≡ false
sign_no_digit b h = grind (arith, nat_tests)

digits_no_dot : (ds : List ℕ) → Each is_digit ds → Each no_dot ds
digits_no_dot [] h = tt
digits_no_dot (x ∷ xs) h = (digit_no_dot x h.0, digits_no_dot xs h.1)

signs_no_dot : (s : List ℕ) → IsSign s → Each no_dot s
signs_no_dot [] h = tt
signs_no_dot (x ∷ []) h = (sign_no_dot x h, tt)
signs_no_dot (x ∷ y ∷ ys) h = absurd h

signs_left_out : (s : List ℕ) → IsSign s → filter is_digit s ≡ []
signs_left_out [] h = refl
signs_left_out (x ∷ []) h = rw (sign_no_digit x h) refl
signs_left_out (x ∷ y ∷ ys) h = absurd h

-- the pieces of a number, as the code cuts them
abbrev unsigned : List ℕ → List ℕ
unsigned t = drop (sign_len t) t

abbrev run_of : List ℕ → List ℕ
run_of l = take (prefix_len is_digit l) l

abbrev rest_of : List ℕ → List ℕ
rest_of l = drop (prefix_len is_digit l) l

abbrev behind_one : List ℕ → List ℕ
behind_one l = drop (min (length l) 1) l

abbrev behind_point : List ℕ → List ℕ
behind_point t = behind_one (rest_of (unsigned t))

-- they are its digits and its exponent
record IsCut (t : List ℕ) : Type 0 where
  digits : run_of (unsigned t) ++ run_of (behind_point t) ≡ mantissa_digits t
  part : length (run_of (behind_point t)) ≡ length (part_digits t)
  exponent_is : behind_one (rest_of (behind_point t)) ≡ exponent_text t

pub before_exponent : (front exponent : List ℕ) → Each no_e front → IsExponent exponent
    → mantissa_text (front ++ exponent) ≡ front
before_exponent front [] h x =
    let n : prefix_len no_e (front ++ []) ≡ length front = prefix_passed no_e front [] h ∙ omega arith in
    ap (λ k. take k (front ++ [])) n ∙ take-append_seam front []
before_exponent front (e ∷ bs) h x =
    let n : prefix_len no_e (front ++ e ∷ bs) ≡ length front = prefix_passed no_e front (e ∷ bs) h
    ∙ (rw (e_is e x.0) (omega arith)) in
    ap (λ k. take k (front ++ e ∷ bs)) n ∙ take-append_seam front (e ∷ bs)

exponent_from : (front exponent : List ℕ) → Each no_e front → IsExponent exponent
    → exponent_text (front ++ exponent) ≡ behind_one exponent
exponent_from front [] h x = ap exponent_text (append-nil front) ∙ no_exponent_text front h
exponent_from front (e ∷ bs) h x =
    let one : min (length (e ∷ bs)) 1 ≡ 1 = omega arith in
    exponent_behind_e front bs e h x.0 ∙ ap (λ k. drop k (e ∷ bs)) (sym one)

e_no_digit : (b : ℕ) → is_e b ≡ true → is_digit b ≡ false
e_no_digit b h = grind (arith, nat_tests)

exponent_stops : (x : List ℕ) → IsExponent x → prefix_len is_digit x ≡ 0
exponent_stops [] h = refl
exponent_stops (e ∷ bs) h = rw (e_no_digit e h.0) refl

-- a run of digits, and what stands behind it
module _ (ds r : List ℕ) (h : Each is_digit ds) (stops : prefix_len is_digit r ≡ 0) where
  run_len : prefix_len is_digit (ds ++ r) ≡ length ds
  run_len = prefix_passed is_digit ds r h ∙ omega (arith, stops)

  run_is : run_of (ds ++ r) ≡ ds
  run_is = ap (λ k. take k (ds ++ r)) run_len ∙ take-append_seam ds r

  rest_is : rest_of (ds ++ r) ≡ r
  rest_is = ap (λ k. drop k (ds ++ r)) run_len ∙ drop-append_seam ds r

module _ (s w tail p : List ℕ) (hs : IsSign s) (hw : IsDigits w) (ht : IsTail tail p) where
  pub digits_are : filter is_digit ((s ++ w) ++ tail) ≡ w ++ p
  digits_are =
      filter-append is_digit (s ++ w) tail ∙ ap (λ x. x ++ filter is_digit tail) (filter-append is_digit s w)
      ∙ (λ i. (signs_left_out s hs i ++ filter_each is_digit w hw.1 i) ++ ht.kept i)

  pub behind_is : drop (1 + prefix_len no_dot ((s ++ w) ++ tail)) ((s ++ w) ++ tail) ≡ p
  behind_is = ht.behind (s ++ w) (each_append no_dot s w (signs_no_dot s hs) (digits_no_dot w hw.1))

  -- the parts of a number of this form, before an exponent
  module _ (x : List ℕ) (hp : Each is_digit p) (hx : IsExponent x) (h : Each no_e ((s ++ w) ++ tail))
      (stops : prefix_len is_digit (tail ++ x) ≡ 0) (cut : behind_one (tail ++ x) ≡ p ++ x) where
    unsigned_is : unsigned (((s ++ w) ++ tail) ++ x) ≡ w ++ (tail ++ x)
    unsigned_is =
        let same : ((s ++ w) ++ tail) ++ x ≡ s ++ (w ++ (tail ++ x)) = simp append_assoc in
        ap unsigned same ∙ sym (sign_taken s w (tail ++ x) hs hw).1

    point_is : behind_point (((s ++ w) ++ tail) ++ x) ≡ p ++ x
    point_is = ap behind_one (ap rest_of unsigned_is ∙ rest_is w (tail ++ x) hw.1 stops) ∙ cut

    whole_run : run_of (unsigned (((s ++ w) ++ tail) ++ x)) ≡ w
    whole_run = ap run_of unsigned_is ∙ run_is w (tail ++ x) hw.1 stops

    part_run : run_of (behind_point (((s ++ w) ++ tail) ++ x)) ≡ p
    part_run = ap run_of point_is ∙ run_is p x hp (exponent_stops x hx)

    text_is : mantissa_text (((s ++ w) ++ tail) ++ x) ≡ (s ++ w) ++ tail
    text_is = before_exponent ((s ++ w) ++ tail) x h hx

    cut_is : IsCut (((s ++ w) ++ tail) ++ x)
    cut_is = record {
      digits = (λ i. whole_run i ++ part_run i) ∙ sym (ap (filter is_digit) text_is ∙ digits_are);
      part = ap length (part_run ∙ sym (ap (λ m. drop (1 + prefix_len no_dot m) m) text_is ∙ behind_is));
      exponent_is = ap (λ l. behind_one (rest_of l)) point_is ∙ ap behind_one (rest_is p x hp (exponent_stops x hx))
          ∙ sym (exponent_from ((s ++ w) ++ tail) x h hx);
    }

cut_number : (t : List ℕ) → IsNumber t → IsCut t
cut_number t (inl h) =
    let front = h.0 ++ h.1 in
    let each : Each no_e front = each_append no_e h.0 h.1 (signs_no_e h.0 h.2) (digits_no_e h.1 h.3.1) in
    let alone : (front ++ []) ++ [] ≡ t = append-nil (front ++ []) ∙ append-nil front ∙ sym h.4 in
    subst IsCut alone (cut_is h.0 h.1 [] [] h.2 h.3 no_point [] tt tt
    (subst (Each no_e) (sym (append-nil front)) each) refl refl)
cut_number t (inr h) =
    let front = h.0 ++ h.1 ++ 46 ∷ h.2 in
    let each : Each no_e front = each_append no_e (h.0 ++ h.1) (46 ∷ h.2) (each_append no_e h.0 h.1 (signs_no_e h.0 h.4)
    (digits_no_e h.1 h.5.1)) (refl, digits_no_e h.2 h.6) in
    let one : min (length (46 ∷ (h.2 ++ h.3))) 1 ≡ 1 = omega arith in
    subst IsCut (sym h.8) (cut_is h.0 h.1 (46 ∷ h.2) h.2 h.4 h.5 (point h.2 h.6) h.3 h.6 h.7 each refl
    (ap (λ k. drop k (46 ∷ (h.2 ++ h.3))) one))

cut_prop : (t : List ℕ) → IsProp (IsCut t)
cut_prop t = hlevel (is_set ℕ_set, ℕ_set, is_set ℕ_set)

-- the digits and the exponent that the code cuts out of a decimal
pub parts_cut : (t u w r b p l x : List ℕ) (k d j e n : ℕ) → ∥ IsDecimal t ∥₁ → k ≡ sign_len t → u ≡ drop k t
    → d ≡ prefix_len is_digit u → w ≡ take d u → r ≡ drop d u → j ≡ min (length r) 1 → b ≡ drop j r
    → e ≡ prefix_len is_digit b → p ≡ take e b → l ≡ drop e b → n ≡ min (length l) 1 → x ≡ drop n l
    → (w ++ p ≡ mantissa_digits t) × (length p ≡ length (part_digits t)) × (x ≡ exponent_text t)
parts_cut t u w r b p l x k d j e n h hk hu hd hw hr hj hb he hp hl hn hx =
    let cut : IsCut t = ∥∥₁_elim h (cut_prop t) (λ y. cut_number t y.number) in
    let eu : u ≡ unsigned t = hu ∙ ap (λ i. drop i t) hk in
    let ew : w ≡ run_of (unsigned t) = hw ∙ ap (λ i. take i u) hd ∙ ap run_of eu in
    let er : r ≡ rest_of (unsigned t) = hr ∙ ap (λ i. drop i u) hd ∙ ap rest_of eu in
    let eb : b ≡ behind_point t = hb ∙ ap (λ i. drop i r) hj ∙ ap behind_one er in
    let ep : p ≡ run_of (behind_point t) = hp ∙ ap (λ i. take i b) he ∙ ap run_of eb in
    let el : l ≡ rest_of (behind_point t) = hl ∙ ap (λ i. drop i b) he ∙ ap rest_of eb in
    let ex : x ≡ behind_one (rest_of (behind_point t)) = hx ∙ ap (λ i. drop i l) hn ∙ ap behind_one el in
    ((λ i. ew i ++ ep i) ∙ cut.digits, ap length ep ∙ cut.part, ex ∙ cut.exponent_is)

pub part_short : (t : List ℕ) → ∥ IsDecimal t ∥₁ → length (part_digits t) ≤ 400
part_short t h = omega (arith, text_short t h, length-drop {A = ℕ}, length-take {A = ℕ})

-- the number that an exponent writes is read
pub exponent_read : (t ds : List ℕ) (r : Option ℕ) (x : ℕ) → ∥ IsDecimal t ∥₁ → ds ≡ exponent_digits t
    → SomeIff r (digits_value 10 ds < 2 ^ 64) (digits_value 10 ds) → x ≡ unwrap_or r 0
    → (x ≡ digits_value 10 (exponent_digits t)) × (x ≤ 999999)
exponent_read t ds (Some v) x h e s u = (
  u ∙ s.1 ∙ ap (digits_value 10) e,
  omega (
    arith,
    u,
    s.1,
    ap (digits_value 10) e,
    exponent_small t h,
  ),
)
exponent_read t ds None x h e s u = absurd (s (omega (arith, ap (digits_value 10) e, exponent_small t h)))

pub finest_is : finest ≡ 1000400
unfolding finest
finest_is = refl

units_of_exponent : (b : Bool) (x p f : ℕ) → f ≡ 1000400 → p ≤ 400 → x ≤ 999999 → signed b x -ℤ pos p +ℤ pos f ≡ pos
    (cond b (1000400 - p - x) (1000400 - p + x))
units_of_exponent true x p f hf hp hx = omega (arith, ints, hf, hp, hx)
units_of_exponent false x p f hf hp hx = omega (arith, ints, hf, hp, hx)

abs_of : (z : ℤ) (k : ℕ) → z ≡ pos k → z ≡ pos (unsigned_abs z)
abs_of z k e = e ∙ ap (λ y. pos (unsigned_abs y)) (sym e)

-- the power of ten of a number within the limits is no negative number of units
pub shift_of_exponent : (t : List ℕ) → ∥ IsDecimal t ∥₁ → exponent t +ℤ pos finest ≡ pos (shift_of t)
shift_of_exponent t h = abs_of (exponent t +ℤ pos finest) _ (units_of_exponent (is_negative (exponent_text t))
    (digits_value 10 (exponent_digits t)) (length (part_digits t)) finest finest_is (part_short t h)
    (exponent_small t h))

-- the power of ten of a number within the limits, in units
pub shift_is : (t : List ℕ) (x p : ℕ) (b : Bool) → ∥ IsDecimal t ∥₁ → x ≡ digits_value 10 (exponent_digits t)
    → p ≡ length (part_digits t) → b ≡ is_negative (exponent_text t)
    → cond b (1000400 - p - x) (1000400 - p + x) ≡ shift_of t
shift_is t x p b h hx hp hb =
    sym (ap unsigned_abs (units_of_exponent b x p finest finest_is (omega (arith, hp, part_short t h))
    (omega (arith, hx, exponent_small t h))))
    ∙ (λ i. unsigned_abs (signed (hb i) (hx i) -ℤ pos (hp i) +ℤ pos finest))
