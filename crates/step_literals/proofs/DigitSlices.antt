-- The digits before the point and those behind it, a slice of them at a time.
use Rattle.std.proofs.Common.{◌≡◌, ℕ, zero, suc, ◌+◌, ◌-◌, ◌*◌, ◌%◌, ◌^◌, ◌<◌, ◌≤◌, Bool, true, false, List, [], ◌∷◌, ◌++◌, length, get_or, take, drop, fold, min, refl, sym, ap, ◌∙◌, arith, add-one, append-nil, eqb-true, length-append, take-append-drop, subst, inl, inr}
use Rattle.std.specs.Prelude.{◌⊎◌, ◌==◌, if◌then◌else◌}
use Rattle.std.specs.Char.{digit_value}
use Rattle.std.specs.List.{list_all, prefix_len}
use Rattle.std.specs.Str.Parse.{digits_value_after}
use Rattle.std.proofs.Math.ListN.{get_or-append, drop_of_length-le}
use Rattle.std.proofs.Math.Seq.{get_or-append_right, take-append-add, take-length}
use Rattle.std.proofs.lemmas.List.{get_or_default, take-append-le}
use Rattle.std.proofs.lemmas.Bool.{cases_lt}
use Rattle.std.proofs.lemmas.Bool.Decides.{nat_tests}
use Rattle.step_literals.specs.Bytes.{is_digit, Each}
use Rattle.step_literals.specs.DecimalKeys.{front_write, front_writes}
use Rattle.step_literals.specs.steps.DigitStrings.{significant, is_significant, digit, front_value, end_of}
use Rattle.step_literals.specs.steps.MagnitudeLemmas.{both, all_digits, front_whole, past_end}
use Rattle.step_literals.proofs.DecimalDigits.{end_test, significant_cut}
use Rattle.step_literals.proofs.DigitLemmas.{value_more}

-- a byte is a zero where its value is 0
digit_within : (xs : List ℕ) (i : ℕ) → i < length xs → digit xs i ≡ digit_value (get_or xs i 0)
digit_within xs i lt = ap digit_value (get_or_default xs i 48 0 lt)

zero_value : (b : ℕ) → b ≡ 48 → digit_value b ≡ 0
zero_value b h = rw h refl

value_zero : (b : ℕ) → digit_value b ≡ 0 → b ≡ 48
value_zero b h = grind (arith, nat_tests)

-- the last digit is left out where its byte is a zero, and stands where it isn't
pub end_byte : (n : ℕ) (xs : List ℕ) → 0 < n → n ≤ length xs
    → (get_or xs (n - 1) 0 ≡ 48 → end_of n xs ≡ end_of (n - 1) xs) × ((get_or xs (n - 1) 0 ≡ 48 → ⊥) → end_of n xs ≡ n)
end_byte n xs h le =
    let is = digit_within xs (n - 1) (omega (arith, h, le)) in
    let step = end_test (n - 1) xs (digit xs (n - 1) == 0) refl n (omega (arith, h)) in (
      λ e. step.0 (is ∙ zero_value (get_or xs (n - 1) 0) e),
      λ g. step.1 (λ z. g (value_zero (get_or xs (n - 1) 0) (sym is ∙ z))),
    )

digit_front : (w p : List ℕ) (i : ℕ) → i < length w → digit (w ++ p) i ≡ digit w i
digit_front w p i lt = ap digit_value (get_or-append w p 48 i lt)

digit_behind : (w p : List ℕ) (i : ℕ) → digit (w ++ p) (length w + i) ≡ digit p i
digit_behind w p i =
    let at : length w + i - length w ≡ i = omega arith in
    ap digit_value (get_or-append_right w p (length w + i) 48 (omega arith)) ∙ ap (digit p) at

end_front : (w p : List ℕ) (n : ℕ) → n ≤ length w → end_of n (w ++ p) ≡ end_of n w
end_front w p zero le = refl
end_front w p (suc n) le =
    let lt : n < length w = omega (arith, le) in
    λ i. if digit_front w p n lt i == 0 then end_front w p n (omega (arith, le)) i else suc n

-- the zeros at the end of two pieces: those of the second, and where it has nothing else those of the first
record IsEnd (w p : List ℕ) (n : ℕ) : Type 0 where
  none : end_of n p ≡ 0 → end_of (length w + n) (w ++ p) ≡ end_of (length w) w
  some : 0 < end_of n p → end_of (length w + n) (w ++ p) ≡ length w + end_of n p

end_more : (w p : List ℕ) (n : ℕ) (b : Bool) → (digit p n == 0) ≡ b → IsEnd w p n → IsEnd w p (suc n)
end_more w p n true e ih =
    let z : digit p n ≡ 0 = eqb-true (digit p n) 0 e in
    let here : end_of (suc n) p ≡ end_of n p = (end_test n p true e (suc n) refl).0 z in
    let there : end_of (length w + suc n) (w ++ p) ≡ end_of (length w + n) (w ++ p) =
    (end_test (length w + n) (w ++ p) true (ap (λ d. d == 0) (digit_behind w p n) ∙ e) (length w + suc n)
    (omega arith)).0 (digit_behind w p n ∙ z) in
    record {
      none = λ h. there ∙ ih.none (sym here ∙ h);
      some = λ h. there ∙ ih.some (omega (arith, h, here)) ∙ omega (arith, here);
    }
end_more w p n false e ih =
    let g : digit p n ≡ 0 → ⊥ = λ z. (let q : (digit p n == 0) ≡ true = grind (arith, nat_tests) in absurd (cc)) in
    let here : end_of (suc n) p ≡ suc n = (end_test n p false e (suc n) refl).1 g in
    let there : end_of (length w + suc n) (w ++ p) ≡ length w + suc n =
    (end_test (length w + n) (w ++ p) false (ap (λ d. d == 0) (digit_behind w p n) ∙ e) (length w + suc n)
    (omega arith)).1 (λ z. g (sym (digit_behind w p n) ∙ z)) in
    record {
      none = λ h. absurd (omega (arith, h, here));
      some = λ h. there ∙ omega (arith, here);
    }

end_at : (w p : List ℕ) (n : ℕ) → IsEnd w p n
end_at w p zero =
    let same : length w + 0 ≡ length w = omega arith in
    record {
      none = λ h. ap (λ k. end_of k (w ++ p)) same ∙ end_front w p (length w) (omega arith);
      some = λ h. absurd (omega (arith, h));
    }
end_at w p (suc n) = end_more w p n (digit p n == 0) refl (end_at w p n)

pub end_behind : (w p : List ℕ) (n : ℕ) → n ≡ end_of (length p) p → 0 < n
    → length w + n ≡ end_of (length (w ++ p)) (w ++ p)
end_behind w p n e h =
    omega (arith, e) ∙ sym ((end_at w p (length p)).some (omega (arith, e, h)))
    ∙ ap (λ k. end_of k (w ++ p)) (sym (length-append w p))

pub end_before : (w p : List ℕ) (n m : ℕ) → n ≡ end_of (length p) p → (0 < n → ⊥) → m ≡ end_of (length w) w
    → m ≡ end_of (length (w ++ p)) (w ++ p)
end_before w p n m e h em =
    let z : end_of (length p) p ≡ 0 = omega (arith, e, h) in
    em ∙ sym ((end_at w p (length p)).none z) ∙ ap (λ k. end_of k (w ++ p)) (sym (length-append w p))

-- digits behind others
after_append : (xs ys : List ℕ) (a : ℕ) → digits_value_after 10 a (xs ++ ys) ≡ digits_value_after 10
    (digits_value_after 10 a xs) ys
after_append [] ys a = refl
after_append (x ∷ xs) ys a = after_append xs ys (a * 10 + digit_value x)

after_wraps : (ys : List ℕ) (a b : ℕ) → a % 2 ^ 64 ≡ b % 2 ^ 64 → digits_value_after 10 a ys % 2 ^
    64 ≡ digits_value_after 10 b ys % 2 ^ 64
after_wraps [] a b h = h
after_wraps (y ∷ ys) a b h = after_wraps ys (a * 10 + digit_value y) (b * 10 + digit_value y) (omega (arith, h))

-- one more of them, modulo 2^64
pub value_wraps : (ds : List ℕ) (i v d total : ℕ) → Each is_digit ds → i < length ds → digits_value_after 10 v
    (drop i ds) % 2 ^ 64 ≡ total → d ≡ get_or ds i 0 - 48
    → digits_value_after 10 ((v * 10 % 2 ^ 64 + d) % 2 ^ 64) (drop (i + 1) ds) % 2 ^ 64 ≡ total
value_wraps ds i v d total digits lt so_far e =
    let same : ((v * 10 % 2 ^ 64 + d) % 2 ^ 64) % 2 ^ 64 ≡ (v * 10 + (get_or ds i 0 - 48)) % 2 ^ 64 = omega (arith, e) in
    after_wraps (drop (i + 1) ds) ((v * 10 % 2 ^ 64 + d) % 2 ^ 64) (v * 10 + (get_or ds i 0 - 48)) same
    ∙ ap (λ k. k % 2 ^ 64) (value_more ds i v (digits_value_after 10 v (drop i ds)) digits lt refl) ∙ so_far

-- after the last digit, the value is the total
pub value_all : (ds : List ℕ) (i v total : ℕ) → length ds ≤ i → v < 2 ^ 64 → digits_value_after 10 v (drop i ds) % 2 ^
    64 ≡ total → v ≡ total
value_all ds i v total h small e =
    let none : digits_value_after 10 v (drop i ds) ≡ v = ap (digits_value_after 10 v) (drop_of_length-le ds h) in
    omega (arith, small) ∙ ap (λ k. k % 2 ^ 64) (sym none) ∙ e

front_front : (n : ℕ) (xs ys : List ℕ) → n ≤ length xs → front_value n (xs ++ ys) ≡ front_value n xs
front_front zero xs ys le = refl
front_front (suc n) xs ys le =
    let lt : n < length xs = omega (arith, le) in
    λ i. front_front n xs ys (omega (arith, le)) i * 10 + digit_front xs ys n lt i

-- the first digits, a slice of those before the point and one of those behind it
module _ (w p x y : List ℕ) (n i j : ℕ) (hi : i ≡ min (length w) n) (hx : x ≡ take i w)
    (hj : j ≡ min (length p) (n - length x)) (hy : y ≡ take j p) (lx : length x ≡ i) (ly : length y ≡ j) where
  taken_of : (n < length w) ⊎ (length w ≤ n) → take (length x + length y) (w ++ p) ≡ x ++ y
  taken_of (inl lt) =
      let none : j ≡ 0 = omega arith in
      let e : length x + length y ≡ i = omega arith in
      let empty : y ≡ [] = hy ∙ ap (λ k. take k p) none in
      ap (λ k. take k (w ++ p)) e ∙ take-append-le i w p (omega arith) ∙ sym hx ∙ sym (append-nil x)
      ∙ ap (λ l. x ++ l) (sym empty)
  taken_of (inr le) =
      let all : i ≡ length w = omega arith in
      let e : length x + length y ≡ length w + j = omega arith in
      let whole : x ≡ w = hx ∙ ap (λ k. take k w) all ∙ take-length w in
      ap (λ k. take k (w ++ p)) e ∙ take-append-add w p j ∙ (λ k. sym whole k ++ sym hy k)

  taken : take (length x + length y) (w ++ p) ≡ x ++ y
  taken = taken_of (cases_lt n (length w))

  front_of_slices : front_value (length x + length y) (w ++ p) ≡ digits_value_after 10 (digits_value_after 10 0 x) y
  front_of_slices =
      let n = length x + length y in
      let rest = drop n (w ++ p) in
      let same : w ++ p ≡ (x ++ y) ++ rest = sym (take-append-drop n (w ++ p)) ∙ ap (λ l. l ++ rest) taken in
      let len : n ≡ length (x ++ y) = sym (length-append x y) in
      (λ k. front_value (len k) (same k)) ∙ front_front (length (x ++ y)) (x ++ y) rest (omega arith)
      ∙ front_whole (x ++ y) ∙ after_append x y 0

  pub slices_value : (u v k : ℕ) → u ≡ digits_value_after 10 0 x % 2 ^ 64 → v ≡ digits_value_after 10 u y % 2 ^ 64
      → k ≡ length x + length y → v ≡ front_value k (w ++ p) % 2 ^ 64
  slices_value u v k hu hv hk =
      let same : u % 2 ^ 64 ≡ digits_value_after 10 0 x % 2 ^ 64 = omega (arith, hu) in
      hv ∙ after_wraps y u (digits_value_after 10 0 x) same ∙ ap (λ z. z % 2 ^ 64) (sym front_of_slices)
      ∙ ap (λ z. front_value z (w ++ p) % 2 ^ 64) (sym hk)

-- a zero past the end
pub zero_more : (xs : List ℕ) (v i : ℕ) → length xs ≤ i → v ≡ front_value i xs % 2 ^ 64
    → v * 10 % 2 ^ 64 ≡ front_value (i + 1) xs % 2 ^ 64
zero_more xs v i le h =
    let at : i ≡ length xs + (i - length xs) = omega (arith, le) in
    let z : digit xs i ≡ 0 = ap (digit xs) at ∙ past_end xs (i - length xs) in
    rw add-one (omega (arith, h, z))

-- nothing is fed of fewer than nineteen digits
few_writes : (n : ℕ) (xs : List ℕ) → n < 19 → front_writes n xs ≡ []
few_writes zero xs h = refl
few_writes (suc n) xs h =
    let m : n % 19 ≡ n = omega (arith, h) in
    let other : (n == 18) ≡ false = grind (arith, nat_tests, h) in
    let e : (n % 19 == 18) ≡ false = ap (λ k. k == 18) m ∙ other in
    λ i. few_writes n xs (omega (arith, h)) i ++ (if e i then front_write (suc n) xs else [])

pub few_fed : {S : Type 0} (write : S → List ℕ → S) (s : S) (n : ℕ) (xs : List ℕ) → n < 19
    → s ≡ fold write s (front_writes n xs)
few_fed write s n xs h = ap (fold write s) (sym (few_writes n xs h))

-- zeros that lead: those of the first piece, and where it has nothing else those of the second
record IsLed (w p : List ℕ) : Type 0 where
  none : significant w ≡ [] → significant (w ++ p) ≡ significant p
  some : 0 < length (significant w) → significant (w ++ p) ≡ significant w ++ p

led_more : (x : ℕ) (w p : List ℕ) (b : Bool) → (x == 48) ≡ b → IsLed w p → IsLed (x ∷ w) p
led_more x w p true e ih =
    let here : significant (x ∷ w) ≡ significant w = ap (λ b. if b then significant w else x ∷ w) e in
    let there : significant (x ∷ (w ++ p)) ≡ significant (w ++ p) =
    ap (λ b. if b then significant (w ++ p) else x ∷ (w ++ p)) e in
    record {
      none = λ h. there ∙ ih.none (sym here ∙ h);
      some = λ h. there ∙ ih.some (omega (arith, h, ap length here)) ∙ ap (λ l. l ++ p) (sym here);
    }
led_more x w p false e ih =
    let here : significant (x ∷ w) ≡ x ∷ w = ap (λ b. if b then significant w else x ∷ w) e in
    let there : significant (x ∷ (w ++ p)) ≡ x ∷ (w ++ p) =
    ap (λ b. if b then significant (w ++ p) else x ∷ (w ++ p)) e in
    record {
      none = λ h. absurd (omega (arith, ap length here, ap length h));
      some = λ h. there ∙ ap (λ l. l ++ p) (sym here);
    }

led : (w p : List ℕ) → IsLed w p
led [] p = record { none = λ h. refl; some = λ h. absurd (omega (arith, h)) }
led (x ∷ w) p = led_more x w p (x == 48) refl (led w p)

pub some_leads : (w p x : List ℕ) (n : ℕ) → n ≡ prefix_len (λ b. b == 48) w → x ≡ drop n w → 0 < length x
    → x ++ p ≡ significant (w ++ p)
some_leads w p x n hn hx h =
    let e : x ≡ significant w = hx ∙ ap (λ k. drop k w) hn ∙ significant_cut w in
    ap (λ l. l ++ p) e ∙ sym ((led w p).some (omega (arith, h, ap length e)))

pub none_leads : (w p x y : List ℕ) (n m : ℕ) → n ≡ prefix_len (λ b. b == 48) w → x ≡ drop n w → length x ≡ 0
    → m ≡ prefix_len (λ b. b == 48) p → y ≡ drop m p → x ++ y ≡ significant (w ++ p)
none_leads w p x y n m hn hx h hm hy =
    let e : x ≡ significant w = hx ∙ ap (λ k. drop k w) hn ∙ significant_cut w in
    let empty : x ≡ [] = length_none x h in
    ap (λ l. l ++ y) empty ∙ hy ∙ ap (λ k. drop k p) hm ∙ significant_cut p ∙ sym ((led w p).none (sym e ∙ empty))
  where
    length_none : (l : List ℕ) → length l ≡ 0 → l ≡ []
    length_none [] z = refl
    length_none (a ∷ l) z = absurd (omega (arith, z))

-- what is significant is digits, before the point and behind it
each_of_all : (xs : List ℕ) → list_all is_digit xs ≡ true → Each is_digit xs
each_of_all [] h = tt
each_of_all (x ∷ xs) h = let t = both (is_digit x) (list_all is_digit xs) h in (t.0, each_of_all xs t.1)

each_halves : (p : ℕ → Bool) (xs ys : List ℕ) → Each p (xs ++ ys) → Each p xs × Each p ys
each_halves p [] ys h = (tt, h)
each_halves p (x ∷ xs) ys h = let t = each_halves p xs ys h.1 in ((h.0, t.0), t.1)

each_taken : (p : ℕ → Bool) (n : ℕ) (xs : List ℕ) → Each p xs → Each p (take n xs)
each_taken p n xs h = (each_halves p (take n xs) (drop n xs) (subst (Each p) (sym (take-append-drop n xs)) h)).0

pub slice_of_whole : (w p x : List ℕ) (n : ℕ) → is_significant (w ++ p) ≡ true → x ≡ take n w → Each is_digit x
slice_of_whole w p x n h e = subst (Each is_digit) (sym e)
    (each_taken is_digit n w (each_halves is_digit w p (each_of_all (w ++ p) (all_digits (w ++ p) h))).0)

pub slice_of_part : (w p x : List ℕ) (n : ℕ) → is_significant (w ++ p) ≡ true → x ≡ take n p → Each is_digit x
slice_of_part w p x n h e = subst (Each is_digit) (sym e)
    (each_taken is_digit n p (each_halves is_digit w p (each_of_all (w ++ p) (all_digits (w ++ p) h))).1)
