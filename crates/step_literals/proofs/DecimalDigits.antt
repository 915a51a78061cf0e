-- Digits, one by one.
use Rattle.std.proofs.Common.{◌≡◌, ℕ, zero, suc, ◌+◌, ◌-◌, ◌*◌, ◌%◌, ◌^◌, ◌<◌, ◌≤◌, Bool, true, false, cond, not, List, [], ◌∷◌, ◌++◌, length, get_or, drop, fold, ltb, refl, sym, ap, ◌∙◌, arith, add-one, one-add, append-nil, eq-eqb, eqb-true}
use Rattle.std.specs.Prelude.{◌==◌, ◌&&◌, ◌||◌, if◌then◌else◌}
use Rattle.std.specs.Char.{digit_value}
use Rattle.std.specs.Hash as fed
use Rattle.std.specs.Hash.{fed_then}
use Rattle.std.specs.List.{list_all, prefix_len}
use Rattle.std.specs.declared.cmp.Ordering.{Ordering}
use Rattle.std.specs.declared.cmp.Ordering.TheVariants.{Less, Equal, Greater}
use Rattle.std.specs.Ordering.{MatchOrdering, nat_cmp}
use Rattle.std.specs.Cmp.{nat_cmp_is, ranks}
use Rattle.std.proofs.Math.ListN.{get_or-append}
use Rattle.std.proofs.Math.Seq.{get_or-append_right}
use Rattle.std.proofs.lemmas.List.{get_or_default}
use Rattle.std.proofs.lemmas.Bool.{lt-ltb}
use Rattle.std.proofs.lemmas.Bool.Decides.{nat_tests}
use Rattle.step_literals.specs.Bytes.{is_digit}
use Rattle.step_literals.specs.Decimals.{is_negative}
use Rattle.step_literals.specs.DecimalKeys.{front_write, front_writes}
use Rattle.step_literals.specs.steps.DigitStrings.{significant, is_significant, has_digit, digit, front_value, end_of, significant_digits, is_below_zero}
use Rattle.step_literals.specs.steps.MagnitudeLemmas.{both, all_digits}

byte_value : (b : ℕ) → is_digit b ≡ true → (48 ≤ b) × (b - 48 ≡ digit_value b)
byte_value b h = (grind (arith, nat_tests), grind (arith, nat_tests))

digit_at_of : (xs : List ℕ) (i b : ℕ) → list_all is_digit xs ≡ true → b ≡ get_or xs i 48 → (48 ≤ b)
    × (b - 48 ≡ digit xs i)
digit_at_of [] i b h e = (omega (arith, e), omega (arith, e))
digit_at_of (x ∷ xs) zero b h e = rw e (byte_value x (both (is_digit x) (list_all is_digit xs) h).0)
digit_at_of (x ∷ xs) (suc i) b h e = digit_at_of xs i b (both (is_digit x) (list_all is_digit xs) h).1 e

digit_at : (xs : List ℕ) (i b : ℕ) → is_significant xs ≡ true → b ≡ get_or xs i 48 → (48 ≤ b) × (b - 48 ≡ digit xs i)
digit_at xs i b h e = digit_at_of xs i b (all_digits xs h) e

-- a digit before the point, and one behind it
pub whole_digit : (w p : List ℕ) (i : ℕ) → is_significant (w ++ p) ≡ true → i < length w → (48 ≤ get_or w i 0)
    × (get_or w i 0 - 48 ≡ digit (w ++ p) i)
whole_digit w p i h lt = digit_at (w ++ p) i (get_or w i 0) h
    (sym (get_or-append w p 48 i lt ∙ get_or_default w i 48 0 lt))

pub part_digit : (w p : List ℕ) (i : ℕ) → is_significant (w ++ p) ≡ true → length w ≤ i → i - length w < length p
    → (48 ≤ get_or p (i - length w) 0) × (get_or p (i - length w) 0 - 48 ≡ digit (w ++ p) i)
part_digit w p i h le lt = digit_at (w ++ p) i (get_or p (i - length w) 0) h
    (sym (get_or-append_right w p i 48 le ∙ get_or_default p (i - length w) 48 0 lt))

-- one more digit
pub front_next : (xs ys : List ℕ) (i : ℕ) → front_value i xs ≡ front_value i ys → digit xs i ≡ digit ys i
    → front_value (i + 1) xs ≡ front_value (i + 1) ys
front_next xs ys i h e = rw add-one (omega (arith, h, e))

pub front_wraps : (xs : List ℕ) (i v d : ℕ) → v ≡ front_value i xs % 2 ^ 64 → d ≡ digit xs i → (v * 10 % 2 ^ 64 + d) % 2
    ^ 64 ≡ front_value (i + 1) xs % 2 ^ 64
front_wraps xs i v d h e = rw (add-one, e) (omega (arith, h))

pub end_test : (n : ℕ) (xs : List ℕ) (t : Bool) → (digit xs n == 0) ≡ t → (n' : ℕ) → n' ≡ suc n
    → ((digit xs n ≡ 0) → end_of n' xs ≡ end_of n xs) × ((digit xs n ≡ 0 → ⊥) → end_of n' xs ≡ n')
end_test n xs true h n' e = (λ z. rw (e, h) refl, λ g. absurd (g (grind (arith, nat_tests))))
end_test n xs false h n' e = (
  λ z. absurd (let q : (digit xs n == 0) ≡ true = grind (arith, nat_tests) in cc),
  λ g. rw (e, h) refl,
)

significant_one : (x : ℕ) (xs : List ℕ) (b : Bool) → drop (prefix_len (λ b. b == 48) xs) xs ≡ significant xs
    → drop (cond b (1 + prefix_len (λ b. b == 48) xs) 0) (x ∷ xs) ≡ cond b (significant xs) (x ∷ xs)
significant_one x xs true ih = rw one-add ih
significant_one x xs false ih = refl

pub significant_cut : (xs : List ℕ) → drop (prefix_len (λ b. b == 48) xs) xs ≡ significant xs
significant_cut [] = refl
significant_cut (x ∷ xs) = significant_one x xs (x == 48) (significant_cut xs)

has_digit_is : (xs : List ℕ) → has_digit xs ≡ ltb 0 (length xs)
has_digit_is [] = refl
has_digit_is (x ∷ xs) = sym (lt-ltb 0 (length (x ∷ xs)) (omega arith))

-- a number with a minus sign is below zero where digits are left
pub below_with_sign : (t xs : List ℕ) (neg r : Bool) (n l : ℕ) → xs ≡ significant_digits t → length xs + n ≡ l
    → neg ≡ true → neg ≡ is_negative t → r ≡ ltb n l → r ≡ is_below_zero t
below_with_sign t xs neg r n l hx len h e hr =
    let more : ltb n l ≡ ltb 0 (length xs) = grind (arith, nat_tests) in
    hr ∙ more ∙ sym (has_digit_is xs) ∙ ap has_digit hx ∙ ap (λ b. b && has_digit (significant_digits t)) (sym h ∙ e)

pub below_without_sign : (t : List ℕ) (neg r : Bool) → neg ≡ false → neg ≡ is_negative t → r ≡ neg → r ≡ is_below_zero t
below_without_sign t neg r h e hr = hr ∙ h ∙ ap (λ b. b && has_digit (significant_digits t)) (sym h ∙ e)

below_has_digit : (n h : Bool) → (not (n && h) || h) ≡ true
below_has_digit true true = refl
below_has_digit true false = refl
below_has_digit false h = refl

-- what is below zero has a digit
pub sign_of_digits : (t xs : List ℕ) (r : Bool) → xs ≡ significant_digits t → r ≡ is_below_zero t
    → (not r || has_digit xs) ≡ true
sign_of_digits t xs r hx hr = (λ i. not (hr i) || has_digit (hx i)) ∙ below_has_digit (is_negative t)
    (has_digit (significant_digits t))

-- an answer of one comparison and of another
pub matched : {P Q R S T U : Type 0} (r : Ordering) → MatchOrdering r P Q R → (P → S) → (Q → T) → (R → U)
    → MatchOrdering r S T U
matched Less h less same greater = less h
matched Equal h less same greater = same h
matched Greater h less same greater = greater h

-- what tells two numbers apart tells which is greater
pub order_told : (r : Ordering) (a b x y : ℕ) → r ≡ nat_cmp a b → (a ≡ b → ⊥) → (a < b → x < y) → (b < a → y < x)
    → r ≡ nat_cmp x y
order_told r a b x y h apart less greater = h ∙ nat_cmp_is x y (nat_cmp a b)
    (matched (nat_cmp a b) (ranks a b) less (λ e. absurd (apart e)) greater)

-- digits that a hasher is fed: one more, at which it is told a number
module _ {S : Type 0} (write : S → List ℕ → S) (start s t : S) (xs : List ℕ) (n : ℕ)
    (fed_before : s ≡ fold write start (front_writes n xs)) where
  one_more_write : (b : Bool) → (n % 19 == 18) ≡ b
      → front_writes (n + 1) xs ≡ front_writes n xs ++ (if b then front_write (n + 1) xs else [])
  one_more_write b e = rw add-one (ap (λ c. front_writes n xs ++ (if c then front_write (suc n) xs else [])) e)

  pub fed_at : (v : ℕ) → n % 19 ≡ 18 → v ≡ front_value (n + 1) xs % 2 ^ 64 → t ≡ fold write s (fed.u64 v)
      → t ≡ fold write start (front_writes (n + 1) xs)
  fed_at v at worth feeds =
      fed_then write start s t (front_writes n xs) (fed.u64 v) fed_before feeds
      ∙ ap (λ k. fold write start (front_writes n xs ++ fed.u64 k)) worth
      ∙ ap (fold write start) (sym (one_more_write true (eq-eqb (n % 19) 18 at)))

  -- one more digit at which the hasher is fed no number
  pub fed_before_it : (n % 19 ≡ 18 → ⊥) → t ≡ s → t ≡ fold write start (front_writes (n + 1) xs)
  fed_before_it other same = by (n % 19 == 18) refl
    where
      by : (b : Bool) → (n % 19 == 18) ≡ b → t ≡ fold write start (front_writes (n + 1) xs)
      by true e = absurd (other (eqb-true (n % 19) 18 e))
      by false e =
          same ∙ fed_before ∙ ap (fold write start)
          (sym (append-nil (front_writes n xs)) ∙ sym (one_more_write false e))
