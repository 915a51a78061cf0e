-- The pieces of a number, as the code cuts them.
use Rattle.std.proofs.Common.{◌≡◌, ℕ, ◌+◌, ◌<◌, Bool, true, false, ◌||◌, Some, cond, List, [], ◌∷◌, ◌++◌, length, get_or, take, drop, refl, sym, ap, ◌∙◌, arith, append_assoc, take-append-drop, one-add}
use Rattle.std.specs.Prelude.{◌==◌}
use Rattle.std.specs.List.{prefix_len}
use Rattle.std.proofs.Math.Seq.{take-add}
use Rattle.std.proofs.lemmas.List.{drop-drop}
use Rattle.std.proofs.lemmas.List.Folds.{length-prefix_len}
use Rattle.std.proofs.lemmas.Bool.{false≢true}
use Rattle.step_literals.specs.Bytes.{is_digit, Each, Stops}
use Rattle.step_literals.specs.Tokens.{TokenKind, integer, real, is_sign, is_e, IsSign, sign_len, IsDigits, IsExponent, Allows, IsNext, NoneAt}
use Rattle.step_literals.specs.Numbers.{IsLongestExponent, StartsNumber}
use Rattle.step_literals.proofs.Runs.{run_at_prefix}
use Rattle.step_literals.proofs.Longest.{numbers, group, group_of, group_at, first_group, digit_group, sign_group}
use Rattle.step_literals.proofs.NumberLemmas.{sign_taken, exponent_with_digits, exponent_none, next_integer, next_real}

sign_cons : (b : ℕ) (bs : List ℕ) (t : Bool) → is_sign b ≡ t → IsSign (take (cond t 1 0) (b ∷ bs))
sign_cons b bs true h = h
sign_cons b bs false h = tt

pub sign_is : (l : List ℕ) → IsSign (take (sign_len l) l)
sign_is [] = tt
sign_is (b ∷ bs) = sign_cons b bs (is_sign b) refl

-- the run of digits at the front, if there is one
pub digits_are : (l : List ℕ) → 0 < prefix_len is_digit l → IsDigits (take (prefix_len is_digit l) l)
digits_are l h = (omega (arith, length-prefix_len is_digit l, h), (run_at_prefix is_digit l).passes)

-- a list cut in two places
cut_at : (n m : ℕ) (l : List ℕ) → (take (n + m) l ≡ take n l ++ take m (drop n l))
    × (drop (n + m) l ≡ drop m (drop n l))
cut_at n m l = (take-add n m l, sym (drop-drop m n l))

-- the exponent that the code finds
pub exponent_at : (l rest unsigned : List ℕ) (s d : ℕ) → 0 < length l → is_e (get_or l 0 0) ≡ true → rest ≡ drop 1 l
    → s ≡ sign_len rest → unsigned ≡ drop s rest → d ≡ prefix_len is_digit unsigned → 0 < d
    → IsLongestExponent (take (1 + s + d) l) (drop (1 + s + d) l)
exponent_at [] rest unsigned s d h he hr hs hu hd pos = absurd (omega (arith, h))
exponent_at (e ∷ r) rest unsigned s d h he hr hs hu hd pos =
    let run = run_at_prefix is_digit (drop (sign_len r) r) in
    let same_s : s ≡ sign_len r = hs ∙ ap sign_len hr in
    let same_d : d ≡ prefix_len is_digit (drop (sign_len r) r) = hd ∙ ap (prefix_len is_digit)
    (let q : unsigned ≡ drop (sign_len r) r = hu ∙ ap (λ x. drop x rest) hs ∙ ap (λ x. drop (sign_len x) x) hr in q)
    in
    let cut = cut_at (sign_len r) (prefix_len is_digit (drop (sign_len r) r)) r in
    let len : 1 + s + d ≡ 1 + (sign_len r + prefix_len is_digit (drop (sign_len r) r)) = omega (arith, same_s, same_d)
    in
    rw (len, one-add, cut.0, cut.1) (exponent_with_digits e (take (sign_len r) r) _ _ he (sign_is r)
    (digits_are (drop (sign_len r) r) (omega (arith, same_d, pos))) run.stops)

-- digits at the front are counted
pub digits_counted : (ds rest : List ℕ) → IsDigits ds → 0 < prefix_len is_digit (ds ++ rest)
digits_counted [] rest h = absurd (omega (arith, h.0))
digits_counted (x ∷ xs) rest h = rw h.1.0 (omega arith)

-- where no digit follows the sign, no number stands
no_digits : (s ds rest l unsigned : List ℕ) → IsSign s → IsDigits ds → s ++ (ds ++ rest) ≡ l
    → unsigned ≡ drop (sign_len l) l → prefix_len is_digit unsigned ≡ 0 → ⊥
no_digits s ds rest l unsigned hs hd e hu zero =
    let taken = (sign_taken s ds rest hs hd).1 ∙ ap (λ x. drop (sign_len x) x) e in
    omega (arith, digits_counted ds rest hd, ap (prefix_len is_digit) (taken ∙ sym hu), zero)

either_group : (b : ℕ) (t : Bool) → is_digit b ≡ t → (t || is_sign b) ≡ true → group_of b ≡ Some numbers
either_group b true h e = digit_group b h
either_group b false h e = sign_group b e

starts_group : (l : List ℕ) → StartsNumber l → group_at l ≡ Some numbers
starts_group [] h = absurd h
starts_group (b ∷ bs) h = either_group b (is_digit b) refl h

number_none_of : (l unsigned : List ℕ) → unsigned ≡ drop (sign_len l) l → prefix_len is_digit unsigned ≡ 0
    → (k : TokenKind) (other rest : List ℕ) → l ≡ other ++ rest → Allows k other rest → group k ≡ numbers → ⊥
number_none_of l unsigned hu zero integer other rest e a g =
    no_digits a.0 a.1 rest l unsigned a.2 a.3 (sym (append_assoc a.0 a.1 rest) ∙ ap (λ x. x ++ rest) (sym a.4) ∙ sym e)
    hu zero
number_none_of l unsigned hu zero real other rest e a g =
    no_digits a.0 a.1 (46 ∷ (a.2 ++ (a.3 ++ rest))) l unsigned a.4 a.5
    ((simp append_assoc at (ap (λ x. x ++ rest) (sym a.8))) ∙ sym e) hu zero
number_none_of l unsigned hu zero _ other rest e a g = cc

pub number_none : (l unsigned : List ℕ) (s d : ℕ) → StartsNumber l → s ≡ sign_len l → unsigned ≡ drop s l
    → d ≡ prefix_len is_digit unsigned → d ≡ 0 → NoneAt l
number_none l unsigned s d start hs hu hd zero k other rest e a =
    let g : group k ≡ numbers = (let p = first_group k other rest l a (sym e) in let q = starts_group l start in cc) in
    number_none_of l unsigned (hu ∙ ap (λ n. drop n l) hs) (sym hd ∙ zero) k other rest e a g

exponent_no_e_of : (l : List ℕ) → (0 < length l → is_e (get_or l 0 0) ≡ false) → (other rest : List ℕ) → other
    ++ rest ≡ l → 0 < length other → IsExponent other → ⊥
exponent_no_e_of l h [] rest e pos is = omega arith
exponent_no_e_of [] h (x ∷ xs) rest e pos is = cc
exponent_no_e_of (y ∷ ys) h (x ∷ xs) rest e pos is = let q : x ≡ y = cc in
    false≢true (sym (h (omega arith)) ∙ ap is_e (sym q) ∙ is.0)

-- no exponent where no `E` stands
pub exponent_no_e : (l : List ℕ) → (0 < length l → is_e (get_or l 0 0) ≡ false) → IsLongestExponent [] l
exponent_no_e l h = exponent_none l (exponent_no_e_of l h)

exponent_no_digits_of : (l r unsigned : List ℕ) → r ≡ drop 1 l → unsigned ≡ drop (sign_len r) r
    → prefix_len is_digit unsigned ≡ 0 → (other rest : List ℕ) → other ++ rest ≡ l → 0 < length other → IsExponent other
    → ⊥
exponent_no_digits_of l r unsigned hr hu zero [] rest e pos is = omega arith
exponent_no_digits_of [] r unsigned hr hu zero (x ∷ xs) rest e pos is = cc
exponent_no_digits_of (y ∷ ys) r unsigned hr hu zero (x ∷ xs) rest e pos is =
    let q : xs ++ rest ≡ ys = cc in
    no_digits is.1 is.2 rest r unsigned is.3 is.4 (sym (append_assoc is.1 is.2 rest) ∙ ap (λ l. l ++ rest) (sym is.5)
    ∙ q ∙ sym hr) hu zero

-- no exponent if no digits follow the `E`
pub exponent_no_digits : (l rest unsigned : List ℕ) (s d : ℕ) → rest ≡ drop 1 l → s ≡ sign_len rest
    → unsigned ≡ drop s rest → d ≡ prefix_len is_digit unsigned → d ≡ 0 → IsLongestExponent [] l
exponent_no_digits l rest unsigned s d hr hs hu hd zero =
    exponent_none l (exponent_no_digits_of l rest unsigned hr (hu ∙ ap (λ n. drop n rest) hs) (sym hd ∙ zero))

-- the integer that the code finds
pub integer_at : (l unsigned after : List ℕ) (s d : ℕ) → s ≡ sign_len l → unsigned ≡ drop s l → d ≡ prefix_len is_digit
    unsigned → (d ≡ 0 → ⊥) → after ≡ drop d unsigned → Stops (λ b. b == 46) after → IsNext integer (take (s + d) l)
    (drop (s + d) l)
integer_at l unsigned after s d hs hu hd pos ha no_dot =
    let cut = cut_at s d l in
    let run = run_at_prefix is_digit unsigned in
    let p : IsSign (take s l) = rw hs (sign_is l) in
    let digits : IsDigits (take d unsigned) = rw hd (digits_are unsigned (omega (arith, hd, pos))) in
    let stop : Stops is_digit after = rw (ha, hd) run.stops in
    rw (cut.0, cut.1, ← hu, ← ha) (next_integer (take s l) (take d unsigned) p digits after stop no_dot)

pub take_one : (l : List ℕ) → 0 < length l → take 1 l ≡ get_or l 0 0 ∷ []
take_one [] h = absurd (omega (arith, h))
take_one (x ∷ xs) h = refl

-- the real number that the code finds
pub real_at : (l unsigned dotted tail after : List ℕ) (s d p n : ℕ) → s ≡ sign_len l → unsigned ≡ drop s l
    → d ≡ prefix_len is_digit unsigned → (d ≡ 0 → ⊥)
    → dotted ≡ drop d unsigned → 0 < length dotted → get_or dotted 0 0 ≡ 46 → tail ≡ drop 1 dotted
    → p ≡ prefix_len is_digit tail → after ≡ drop p tail
    → IsLongestExponent (take n after) (drop n after) → IsNext real (take (s + d + 1 + p + n) l)
    (drop (s + d + 1 + p + n) l)
real_at l unsigned dotted tail after s d p n hs hu hd pos hdot some dot ht hp ha longest =
    let digits : IsDigits (take d unsigned) = rw hd (digits_are unsigned (omega (arith, hd, pos))) in
    let run = run_at_prefix is_digit tail in
    let sign : IsSign (take s l) = rw hs (sign_is l) in
    let part : Each is_digit (take p tail) = rw hp run.passes in
    let stop : Stops is_digit (take n after ++ drop n after) = rw take-append-drop (rw (ha, hp) run.stops) in
    let e2 : drop (s + d) l ≡ dotted = (cut_at s d l).1 ∙ ap (drop d) (sym hu) ∙ sym hdot in
    let e3 : drop (s + d + 1) l ≡ tail = (cut_at (s + d) 1 l).1 ∙ ap (drop 1) e2 ∙ sym ht in
    let e4 : drop (s + d + 1 + p) l ≡ after = (cut_at (s + d + 1) p l).1 ∙ ap (drop p) e3 ∙ sym ha in
    let one : take 1 dotted ≡ 46 ∷ [] = take_one dotted some ∙ ap (λ b. b ∷ []) dot in
    let t1 : take (s + d) l ≡ take s l ++ take d unsigned = (cut_at s d l).0 ∙ ap (λ x. take s l ++ take d x) (sym hu)
    in
    let t2 : take (s + d + 1) l ≡ take s l ++ take d unsigned ++ 46 ∷ [] = (cut_at (s + d) 1 l).0
    ∙ (λ i. t1 i ++ take 1 (e2 i)) ∙ ap (λ x. take s l ++ take d unsigned ++ x) one in
    let t3 : take (s + d + 1 + p) l ≡ take s l ++ take d unsigned ++ 46 ∷ [] ++ take p tail = (cut_at (s + d + 1) p l).0
    ∙ (λ i. t2 i ++ take p (e3 i)) in
    let t4 : take (s + d + 1 + p + n) l ≡ take s l ++ take d unsigned ++ 46 ∷ [] ++ take p tail ++ take n after =
    (cut_at (s + d + 1 + p) n l).0 ∙ (λ i. t3 i ++ take n (e4 i)) in
    let e5 : drop (s + d + 1 + p + n) l ≡ drop n after = (cut_at (s + d + 1 + p) n l).1 ∙ ap (drop n) e4 in
    let real_is = next_real (take s l) (take d unsigned) sign digits (take p tail) (take n after) (drop n after) part
    stop longest in
    rw (t4, e5, append_assoc (take s l ++ take d unsigned) (46 ∷ []) (take p tail)) real_is
