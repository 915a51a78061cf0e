-- The longest number at the front of a text.
use Rattle.std.proofs.Common.{◌≡◌, ℕ, ◌+◌, ◌≤◌, ◌<◌, true, false, List, [], ◌∷◌, ◌++◌, length, take, drop, refl, sym, ap, ◌∙◌, arith, append_assoc, length-append}
use Rattle.std.specs.Prelude.{◌==◌}
use Rattle.std.proofs.lemmas.Bool.{false≢true}
use Rattle.std.proofs.lemmas.Bool.Decides.{nat_tests}
use Rattle.step_literals.specs.Bytes.{is_digit, Each, Stops}
use Rattle.step_literals.specs.Tokens.{TokenKind, integer, real, is_sign, is_e, IsSign, sign_len, IsDigits, IsExponent, Allows, IsNext}
use Rattle.step_literals.specs.Numbers.{IsLongestExponent}
use Rattle.step_literals.proofs.Runs.{cut_unique, run_fits}
use Rattle.step_literals.proofs.Longest.{numbers, group, same_group}

digit_no_sign : (b : ℕ) → is_digit b ≡ true → is_sign b ≡ false
digit_no_sign b h = grind (arith, nat_tests)

e_no_digit : (b : ℕ) → is_e b ≡ true → is_digit b ≡ false
e_no_digit b h = grind (arith, nat_tests)

-- the sign of a number is what stands before its digits
pub sign_taken : (s ds rest : List ℕ) → IsSign s → IsDigits ds
    → (s ≡ take (sign_len (s ++ (ds ++ rest))) (s ++ (ds ++ rest)))
    × (ds ++ rest ≡ drop (sign_len (s ++ (ds ++ rest))) (s ++ (ds ++ rest)))
sign_taken [] [] rest s h = absurd (omega (arith, h.0))
sign_taken [] (x ∷ xs) rest s h = rw (digit_no_sign x h.1.0) (refl, refl)
sign_taken (x ∷ []) ds rest s h = rw s (refl, refl)
sign_taken (x ∷ y ∷ ys) ds rest s h = absurd s

-- two numbers at one place have the same sign
pub sign_unique : (s ds rest s' ds' rest' : List ℕ) → IsSign s → IsDigits ds → IsSign s' → IsDigits ds' → s'
    ++ (ds' ++ rest') ≡ s ++ (ds ++ rest) → (s' ≡ s) × (ds' ++ rest' ≡ ds ++ rest)
sign_unique s ds rest s' ds' rest' hs hd hs' hd' e =
    let p = sign_taken s ds rest hs hd in
    let q = sign_taken s' ds' rest' hs' hd' in
    let n = ap sign_len e in
    (q.0 ∙ ap (λ l. take (sign_len l) l) e ∙ sym p.0, q.1 ∙ ap (λ l. drop (sign_len l) l) e ∙ sym p.1)

pub dot_stops : (after more : List ℕ) → Stops (λ b. b == 46) after → 46 ∷ more ≡ after → ⊥
dot_stops [] more h e = cc
dot_stops (x ∷ xs) more h e = let q : 46 ≡ x = cc in false≢true (sym (rw (← q) at h))

-- the digits after a dot and the exponent are no longer than the longest
tail_fits : (part exponent after : List ℕ) → Each is_digit part → Stops is_digit (exponent ++ after)
    → IsLongestExponent exponent after → (p e rest : List ℕ) → Each is_digit p → IsExponent e → p ++ (e ++ rest) ≡ part
    ++ (exponent ++ after) → length p + length e ≤ length part + length exponent
tail_fits part exponent after hp stop longest p [] rest h g q =
    omega (arith, run_fits is_digit p part rest (exponent ++ after) h stop q)
tail_fits part exponent after hp stop longest p (x ∷ xs) rest h g q =
    let cut = cut_unique is_digit p part ((x ∷ xs) ++ rest) (exponent ++ after) h hp (e_no_digit x g.0) stop q in
    omega (arith, longest.longest (x ∷ xs) rest cut.1 g, ap length cut.0)

exponent_fits : (e : ℕ) (sign ds after : List ℕ) → IsSign sign → IsDigits ds → Stops is_digit after
    → (other rest : List ℕ) → other ++ rest ≡ e ∷ (sign ++ ds ++ after) → IsExponent other
    → length other ≤ length (e ∷ (sign ++ ds))
exponent_fits e sign ds after hs hd stop [] rest q is = omega arith
exponent_fits e sign ds after hs hd stop (x ∷ xs) rest q is =
    let t : xs ++ rest ≡ sign ++ ds ++ after = cc in
    let u = sign_unique sign ds after is.1 is.2 rest hs hd is.3 is.4 (sym (append_assoc is.1 is.2 rest)
    ∙ ap (λ l. l ++ rest) (sym is.5) ∙ t ∙ append_assoc sign ds after) in
    omega (
      arith,
      run_fits is_digit is.2 ds rest after is.4.1 stop u.1,
      ap length is.5,
      ap length u.0,
      length-append {A = ℕ},
    )

no_longer : (after : List ℕ) → ((other rest : List ℕ) → other ++ rest ≡ after → 0 < length other → IsExponent other → ⊥)
    → (other rest : List ℕ) → other ++ rest ≡ after → IsExponent other → length other ≤ 0
no_longer after h [] rest q is = omega arith
no_longer after h (x ∷ xs) rest q is = absurd (h (x ∷ xs) rest q (omega arith) is)

-- the longest exponent, where digits follow the `E` and its sign
pub exponent_with_digits : (e : ℕ) (sign ds after : List ℕ) → is_e e ≡ true → IsSign sign → IsDigits ds
    → Stops is_digit after → IsLongestExponent (e ∷ (sign ++ ds)) after
exponent_with_digits e sign ds after he hs hd stop = record {
  is = (he, sign, ds, hs, hd, refl);
  longest = λ other rest q is. exponent_fits e sign ds after hs hd stop other rest q is;
}

-- the longest exponent is empty if no exponent begins the text
pub exponent_none : (after : List ℕ) → ((other rest : List ℕ) → other ++ rest ≡ after → 0 < length other
    → IsExponent other → ⊥) → IsLongestExponent [] after
exponent_none after h = record {
  is = tt;
  longest = λ other rest q is. no_longer after h other rest q is;
}

module _ (sign whole : List ℕ) (hs : IsSign sign) (hd : IsDigits whole) where
  longest_integer : (after : List ℕ) → Stops is_digit after → Stops (λ b. b == 46) after
      → (k : TokenKind) (other rest : List ℕ) → group k ≡ numbers → Allows k other rest → other
      ++ rest ≡ (sign ++ whole) ++ after → length other ≤ length (sign ++ whole)
  longest_integer after stop no_dot integer other rest g a e =
      let u = sign_unique sign whole after a.0 a.1 rest hs hd a.2 a.3 (sym (append_assoc a.0 a.1 rest)
      ∙ ap (λ l. l ++ rest) (sym a.4) ∙ e ∙ append_assoc sign whole after) in
      omega (
        arith,
        run_fits is_digit a.1 whole rest after a.3.1 stop u.1,
        ap length a.4,
        ap length u.0,
        length-append {A = ℕ},
      )
  longest_integer after stop no_dot real other rest g a e =
      let tail = 46 ∷ (a.2 ++ (a.3 ++ rest)) in
      let u = sign_unique sign whole after a.0 a.1 tail hs hd a.4 a.5
      ((simp append_assoc at (ap (λ l. l ++ rest) (sym a.8))) ∙ e ∙ append_assoc sign whole after) in
      let cut = cut_unique is_digit a.1 whole tail after a.5.1 hd.1 refl stop u.1 in
      absurd (dot_stops after _ no_dot cut.1)
  longest_integer after stop no_dot _ other rest g a e = absurd (cc)

  -- digits where no dot follows
  pub next_integer : (after : List ℕ) → Stops is_digit after → Stops (λ b. b == 46) after
      → IsNext integer (sign ++ whole) after
  next_integer after stop no_dot =
      let own : Allows integer (sign ++ whole) after = (sign, whole, hs, hd, refl) in
      record {
        allowed = own;
        longest = λ k other rest e a. longest_integer after stop no_dot k other rest
            (same_group integer k (sign ++ whole) after other rest own a e) a e;
      }

  longest_real : (part exponent after : List ℕ) → Each is_digit part → Stops is_digit (exponent ++ after)
      → IsLongestExponent exponent after → (k : TokenKind) (other rest : List ℕ) → group k ≡ numbers
      → Allows k other rest → other ++ rest ≡ sign ++ (whole ++ (46 ∷ (part ++ (exponent ++ after))))
      → length other ≤ length sign + length whole + 1 + length part + length exponent
  longest_real part exponent after hp stop longest integer other rest g a e =
      let u = sign_unique sign whole _ a.0 a.1 rest hs hd a.2 a.3 (sym (append_assoc a.0 a.1 rest)
      ∙ ap (λ l. l ++ rest) (sym a.4) ∙ e) in
      omega (
        arith,
        run_fits is_digit a.1 whole rest (46 ∷ (part ++ (exponent ++ after))) a.3.1 refl u.1,
        ap length a.4,
        ap length u.0,
        length-append {A = ℕ},
      )
  longest_real part exponent after hp stop longest real other rest g a e =
      let tail = 46 ∷ (a.2 ++ (a.3 ++ rest)) in
      let u = sign_unique sign whole _ a.0 a.1 tail hs hd a.4 a.5
      ((simp append_assoc at (ap (λ l. l ++ rest) (sym a.8))) ∙ e) in
      let cut = cut_unique is_digit a.1 whole tail (46 ∷ (part ++ (exponent ++ after))) a.5.1 hd.1 refl refl u.1 in
      let t : a.2 ++ (a.3 ++ rest) ≡ part ++ (exponent ++ after) = cc in
      let end = tail_fits part exponent after hp stop longest a.2 a.3 rest a.6 a.7 t in
      omega (arith, end, ap length a.8, ap length u.0, ap length cut.0, length-append {A = ℕ})
  longest_real part exponent after hp stop longest _ other rest g a e = absurd (cc)

  -- digits, a dot, digits and the longest exponent
  pub next_real : (part exponent after : List ℕ) → Each is_digit part → Stops is_digit (exponent ++ after)
      → IsLongestExponent exponent after → IsNext real (sign ++ whole ++ 46 ∷ part ++ exponent) after
  next_real part exponent after hp stop longest =
      let t = sign ++ whole ++ 46 ∷ part ++ exponent in
      let own : Allows real t after = (sign, whole, part, exponent, hs, hd, hp, longest.is, refl) in
      let same : t ++ after ≡ sign ++ (whole ++ (46 ∷ (part ++ (exponent ++ after)))) = simp append_assoc in
      record {
        allowed = own;
        longest = λ k other rest e a. omega (
          arith,
          longest_real part exponent after hp stop longest k
              other rest (same_group real k t after other rest own a e) a (e ∙ same),
          length-append {A = ℕ},
        );
      }
