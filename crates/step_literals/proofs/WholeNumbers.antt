-- Bytes that are a number and nothing more.
use Rattle.std.proofs.Common.{◌≡◌, ℕ, ◌≤◌, ◌<◌, Bool, true, cond, ◌||◌, List, [], ◌∷◌, ◌++◌, length, take, drop, refl, sym, ap, ◌∙◌, arith, append-nil, append_assoc, take-append-drop, subst, inl, inr}
use Rattle.std.proofs.lemmas.Bool.Decides.{nat_tests}
use Rattle.step_literals.specs.Bytes.{is_digit}
use Rattle.step_literals.specs.Tokens.{is_sign, IsSign, IsDigits, integer, real, IsNext, NoneAt}
use Rattle.step_literals.specs.Numbers.{StartsNumber}
use Rattle.step_literals.specs.Literals.{IsNumber}
use Rattle.std.proofs.Math.ListN.{length-take}
use Rattle.step_literals.proofs.Runs.{front_back}
use Rattle.step_literals.proofs.NumberLimits.{number_is}

sign_or_digit : (b : ℕ) → is_sign b ≡ true → (is_digit b || is_sign b) ≡ true
sign_or_digit b h = grind (arith, nat_tests)

digit_or_sign : (b : ℕ) → is_digit b ≡ true → (is_digit b || is_sign b) ≡ true
digit_or_sign b h = rw h refl

begins_number : (s ds rest l : List ℕ) → IsSign s → IsDigits ds → s ++ (ds ++ rest) ≡ l → StartsNumber l
begins_number [] [] rest l hs hd e = absurd (omega (arith, hd.0))
begins_number [] (d ∷ ds) rest [] hs hd e = absurd (cc)
begins_number [] (d ∷ ds) rest (b ∷ bs) hs hd e = let q : d ≡ b = cc in digit_or_sign b (ap is_digit (sym q) ∙ hd.1.0)
begins_number (x ∷ []) ds rest [] hs hd e = absurd (cc)
begins_number (x ∷ []) ds rest (b ∷ bs) hs hd e = let q : x ≡ b = cc in sign_or_digit b (ap is_sign (sym q) ∙ hs)
begins_number (x ∷ y ∷ ys) ds rest l hs hd e = absurd hs

starts : (t : List ℕ) → IsNumber t → StartsNumber t
starts t (inl h) = begins_number h.0 h.1 [] t h.2 h.3 (ap (λ l. h.0 ++ l) (append-nil h.1) ∙ sym h.4)
starts t (inr h) = begins_number h.0 h.1 (46 ∷ (h.2 ++ h.3)) t h.4 h.5 ((simp append_assoc) ∙ sym h.8)

spelled_next : (t l after : List ℕ) (b : Bool) → IsNext (cond b real integer) l after → l ++ after ≡ t → IsNumber t
    → length t ≤ length l
spelled_next t l after b h e (inl n) = h.longest integer t [] (append-nil t ∙ sym e) n
spelled_next t l after b h e (inr n) = h.longest real t [] (append-nil t ∙ sym e) n

pub none_number : (t : List ℕ) → NoneAt t → IsNumber t → ⊥
none_number t none (inl n) = none integer t [] (sym (append-nil t)) n
none_number t none (inr n) = none real t [] (sym (append-nil t)) n

-- a number at the front is all of the bytes where it is as long
pub whole_number : (t : List ℕ) (n : ℕ) (b : Bool) → n ≤ length t → IsNext (cond b real integer) (take n t) (drop n t)
    → n ≡ length t → IsNumber t
whole_number t n b within h e =
    let same : take n t ≡ t = (λ i. take (e i) t) ∙ (let c = front_back t t [] (length t) (sym (append-nil t)) refl in
    c.1) in
    subst IsNumber same (number_is b (take n t) (drop n t) h)

pub number_whole : (t : List ℕ) (n : ℕ) (b : Bool) → n ≤ length t → IsNext (cond b real integer) (take n t) (drop n t)
    → IsNumber t → n ≡ length t
number_whole t n b within h num = omega (
  arith,
  spelled_next t (take n t) (drop n t) b h (take-append-drop n t) num,
  length-take n t,
  within,
)
