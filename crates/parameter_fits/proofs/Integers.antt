-- A number without a point has no exponent.
use Rattle.std.specs.Prelude.{◌≡◌, ℕ, ◌==◌, ◌||◌, not, Bool, true, false, List, [], ◌∷◌, ◌++◌}
use Rattle.std.specs.List.{list_any}
use Rattle.std.proofs.Common.{refl, inl, inr, sym, ap, ◌∙◌, arith}
use Rattle.std.proofs.Math.Bool.{Bool-set}
use Rattle.std.proofs.Math.Logic.{∥∥₁_elim}
use Rattle.std.proofs.lemmas.Bool.Decides.{nat_tests}
use Rattle.std.proofs.lemmas.List.Folds.{list_any-append}
use Rattle.step_literals.specs.Bytes.{is_digit, Each}
use Rattle.step_literals.specs.Tokens.{is_e, is_sign, IsSign}
use Rattle.step_literals.specs.Literals.{IsNumber, IsDecimal}

abbrev point-or-e : ℕ → Bool
point-or-e b = b == 46 || is_e b

abbrev point : ℕ → Bool
point b = b == 46

none-of : (p : ℕ → Bool) (t : List ℕ) → ((b : ℕ) → is_digit b ≡ true → p b ≡ false) → Each is_digit t
    → list_any p t ≡ false
none-of p [] h e = refl
none-of p (b ∷ t) h e = ap (λ x. x || list_any p t) (h b e.0) ∙ none-of p t h e.1

signs : (p : ℕ → Bool) (s : List ℕ) → ((b : ℕ) → is_sign b ≡ true → p b ≡ false) → IsSign s → list_any p s ≡ false
signs p [] h e = refl
signs p (b ∷ []) h e = ap (λ x. x || false) (h b e)
signs p (b ∷ c ∷ bs) h e = absurd e

digit-is-neither : (b : ℕ) → is_digit b ≡ true → point-or-e b ≡ false
digit-is-neither b h = grind (arith, nat_tests)

digit-is-no-point : (b : ℕ) → is_digit b ≡ true → point b ≡ false
digit-is-no-point b h = grind (arith, nat_tests)

sign-is-neither : (b : ℕ) → is_sign b ≡ true → point-or-e b ≡ false
sign-is-neither b h = grind (arith, nat_tests)

sign-is-no-point : (b : ℕ) → is_sign b ≡ true → point b ≡ false
sign-is-no-point b h = grind (arith, nat_tests)

or-false : (a b : Bool) → a ≡ false → b ≡ false → (a || b) ≡ false
or-false a b e f = rw (e, f) refl

or-true : (a b : Bool) → b ≡ true → (a || b) ≡ true
or-true true b e = refl
or-true false b e = e

has-point : (test : ℕ → Bool) (front p x : List ℕ) → test 46 ≡ true → list_any test ((front ++ (46 ∷ p)) ++ x) ≡ true
has-point test front p x e =
    list_any-append test (front ++ (46 ∷ p)) x
    ∙ ap (λ b. b || list_any test x)
    (list_any-append test front (46 ∷ p)
    ∙ or-true (list_any test front) (list_any test (46 ∷ p)) (ap (λ b. b || list_any test p) e))

of-number : (t : List ℕ) → IsNumber t → list_any point-or-e t ≡ list_any point t
of-number t (inl (s, ds, hs, hd, e)) =
    ap (list_any point-or-e) e
    ∙ list_any-append point-or-e s ds
    ∙ or-false (list_any point-or-e s) (list_any point-or-e ds) (signs point-or-e s sign-is-neither hs)
    (none-of point-or-e ds digit-is-neither hd.1)
    ∙ sym (or-false (list_any point s) (list_any point ds) (signs point s sign-is-no-point hs)
    (none-of point ds digit-is-no-point hd.1))
    ∙ sym (list_any-append point s ds)
    ∙ sym (ap (list_any point) e)
of-number t (inr (s, w, p, x, hs, hw, hp, hx, e)) =
    ap (list_any point-or-e) e
    ∙ has-point point-or-e (s ++ w) p x refl
    ∙ sym (has-point point (s ++ w) p x refl)
    ∙ sym (ap (list_any point) e)

pub of-decimal : (t : List ℕ) → ∥ IsDecimal t ∥₁ → not (list_any (λ b. b == 46 || is_e b) t) ≡ not (list_any (λ b. b == 46) t)
of-decimal t h = ∥∥₁_elim h (Bool-set _ _) (λ d. ap not (of-number t d.number))
