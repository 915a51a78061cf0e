-- Two texts are equal in upper case where they are in lower case.
use Rattle.std.proofs.Common.{◌≡◌, ℕ, List, [], ◌∷◌, map, refl, sym, ap, ◌∙◌, arith}
use Rattle.std.specs.Prelude.{◌↔◌}
use Rattle.std.specs.Char.{to_ascii_uppercase, to_ascii_lowercase}
use Rattle.std.proofs.lemmas.Bool.Decides.{nat_tests}
use Rattle.step_literals.specs.Words.{upper}

abbrev lower : List ℕ → List ℕ
lower text = map to_ascii_lowercase text

upper_of_lower_byte : (b : ℕ) → to_ascii_uppercase (to_ascii_lowercase b) ≡ to_ascii_uppercase b
upper_of_lower_byte b = grind (arith, nat_tests)

lower_of_upper_byte : (b : ℕ) → to_ascii_lowercase (to_ascii_uppercase b) ≡ to_ascii_lowercase b
lower_of_upper_byte b = grind (arith, nat_tests)

upper_of_lower : (t : List ℕ) → upper (lower t) ≡ upper t
upper_of_lower [] = refl
upper_of_lower (b ∷ bs) = λ i. upper_of_lower_byte b i ∷ upper_of_lower bs i

lower_of_upper : (t : List ℕ) → lower (upper t) ≡ lower t
lower_of_upper [] = refl
lower_of_upper (b ∷ bs) = λ i. lower_of_upper_byte b i ∷ lower_of_upper bs i

pub same_without_case : (s t : List ℕ) → (map to_ascii_lowercase s ≡ map to_ascii_lowercase t) ↔ (upper s ≡ upper t)
same_without_case s t = (
  λ e. sym (upper_of_lower s) ∙ ap upper e ∙ upper_of_lower t,
  λ e. sym (lower_of_upper s)
      ∙ ap lower e ∙ lower_of_upper t,
)
