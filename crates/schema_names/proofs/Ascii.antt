-- The bytes of a word are ASCII.
use Rattle.std.specs.Prelude.{◌≡◌, ℕ, ◌<◌, true, List, [], ◌∷◌, get_or}
use Rattle.std.proofs.Common.{arith, zero, suc}
use Rattle.std.proofs.lemmas.Bool.Decides.{nat_tests}
use Rattle.step_literals.specs.Bytes.{is_word_byte, Each}
use Rattle.step_literals.specs.Tokens.{IsKeyword}
use Rattle.step_literals.proofs.KeywordLemmas.{keyword_each}

one-below : (b : ℕ) → is_word_byte b ≡ true → b < 128
one-below b h = grind (arith, nat_tests)

each-below : (bs : List ℕ) → Each is_word_byte bs → (i : ℕ) → get_or bs i 0 < 128
each-below [] h i = omega arith
each-below (b ∷ bs) h zero = one-below b h.0
each-below (b ∷ bs) h (suc i) = each-below bs h.1 i

pub word-below : (bs : List ℕ) → IsKeyword bs → (i : ℕ) → get_or bs i 0 < 128
word-below bs h i = each-below bs (keyword_each bs h) i
