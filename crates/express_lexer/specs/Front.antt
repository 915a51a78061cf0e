-- The token at the beginning of the rest of a text, and its value.
use Rattle.std.specs.Prelude.{◌≡◌, ℕ, ◌≤◌, List, length, take, drop, ◌⊎◌, Option, MatchOption}
use Rattle.express_lexer.specs.declared.token.Sort.{Sort}
use Rattle.express_lexer.specs.declared.token.Sort.TheVariants as sorts
use Rattle.step_literals.specs.Numbers.{IsShortNumber}
use Rattle.express_lexer.specs.Marks.{mark_text}
use Rattle.express_lexer.specs.Tokens.{TokenKind, word, integer, real, string, encoded, binary, mark, IsNext, NoneAt}

abbrev pub kind_of : Sort → TokenKind
kind_of (sorts.Word w) = word
kind_of (sorts.Integer d) = integer
kind_of (sorts.Real d) = real
kind_of (sorts.String s) = string
kind_of (sorts.Encoded s) = encoded
kind_of (sorts.Binary b) = binary
kind_of (sorts.Mark m) = mark

-- the token has the value of this text
abbrev pub HasValue : Sort → List ℕ → Type 0
HasValue (sorts.Word w) t = w.text.now ≡ t
HasValue (sorts.Integer d) t = (d.text.now ≡ t) × IsShortNumber t
HasValue (sorts.Real d) t = (d.text.now ≡ t) × IsShortNumber t
HasValue (sorts.String s) t = s.text.now ≡ t
HasValue (sorts.Encoded s) t = s.text.now ≡ t
HasValue (sorts.Binary b) t = b.text.now ≡ t
HasValue (sorts.Mark m) t = mark_text m ≡ t

-- the rest begins with the token that has n bytes and this value
pub record IsFront (left : List ℕ) (sort : Sort) (n : ℕ) : Type 0 where
  pub within : n ≤ length left
  pub next : IsNext (kind_of sort) (take n left) (drop n left)
  pub value : HasValue sort (take n left)

-- the rest begins with a number that isn't within the limits
pub record IsLongNumber (left : List ℕ) : Type 0 where
  pub len : ℕ
  pub within : len ≤ length left
  pub next : IsNext integer (take len left) (drop len left) ⊎ IsNext real (take len left) (drop len left)
  pub long : IsShortNumber (take len left) → ⊥

-- the rest doesn't begin with a token within the limits
abbrev pub IsFlawed : List ℕ → Type 0
IsFlawed left = NoneAt left ⊎ IsLongNumber left

-- the token at the beginning of the rest and the number of its bytes, if it is within the limits
abbrev pub FrontOrFlaw : List ℕ → Option (Sort × ℕ) → Type 0
FrontOrFlaw left result = MatchOption result (IsFlawed left) (λ front. IsFront left front.0 front.1)
