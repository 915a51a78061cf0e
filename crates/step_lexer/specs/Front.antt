-- The token at the start of the rest of a text, its value, and the flaw if there is no token within the limits.
use Rattle.std.specs.Prelude.{◌≡◌, ℕ, ◌-◌, ◌<◌, ◌≤◌, ◌^◌, List, [], ◌∷◌, ◌++◌, length, take, drop, ◌⊎◌, Bool, ◌||◌, Result, MatchResult}
use Rattle.std.specs.Str.Parse.{digits_value}
use Rattle.step_lexer.specs.declared.token.Mark.{Mark}
use Rattle.step_lexer.specs.declared.token.Mark.TheVariants.{Open, Close, Comma, Semicolon, Equals, Dollar, Asterisk}
use Rattle.step_lexer.specs.declared.token.Sort.{Sort}
use Rattle.step_lexer.specs.declared.token.Sort.TheVariants as sorts
use Rattle.step_literals.specs.declared.fault.Flaw.{Flaw}
use Rattle.step_literals.specs.declared.fault.Flaw.TheVariants.{BadToken, UnendedString, BadEscape, NumberTooLong, NameTooLarge}
use Rattle.step_literals.specs.Tokens.{TokenKind, begins, ends, keyword, user_defined, scope, name, integer, real, element, string, binary, mark, IsNext, NoneAt}
use Rattle.step_literals.specs.Bytes.{is_digit}
use Rattle.step_literals.specs.Tokens.{is_sign}
use Rattle.step_literals.specs.Numbers.{IsShortNumber}
use Rattle.step_literals.specs.Strings.{content_of, IsReadable, IsBrokenAt}

abbrev pub kind_of : Sort → TokenKind
kind_of sorts.Begin = begins
kind_of sorts.End = ends
kind_of (sorts.Keyword w) = keyword
kind_of (sorts.UserDefined w) = user_defined
kind_of sorts.Scope = scope
kind_of (sorts.Name n) = name
kind_of (sorts.Integer d) = integer
kind_of (sorts.Real d) = real
kind_of (sorts.Element w) = element
kind_of (sorts.String s) = string
kind_of (sorts.Binary b) = binary
kind_of (sorts.Mark m) = mark

-- the byte of a mark
abbrev pub mark_byte : Mark → ℕ
mark_byte Open = 40
mark_byte Close = 41
mark_byte Comma = 44
mark_byte Semicolon = 59
mark_byte Equals = 61
mark_byte Dollar = 36
mark_byte Asterisk = 42

-- the value of a token, given its text
abbrev pub HasValue : Sort → List ℕ → Type 0
HasValue sorts.Begin t = Unit {0}
HasValue sorts.End t = Unit {0}
HasValue (sorts.Keyword w) t = w.text.now ≡ t
HasValue (sorts.UserDefined w) t = 33 ∷ w.text.now ≡ t
HasValue sorts.Scope t = Unit {0}
HasValue (sorts.Name n) t = (n ≡ digits_value 10 (drop 1 t)) × (n < 2 ^ 64)
HasValue (sorts.Integer d) t = (d.text.now ≡ t) × IsShortNumber t
HasValue (sorts.Real d) t = (d.text.now ≡ t) × IsShortNumber t
HasValue (sorts.Element w) t = 46 ∷ w.text.now ++ 46 ∷ [] ≡ t
HasValue (sorts.String s) t = (s.text.now ≡ t) × IsReadable (content_of t)
HasValue (sorts.Binary b) t = b.text.now ≡ t
HasValue (sorts.Mark m) t = mark_byte m ∷ [] ≡ t

-- the rest of a text begins with a token of n bytes that has this sort and value
pub record IsFront (left : List ℕ) (sort : Sort) (n : ℕ) : Type 0 where
  pub within : n ≤ length left
  pub next : IsNext (kind_of sort) (take n left) (drop n left)
  pub value : HasValue sort (take n left)

-- the rest begins with a number that isn't within the limits
pub record IsLongNumber (left : List ℕ) : Type 0 where
  pub len : ℕ
  pub within : len ≤ length left
  pub next : IsNext integer (take len left) (drop len left) ⊎ IsNext real (take len left) (drop len left)
  pub long : IsShortNumber (take len left) → ⊥

-- the rest begins with an instance name whose number isn't below 2^64
pub record IsLargeName (left : List ℕ) : Type 0 where
  pub len : ℕ
  pub within : len ≤ length left
  pub next : IsNext name (take len left) (drop len left)
  pub large : 2 ^ 64 ≤ digits_value 10 (drop 1 (take len left))

-- The rest begins with a string. A directive in it is begun but not completed, and its backslash is at this
-- index of the rest.
pub record HasBadEscape (left : List ℕ) (index : ℕ) : Type 0 where
  pub len : ℕ
  pub within : len ≤ length left
  pub next : IsNext string (take len left) (drop len left)
  pub inside : 0 < index
  pub broken : IsBrokenAt (content_of (take len left)) (index - 1)

-- the flaw at the start of the rest, and the index of the flawed byte
abbrev pub IsFlawed : List ℕ → Flaw → ℕ → Type 0
IsFlawed left BadToken index = NoneAt left × (take 1 left ≡ 39 ∷ [] → ⊥) × (index ≡ 0)
IsFlawed left UnendedString index = NoneAt left × (take 1 left ≡ 39 ∷ []) × (index ≡ 0)
IsFlawed left BadEscape index = HasBadEscape left index
IsFlawed left NumberTooLong index = IsLongNumber left × (index ≡ 0)
IsFlawed left NameTooLarge index = IsLargeName left × (index ≡ 0)

-- the token at the start of the rest and its length, or its flaw and the index of the flawed byte
abbrev pub FrontOrFlaw : List ℕ → Result (Sort × ℕ) (Flaw × ℕ) → Type 0
FrontOrFlaw left result = MatchResult result (λ front. IsFront left front.0 front.1)
    (λ flaw. IsFlawed left flaw.0 flaw.1)

-- a number can begin with this byte
abbrev pub begins_number : ℕ → Bool
begins_number b = is_digit b || is_sign b
