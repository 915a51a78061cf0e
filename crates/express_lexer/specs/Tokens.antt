-- The table of tokens of EXPRESS text (ISO 10303-11, 7), and the token at the beginning of a text.
use Rattle.std.specs.Prelude.{◌≡◌, ℕ, ◌%◌, ◌<◌, ◌≤◌, Bool, true, ◌==◌, ◌&&◌, ◌||◌, nat_le, List, [], ◌∷◌, ◌++◌, length, codes}
use Rattle.step_literals.specs.Bytes.{is_digit, is_word_byte, is_hex, Each, Stops}
use Rattle.step_literals.specs.Tokens.{IsDigits, IsExponent, doubled}
use Rattle.express_lexer.specs.declared.marks.Mark.{Mark}
use Rattle.express_lexer.specs.Marks.{mark_text}

abbrev pub is_letter : ℕ → Bool
is_letter b = (nat_le 65 b && nat_le b 90) || (nat_le 97 b && nat_le b 122)

-- a letter, then letters, digits and `_`
abbrev pub IsWord : List ℕ → Type 0
IsWord [] = ⊥
IsWord (b ∷ bs) = (is_letter b ≡ true) × Each is_word_byte bs

-- `0` or `1`
abbrev pub is_bit : ℕ → Bool
is_bit b = b == 48 || b == 49

-- the rows of the table
pub data TokenKind : Type 0 where
  word : TokenKind
  integer : TokenKind
  real : TokenKind
  string : TokenKind
  encoded : TokenKind
  binary : TokenKind
  mark : TokenKind

-- the table: the spelling of a token of each kind
abbrev pub Spells : TokenKind → List ℕ → Type 0
Spells word t = IsWord t
Spells integer t = IsDigits t
Spells real t = (whole part exponent : List ℕ) × IsDigits whole × Each is_digit part × IsExponent exponent
    × (t ≡ whole ++ 46 ∷ part ++ exponent)
Spells string t = (content : List ℕ) × (t ≡ 39 ∷ doubled content ++ 39 ∷ [])
-- hexadecimal digits in groups of eight, between quotes
Spells encoded t = (digits : List ℕ) × Each is_hex digits × (length digits % 8 ≡ 0) × (t ≡ 34 ∷ digits ++ 34 ∷ [])
-- `%` and bits
Spells binary t = (bits : List ℕ) × (0 < length bits) × Each is_bit bits × (t ≡ 37 ∷ bits)
Spells mark t = (m : Mark) × (t ≡ mark_text m)

-- The table allows the token before what follows it. A string ends only if no apostrophe follows.
-- `(` is a mark only if no `*` follows, since a remark begins with both.
abbrev pub Allows : TokenKind → List ℕ → List ℕ → Type 0
Allows string t after = Spells string t × Stops (λ b. b == 39) after
Allows mark t after = Spells mark t × (t ≡ codes "(" → Stops (λ b. b == 42) after)
Allows kind t after = Spells kind t

-- t is the longest prefix of a text that the table allows as a token, and `after` is the rest
pub record IsNext (kind : TokenKind) (t after : List ℕ) : Type 0 where
  pub allowed : Allows kind t after
  pub longest : (k : TokenKind) (other rest : List ℕ) → other ++ rest ≡ t ++ after → Allows k other rest
      → length other ≤ length t

-- the table allows no prefix of the text as a token
abbrev pub NoneAt : List ℕ → Type 0
NoneAt left = (k : TokenKind) (other rest : List ℕ) → left ≡ other ++ rest → Allows k other rest → ⊥
