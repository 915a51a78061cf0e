-- The table of tokens of the exchange structure (ISO 10303-21, 5.2 and 6), and which token is at the start of a
-- text.
use Rattle.std.specs.Prelude.{◌≡◌, ℕ, ◌<◌, ◌≤◌, Bool, true, ◌==◌, ◌||◌, List, [], ◌∷◌, ◌++◌, length, take, drop, map, codes, if◌then◌else◌}
use Rattle.std.specs.Char.{to_ascii_lowercase}
use Rattle.step_literals.specs.Bytes.{is_digit, is_letter, is_word_byte, is_hex, Each, Stops}

-- one or more digits
abbrev pub IsDigits : List ℕ → Type 0
IsDigits ds = (0 < length ds) × Each is_digit ds

-- a letter or `_`, then letters, digits and `_`
abbrev pub IsKeyword : List ℕ → Type 0
IsKeyword [] = ⊥
IsKeyword (b ∷ bs) = (is_letter b ≡ true) × Each is_word_byte bs

abbrev pub is_sign : ℕ → Bool
is_sign b = b == 43 || b == 45

-- nothing, `+` or `-`
abbrev pub IsSign : List ℕ → Type 0
IsSign [] = Unit {0}
IsSign (b ∷ []) = is_sign b ≡ true
IsSign (b ∷ c ∷ bs) = ⊥

-- the number of signs, 0 or 1, at the start of a text
abbrev pub sign_len : List ℕ → ℕ
sign_len [] = 0
sign_len (b ∷ bs) = if is_sign b then 1 else 0

abbrev pub is_e : ℕ → Bool
is_e b = b == 69 || b == 101

-- nothing, or `E`, a sign and digits
abbrev pub IsExponent : List ℕ → Type 0
IsExponent [] = Unit {0}
IsExponent (e ∷ bs) = (is_e e ≡ true) × (sign ds : List ℕ) × IsSign sign × IsDigits ds × (bs ≡ sign ++ ds)

-- bytes with each apostrophe doubled
abbrev pub doubled : List ℕ → List ℕ
doubled [] = []
doubled (b ∷ bs) = if b == 39 then 39 ∷ 39 ∷ doubled bs else b ∷ doubled bs

-- a text is this word, whatever the case of its letters
abbrev pub Says : List ℕ → List ℕ → Type 0
Says word t = map to_ascii_lowercase t ≡ map to_ascii_lowercase word

-- one of `( ) , ; = $ *`
abbrev pub is_mark : ℕ → Bool
is_mark b = b == 40 || b == 41 || b == 44 || b == 59 || b == 61 || b == 36 || b == 42

-- the rows of the table
pub data TokenKind : Type 0 where
  begins : TokenKind
  ends : TokenKind
  keyword : TokenKind
  user_defined : TokenKind
  scope : TokenKind
  name : TokenKind
  integer : TokenKind
  real : TokenKind
  element : TokenKind
  string : TokenKind
  binary : TokenKind
  mark : TokenKind

-- the table: how a token of each kind is spelled
abbrev pub Spells : TokenKind → List ℕ → Type 0
Spells begins t = Says (codes "ISO-10303-21") t
Spells ends t = Says (codes "END-ISO-10303-21") t
Spells keyword t = IsKeyword t
Spells user_defined t = (word : List ℕ) × IsKeyword word × (t ≡ 33 ∷ word)
Spells scope t = Says (codes "&SCOPE") t
Spells name t = (ds : List ℕ) × IsDigits ds × (t ≡ 35 ∷ ds)
Spells integer t = (sign ds : List ℕ) × IsSign sign × IsDigits ds × (t ≡ sign ++ ds)
Spells real t = (sign whole part exponent : List ℕ) × IsSign sign × IsDigits whole × Each is_digit part
    × IsExponent exponent
    × (t ≡ sign ++ whole ++ 46 ∷ part ++ exponent)
Spells element t = (word : List ℕ) × IsKeyword word × (t ≡ 46 ∷ word ++ 46 ∷ [])
Spells string t = (content : List ℕ) × (t ≡ 39 ∷ doubled content ++ 39 ∷ [])
-- a digit from 0 to 3 is the number of bits of the first hexadecimal digit that are left out; 0 if there is no
-- hexadecimal digit
Spells binary t = (unused : ℕ) × (digits : List ℕ) × (48 ≤ unused) × (unused ≤ 51) × Each is_hex digits
    × (digits ≡ [] → unused ≡ 48)
    × (t ≡ 34 ∷ unused ∷ digits ++ 34 ∷ [])
Spells mark t = (b : ℕ) × (is_mark b ≡ true) × (t ≡ b ∷ [])

-- the table allows the token before what follows it: a string ends only if no apostrophe follows
abbrev pub Allows : TokenKind → List ℕ → List ℕ → Type 0
Allows string t after = Spells string t × Stops (λ b. b == 39) after
Allows kind t after = Spells kind t

-- t is the longest token that the table allows at the start of a text, and `after` is what follows it
pub record IsNext (kind : TokenKind) (t after : List ℕ) : Type 0 where
  pub allowed : Allows kind t after
  pub longest : (k : TokenKind) (other rest : List ℕ) → other ++ rest ≡ t ++ after → Allows k other rest
      → length other ≤ length t

-- the longest token at the start of a text is of this kind, and has n bytes
abbrev pub IsNextLength : TokenKind → List ℕ → ℕ → Type 0
IsNextLength kind left n = (n ≤ length left) × IsNext kind (take n left) (drop n left)

-- the table allows no token at the start of the text
abbrev pub NoneAt : List ℕ → Type 0
NoneAt left = (k : TokenKind) (other rest : List ℕ) → left ≡ other ++ rest → Allows k other rest → ⊥
