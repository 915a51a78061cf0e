-- What is at the start of a clean string: a run, or a character in UTF-8.
use Rattle.std.specs.Prelude.{◌≡◌, ◌≤◌, ◌<◌, ℕ, List, ◌++◌, length, take, drop}
use Rattle.std.specs.Char.{IsScalar, encode_utf8}
use Rattle.std.specs.List.{prefix_len}
use Rattle.std.specs.Str.{IsUtf8}
use Rattle.step_literals.specs.Bytes.{is_hex}
use Rattle.step_literals.specs.Strings.{is_high}

-- the bytes from 128 up at the start
abbrev pub high_run : List ℕ → List ℕ
high_run bs = take (prefix_len is_high bs) bs

-- the hexadecimal digits at the start
abbrev pub hex_run : List ℕ → List ℕ
hex_run bs = take (prefix_len is_hex bs) bs

-- the digits of a hexadecimal number at the start, at most `width` of them, and what follows them
abbrev pub number_digits : ℕ → List ℕ → List ℕ
number_digits width bs = take width (hex_run bs)

abbrev pub behind_number : ℕ → List ℕ → List ℕ
behind_number width bs = drop (length (number_digits width bs)) bs

-- no longer prefix of the bytes is UTF-8
abbrev pub IsLongestUtf8 : List ℕ → List ℕ → Type 0
IsLongestUtf8 bs front = (m : ℕ) → length front < m → m ≤ length bs → IsUtf8 (take m bs) → ⊥

-- the bytes begin with this character in UTF-8, and `rest` follows
pub record BeginsCharacter (bs : List ℕ) (c : ℕ) (rest : List ℕ) : Type 0 where
  pub scalar_is : IsScalar c
  pub split : bs ≡ encode_utf8 c ++ rest

abbrev pub IsFirstCharacter : List ℕ → ℕ → Type 0
IsFirstCharacter bs c = (rest : List ℕ) × BeginsCharacter bs c rest

abbrev pub BeginsNone : List ℕ → Type 0
BeginsNone bs = (c : ℕ) (rest : List ℕ) → BeginsCharacter bs c rest → ⊥

-- the bytes begin with this character in UTF-8, which is 128 or more, and `rest` follows
abbrev pub BeginsHigh : List ℕ → ℕ → List ℕ → Type 0
BeginsHigh bs c rest = BeginsCharacter bs c rest × (128 ≤ c)

abbrev pub BeginsNoHigh : List ℕ → Type 0
BeginsNoHigh bs = (c : ℕ) (rest : List ℕ) → BeginsHigh bs c rest → ⊥
