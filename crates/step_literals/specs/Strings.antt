-- The content between the apostrophes of a string (ISO 10303-21, 6.4.3): bytes and directives.
use Rattle.std.specs.Prelude.{◌≡◌, ◌⊎◌, ◌++◌, ◌≤◌, ℕ, ◌+◌, ◌-◌, ◌%◌, ◌<◌, Bool, not, ◌&&◌, ◌||◌, ◌==◌, nat_le, nat_lt, nat_eq, List, [], ◌∷◌, length, filter, take, drop, slice_index, Option, Some, None, codes, if◌then◌else◌}
use Rattle.std.specs.List.{starts_with, prefix_len}
use Rattle.step_literals.specs.Bytes.{is_hex, Each}

-- the bytes between the first and the last byte
abbrev pub content_of : List ℕ → List ℕ
content_of t = take (length t - 2) (drop 1 t)

-- the bytes of a string without the control bytes, which are removed before anything is read
abbrev pub clean : List ℕ → List ℕ
clean bs = filter (λ b. nat_le 32 b) bs

-- a piece of a string
pub data Piece : Type 0 where
  -- two apostrophes for one
  apostrophe : Piece
  -- two backslashes for one
  backslash : Piece
  -- `\S\` and this byte, an apostrophe doubled
  shift : ℕ → Piece
  -- `\PA\` to `\PI\`, by this letter
  page : ℕ → Piece
  -- `\X\` and these two hexadecimal digits
  code : List ℕ → Piece
  -- `\X2\` or `\X4\`, these hexadecimal digits in groups of this many, and `\X0\`
  groups : ℕ → List ℕ → Piece
  -- all consecutive bytes from 128 up
  run : List ℕ → Piece
  -- any other byte
  byte : ℕ → Piece

abbrev pub begins_with : List ℕ → List ℕ → Bool
begins_with text bs = starts_with nat_eq bs text

-- a byte beyond ASCII
abbrev pub is_high : ℕ → Bool
is_high b = nat_le 128 b

-- after `\S\`: one byte from 32 to 126, an apostrophe doubled
abbrev pub shift_at : List ℕ → Option Piece
shift_at [] = None
shift_at (c ∷ bs) =
    if nat_lt c 32 || nat_lt 126 c then None
    else (if c == 39 && not (begins_with (39 ∷ []) bs) then None else Some (shift c))

-- after `\X\`: two hexadecimal digits
abbrev pub code_at : List ℕ → Option Piece
code_at bs = if nat_le 2 (prefix_len is_hex bs) then Some (code (take 2 bs)) else None

-- after `\X2\` or `\X4\`: hexadecimal digits in groups of w, possibly none, and `\X0\`
abbrev pub groups_at : ℕ → List ℕ → Option Piece
groups_at w bs =
    let n = prefix_len is_hex bs in
    if (n % w == 0) && begins_with (codes "\\X0\\") (drop n bs) then Some (groups w (take n bs)) else None

-- `\PA\` to `\PI\`
abbrev pub names_page : List ℕ → Bool
names_page bs = begins_with (codes "\\P") bs && nat_le 65 (slice_index bs 2) && nat_le (slice_index bs 2) 73 &&
    slice_index bs 3 == 92

-- The table of pieces: the piece at the start of a clean string that isn't empty. None means that one of the
-- directives is begun but not completed. Any other backslash is a character by itself.
abbrev pub piece_at : List ℕ → Option Piece
piece_at [] = None
piece_at (b ∷ bs) =
    let all = b ∷ bs in
    if begins_with (codes "''") all then Some apostrophe
    else (if begins_with (codes "\\\\") all then Some backslash
    else (if begins_with (codes "\\S\\") all then shift_at (drop 3 all)
    else (if names_page all then Some (page (slice_index all 2))
    else (if begins_with (codes "\\X\\") all then code_at (drop 3 all)
    else (if begins_with (codes "\\X2\\") all then groups_at 4 (drop 4 all)
    else (if begins_with (codes "\\X4\\") all then groups_at 8 (drop 4 all)
    else (if is_high b then Some (run (take (prefix_len is_high all) all))
    else Some (byte b))))))))

-- the number of bytes of a piece
abbrev pub piece_len : Piece → ℕ
piece_len apostrophe = 2
piece_len backslash = 2
piece_len (shift c) = if c == 39 then 5 else 4
piece_len (page p) = 4
piece_len (code ds) = 5
piece_len (groups w ds) = 8 + length ds
piece_len (run bs) = length bs
piece_len (byte b) = 1

-- the spelling of a piece
abbrev pub SpellsPiece : Piece → List ℕ → Type 0
SpellsPiece apostrophe t = t ≡ codes "''"
SpellsPiece backslash t = t ≡ codes "\\\\"
SpellsPiece (shift c) t = (32 ≤ c) × (c ≤ 126) × (t ≡ codes "\\S\\" ++ (if c == 39 then 39 ∷ 39 ∷ [] else c ∷ []))
SpellsPiece (page p) t = (65 ≤ p) × (p ≤ 73) × (t ≡ codes "\\P" ++ p ∷ 92 ∷ [])
SpellsPiece (code ds) t = Each is_hex ds × (length ds ≡ 2) × (t ≡ codes "\\X\\" ++ ds)
SpellsPiece (groups w ds) t = Each is_hex ds × (length ds % w ≡ 0)
    × (((w ≡ 4) × (t ≡ codes "\\X2\\" ++ ds ++ codes "\\X0\\"))
    ⊎ ((w ≡ 8) × (t ≡ codes "\\X4\\" ++ ds ++ codes "\\X0\\")))
SpellsPiece (run bs) t = Each is_high bs × (t ≡ bs)
SpellsPiece (byte b) t = (b < 128) × (t ≡ b ∷ [])

-- the bytes begin with this piece, whose length is right
pub record BeginsPiece (bs : List ℕ) (p : Piece) : Type 0 where
  pub text : List ℕ
  pub rest : List ℕ
  pub split : bs ≡ text ++ rest
  pub spells : SpellsPiece p text
  pub len : piece_len p ≡ length text

-- the bytes begin with `\S\`, `\X\`, `\X2\` or `\X4\`
pub record BeginsDirective (bs : List ℕ) : Type 0 where
  pub text : List ℕ
  pub rest : List ℕ
  pub split : bs ≡ text ++ rest
  pub directive : (text ≡ codes "\\S\\") ⊎ (text ≡ codes "\\X\\") ⊎ (text ≡ codes "\\X2\\") ⊎ (text ≡ codes "\\X4\\")

-- a clean string is read from the left as these pieces, and `left` is the rest
abbrev pub AreRead : List ℕ → List Piece → List ℕ → Type 0
AreRead bs [] left = bs ≡ left
AreRead bs (p ∷ ps) left = (piece_at bs ≡ Some p) × AreRead (drop (piece_len p) bs) ps left

-- the content of a string can be read to its end
abbrev pub IsReadable : List ℕ → Type 0
IsReadable content = (ps : List Piece) × AreRead (clean content) ps []

-- the first directive that is begun but not completed begins with the backslash at this index
pub record IsBrokenAt (content : List ℕ) (index : ℕ) : Type 0 where
  pub within : index < length content
  pub backslash_there : slice_index content index ≡ 92
  pub pieces : List Piece
  pub read : AreRead (clean content) pieces (clean (drop index content))
  pub broken : piece_at (clean (drop index content)) ≡ None
