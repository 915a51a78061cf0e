-- The characters of a string (ISO 10303-21, 6.4.3).
use Rattle.std.specs.Prelude.{◌≡◌, ℕ, zero, suc, ◌+◌, ◌-◌, ◌==◌, List, [], ◌∷◌, ◌++◌, length, map, take, drop, if◌then◌else◌, Option, Some, None}
use Rattle.std.specs.Str.{is_utf8, chars}
use Rattle.std.specs.Str.Parse.{digits_value}
use Rattle.step_literals.specs.Strings.{Piece, apostrophe, backslash, shift, page, code, groups, run, byte, clean, content_of, piece_at, piece_len, AreRead}
use Rattle.step_literals.specs.declared.literal.items.Item.{Item}
use Rattle.step_literals.specs.declared.literal.items.Item.TheVariants.{Code, Page, Raw}
use Rattle.step_literals.specs.declared.literal.Text.{Text}

-- `\S\` and c: on page A the upper half of ISO 8859-1, which is a code of ISO 10646
abbrev pub shift_item : ℕ → ℕ → Item
shift_item p c = if p == 1 then Code (c + 128) else Page p (c + 128)

-- hexadecimal digits in groups of w, a code for each group; at most n groups
abbrev pub group_items_within : ℕ → ℕ → List ℕ → List Item
group_items_within n w [] = []
group_items_within zero w (d ∷ ds) = []
group_items_within (suc n) w (d ∷ ds) = Code (digits_value 16 (take w (d ∷ ds)))
    ∷ group_items_within n w (drop w (d ∷ ds))

abbrev pub group_items : ℕ → List ℕ → List Item
group_items w ds = group_items_within (length ds) w ds

-- the characters if the bytes are UTF-8, otherwise the bytes themselves
abbrev pub run_items : List ℕ → List Item
run_items bs = if is_utf8 bs then map (λ c. Code c) (chars bs) else map (λ b. Raw b) bs

-- the characters of these pieces, one after another; p is the page of the first piece, 1 for A
abbrev pub items_of : ℕ → List Piece → List Item
items_of p [] = []
items_of p (apostrophe ∷ ps) = Code 39 ∷ items_of p ps
items_of p (backslash ∷ ps) = Code 92 ∷ items_of p ps
items_of p (shift c ∷ ps) = shift_item p c ∷ items_of p ps
items_of p (page letter ∷ ps) = items_of (letter - 64) ps
items_of p (code ds ∷ ps) = Code (digits_value 16 ds) ∷ items_of p ps
items_of p (groups w ds ∷ ps) = group_items w ds ++ items_of p ps
items_of p (run bs ∷ ps) = run_items bs ++ items_of p ps
items_of p (byte b ∷ ps) = Code b ∷ items_of p ps

-- the first piece, and the pieces after it
abbrev pub first_piece : Option Piece → (Piece → List Piece) → List Piece
first_piece None after = []
first_piece (Some p) after = p ∷ after p

-- the pieces that a clean string is read as, at most n, up to a directive that isn't completed
abbrev pub pieces_within : ℕ → List ℕ → List Piece
pieces_within zero bs = []
pieces_within (suc n) bs = first_piece (piece_at bs) (λ p. pieces_within n (drop (piece_len p) bs))

abbrev pub pieces_of : List ℕ → List Piece
pieces_of bs = pieces_within (length bs) bs

-- the characters of a string with this spelling, including its apostrophes
unfoldable pub string_items : List ℕ → List Item
string_items t = items_of 1 (pieces_of (clean (content_of t)))

-- the characters of a string; two strings are equal if they share them
abbrev pub text_items : Text → List Item
text_items t = string_items t.text.now

-- A string that can be read has the characters of its pieces, which begin on page A.
abbrev pub StringsSayTheirPieces : Type 0
StringsSayTheirPieces = (t : List ℕ) (ps : List Piece) → AreRead (clean (content_of t)) ps []
    → string_items t ≡ items_of 1 ps
