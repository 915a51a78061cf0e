-- How the content of a string is skipped, a piece at a time.
use Rattle.std.specs.Prelude.{◌≡◌, ℕ, ◌+◌, ◌-◌, true, List, ◌++◌, length, drop, slice_index, Option, Some}
use Rattle.step_literals.specs.Strings.{Piece, clean, begins_with, names_page, piece_len}

-- `after` is what is left of `before` after the first n of its bytes from 32 up
pub record Skips (n : ℕ) (before after : List ℕ) : Type 0 where
  pub passed : List ℕ
  pub split : before ≡ passed ++ after
  pub left : clean after ≡ drop n (clean before)

-- `before` begins with this text, and `after` is what follows it
abbrev pub Strips : List ℕ → List ℕ → List ℕ → Type 0
Strips text before after = (begins_with text (clean before) ≡ true) × Skips (length text) before after

-- `before` begins with one of `\PA\` to `\PI\`, which names this page, 1 for A, and `after` is what follows it
abbrev pub StripsPage : List ℕ → ℕ → List ℕ → Type 0
StripsPage before page after = (names_page (clean before) ≡ true) × (page ≡ slice_index (clean before) 2 - 64)
    × Skips 4 before after

-- a row of the table has a piece, whose first `begun` bytes come before `before`, and `after` is what follows
-- the piece
pub record Completes (row : Option Piece) (begun : ℕ) (before after : List ℕ) : Type 0 where
  pub piece : Piece
  pub stands : row ≡ Some piece
  pub more : ℕ
  pub len : begun + more ≡ piece_len piece
  pub skips : Skips more before after
