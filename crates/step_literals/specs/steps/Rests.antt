-- The rest of a string's content, and a step of reading it.
use Rattle.std.specs.Prelude.{◌≡◌, ◌≤◌, ◌<◌, true, ℕ, ◌+◌, List, [], ◌∷◌, ◌++◌, length, map, drop, Option, Some, None, MatchOption}
use Rattle.std.specs.List.{prefix_len}
use Rattle.std.specs.Str.{chars}
use Rattle.step_literals.specs.Bytes.{Stops, is_hex}
use Rattle.step_literals.specs.Strings.{Piece, clean, is_high, piece_len}
use Rattle.step_literals.specs.steps.Characters.{high_run, hex_run}
use Rattle.step_literals.specs.steps.Inside.{is_sound}
use Rattle.step_literals.specs.Items.{items_of, pieces_of, group_items}
use Rattle.step_literals.specs.declared.literal.items.Item.{Item}
use Rattle.step_literals.specs.declared.literal.items.Item.TheVariants.{Code, Raw}
use Rattle.step_literals.specs.declared.literal.rest.Inside.{Inside}
use Rattle.step_literals.specs.declared.literal.rest.Inside.TheVariants.{Nothing, Groups, Characters, Bytes}
use Rattle.step_literals.specs.declared.literal.items.Items.{Items}
use Rattle.step_literals.specs.declared.literal.rest.Rest.{Rest}

-- the characters of a clean string that begins on this page
abbrev pub clean_items : ℕ → List ℕ → List Item
clean_items page bs = items_of page (pieces_of bs)

-- the remaining characters of the piece that the bytes begin inside of
abbrev pub inner_items : Inside → List ℕ → List Item
inner_items Nothing bs = []
inner_items (Groups w) bs = group_items w (hex_run bs)
inner_items Characters bs = map (λ c. Code c) (chars (high_run bs))
inner_items Bytes bs = map (λ b. Raw b) (high_run bs)

-- what follows that piece
abbrev pub behind : Inside → List ℕ → List ℕ
behind Nothing bs = bs
behind (Groups w) bs = drop (prefix_len is_hex bs + 4) bs
behind _ bs = drop (prefix_len is_high bs) bs

-- that piece has no more characters
abbrev pub IsOver : Inside → List ℕ → Type 0
IsOver Nothing bs = Unit {0}
IsOver (Groups w) bs = Stops is_hex bs
IsOver _ bs = Stops is_high bs

-- the characters of that piece, and those that follow
abbrev pub left_items : Inside → ℕ → List ℕ → List Item
left_items i page bs = inner_items i bs ++ clean_items page (behind i bs)

abbrev pub rest_items : Rest → List Item
rest_items r = left_items r.inside r.page (clean r.bytes.now)

-- the rest of the bytes, and their characters if they are read from the start of a piece
abbrev pub bytes_left : Rest → List ℕ
bytes_left r = clean r.bytes.now

abbrev pub page_items : Rest → List Item
page_items r = clean_items r.page (bytes_left r)

abbrev pub items_left : Items → List Item
items_left s = rest_items s.rest

abbrev pub shown : Option Item → List Item
shown None = []
shown (Some x) = x ∷ []

-- These characters are the one that was returned, if any, and those of the rest, which has fewer bytes.
pub record Goes (items : List Item) (bs : List ℕ) (item : Option Item) (rest : Rest) : Type 0 where
  pub same : items ≡ shown item ++ rest_items rest
  pub shorter : length (clean rest.bytes.now) < length bs

-- A character of the piece that the bytes begin inside of is returned, and the rest of the characters follows,
-- in fewer bytes.
pub record GoesOn (i : Inside) (page : ℕ) (bs : List ℕ) (item : Item) (after : List ℕ) : Type 0 where
  pub same : left_items i page bs ≡ item ∷ left_items i page after
  pub shorter : length after < length bs
  pub sound : is_sound i after ≡ true

abbrev pub Steps : List Item → List ℕ → Option (Option Item × Rest) → Type 0
Steps items bs result = MatchOption result (items ≡ []) (λ step. Goes items bs step.0 step.1)

-- a row of the table has a piece, whose first `begun` bytes come before these bytes, and which gives this
-- character, if any
pub record Shows (row : Option Piece) (begun page : ℕ) (bs : List ℕ) (item : Option Item) (rest : Rest) : Type 0 where
  pub piece : Piece
  pub stands : row ≡ Some piece
  pub more : ℕ
  pub len : begun + more ≡ piece_len piece
  pub same : items_of page (piece ∷ pieces_of (drop more bs)) ≡ shown item ++ rest_items rest
  pub shorter : length (clean rest.bytes.now) ≤ length bs

abbrev pub RowSteps : Option Piece → ℕ → ℕ → List ℕ → Option (Option Item × Rest) → Type 0
RowSteps row begun page bs result = MatchOption result (row ≡ None) (λ step. Shows row begun page bs step.0 step.1)
