-- Images of a population, and its quotients.
use Rattle.std.specs.Prelude.{◌≡◌, ℕ, ◌==◌, ◌&&◌, Bool, true, cond, List, [], ◌∷◌, map, filter, Some, is_some}
use Rattle.value_equality.specs.Rows.{Row, names, row_at, IsName, RowsAgree, renamed_row}

-- `h` maps the instances of `P` onto those of `Q`, keeps kinds, values and references (bags up to
-- order), and maps no other instance to the image of a pinned one.
pub record IsImage (P Q : List Row) (h : ℕ → ℕ) (pinned : ℕ → Bool) : Type 0 where
  pub lands : (x : ℕ) (p : Row) → row_at P x ≡ Some p → (q : Row) × (row_at Q (h x) ≡ Some q)
      × RowsAgree (renamed_row h p) q
  pub onto : (y : ℕ) → IsName Q y → (x : ℕ) × IsName P x × (h x ≡ y)
  pub alone : (x z : ℕ) → IsName P x → IsName P z → pinned z ≡ true → h x ≡ h z → x ≡ z

-- `h` maps the instances `x` and `z` to the same name.
abbrev pub kernel : List Row → (ℕ → ℕ) → ℕ → ℕ → Bool
kernel P h x z = is_some (row_at P x) && (is_some (row_at P z) && (h x == h z))

-- The first of the names that `E` relates to `x`; `x` if there is none.
abbrev pub head_of : List ℕ → (ℕ → ℕ → Bool) → ℕ → ℕ
head_of [] E x = x
head_of (y ∷ ys) E x = cond (E y x) y (head_of ys E x)

-- the merged population: the first row of each class of E, with each reference replaced by the first of its class
abbrev pub quotient : List Row → (ℕ → ℕ → Bool) → List Row
quotient rows E = map (renamed_row (head_of (names rows) E)) (filter (λ r. head_of (names rows) E r.name == r.name)
    rows)
