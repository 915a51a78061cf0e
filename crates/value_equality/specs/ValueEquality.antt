-- Value equality (compare ISO 10303-11, 12.2.1): the greatest relation that keeps. It is a
-- bisimulation in which a pinned instance is equal only to itself, and it compares cycles too.
use Rattle.std.specs.Prelude.{◌≡◌, ℕ, ◌==◌, ◌||◌, ◌↔◌, Bool, true, cond, List, Some}
use Rattle.step_values.specs.Values.{AgreeEach}
use Rattle.value_equality.specs.Rows.{Row, row_kind, row_at, IsName}

-- References agree under `R`: they name the same pinned instance, or two free ones that `R`
-- relates.
abbrev pub under : (ℕ → Bool) → (ℕ → ℕ → Bool) → ℕ → ℕ → Bool
under pinned R y z = cond (pinned y || pinned z) (y == z) (R y z)

-- `x` and `z` are instances of the same kind. If either is pinned, they are the same instance.
pub record AreAlike (rows : List Row) (pinned : ℕ → Bool) (x z : ℕ) : Type 0 where
  pub left : Row
  pub right : Row
  pub left_is : row_at rows x ≡ Some left
  pub right_is : row_at rows z ≡ Some right
  pub same_kind : row_kind left ≡ row_kind right
  pub same_if_pinned : (pinned x || pinned z) ≡ true → x ≡ z

-- `x` and `z` are instances whose values agree under `R`.
pub record AgreeUnder (rows : List Row) (pinned : ℕ → Bool) (R : ℕ → ℕ → Bool) (x z : ℕ) : Type 0 where
  pub left : Row
  pub right : Row
  pub left_is : row_at rows x ≡ Some left
  pub right_is : row_at rows z ≡ Some right
  pub values_agree : AgreeEach (under pinned R) left.values right.values

-- `R` keeps: instances that it relates are alike and agree under `R`.
abbrev pub Keeps : List Row → (ℕ → Bool) → (ℕ → ℕ → Bool) → Type 0
Keeps rows pinned R = (x z : ℕ) → R x z ≡ true → AreAlike rows pinned x z × AgreeUnder rows pinned R x z

-- Some relation that keeps relates `x` and `z`.
abbrev pub ValueEqual : List Row → (ℕ → Bool) → ℕ → ℕ → Type 0
ValueEqual rows pinned x z = (R : ℕ → ℕ → Bool) × (R x z ≡ true) × Keeps rows pinned R

-- `E` is the test of value equality.
abbrev pub IsValueEquality : List Row → (ℕ → Bool) → (ℕ → ℕ → Bool) → Type 0
IsValueEquality rows pinned E = (x z : ℕ) → (E x z ≡ true) ↔ ValueEqual rows pinned x z

-- `E` is an equivalence on the names, and keeps.
pub record IsCongruence (rows : List Row) (pinned : ℕ → Bool) (E : ℕ → ℕ → Bool) : Type 0 where
  pub keeps : Keeps rows pinned E
  pub reflexive : (x : ℕ) → IsName rows x → E x x ≡ true
  pub symmetric : (x z : ℕ) → E x z ≡ true → E z x ≡ true
  pub transitive : (x y z : ℕ) → E x y ≡ true → E y z ≡ true → E x z ≡ true
