-- What the code computes; no promise stands here. The first free row of each kind, by its position.
use Rattle.std.specs.Prelude.{◌≡◌, ◌<◌, ℕ, Bool, true, false, cond, List, [], ◌∷◌, length, map, slice_get, Option, None, Some}
use Rattle.step_values.specs.Views.{word_of}
use Rattle.value_equality.specs.steps.ComputedKinds.{kind_test}
use Rattle.value_equality.specs.Rows.{Row, Kind, row_kind}
use Rattle.row_signatures.specs.declared.kinds.RowKind.{RowKind}

abbrev pub kind_seen : RowKind → Kind
kind_seen k = (k.section, map word_of k.types.now)

-- the first number that is listed with a kind, if any
abbrev pub first_in : List (RowKind × ℕ) → Kind → Option ℕ
first_in [] k = None
first_in (e ∷ es) k = cond (kind_test k (kind_seen e.0)) (Some e.1) (first_in es k)

-- the number that was noted before, otherwise this one
abbrev pub earlier : Option ℕ → ℕ → ℕ
earlier None n = n
earlier (Some m) n = m

-- the number of a free row is that of its kind, the number of a pinned row its own position
pub record IsNumber (pinned : ℕ → Bool) (r : Row) (place number : ℕ) (old new : Kind → Option ℕ) : Type 0 where
  pub of_pinned : pinned r.name ≡ true → number ≡ place
  pub kept : pinned r.name ≡ true → (k : Kind) → new k ≡ old k
  pub of_free : pinned r.name ≡ false → number ≡ earlier (old (row_kind r)) place
  pub noted : pinned r.name ≡ false → (k : Kind) → new k ≡ cond (kind_test k (row_kind r)) (Some number) (old k)

-- the numbers of the first n rows, and the first free row of each kind among them
pub record AreNumbers (pinned : ℕ → Bool) (rows : List Row) (numbers : List ℕ) (first : Kind → Option ℕ) (n : ℕ) : Type 0
  where
    pub each : length numbers ≡ n
    pub of_pinned : (i : ℕ) (r : Row) → i < n → slice_get rows i ≡ Some r → pinned r.name ≡ true
        → slice_get numbers i ≡ Some i
    pub of_free : (i : ℕ) (r : Row) → i < n → slice_get rows i ≡ Some r → pinned r.name ≡ false
        → slice_get numbers i ≡ first (row_kind r)
    pub told : (k : Kind) (m : ℕ) → first k ≡ Some m → (r : Row) × (slice_get rows m ≡ Some r)
        × (pinned r.name ≡ false) × (row_kind r ≡ k)

-- each position that is noted for a kind is that of a row of this kind
abbrev pub HaveRows : List Row → (Kind → Option ℕ) → Type 0
HaveRows rows first = (k : Kind) (m : ℕ) → first k ≡ Some m → (r : Row) × (slice_get rows m ≡ Some r) × (row_kind r ≡ k)

-- the position is noted for the kind of its row
abbrev pub IsFirst : List Row → (Kind → Option ℕ) → ℕ → Type 0
IsFirst rows first m = (r : Row) × (slice_get rows m ≡ Some r) × (first (row_kind r) ≡ Some m)

-- the positions in the list are noted for the kinds of their rows
abbrev pub AreRecent : List Row → (Kind → Option ℕ) → List (Option ℕ) → Type 0
AreRecent rows first recent = (i m : ℕ) → slice_get recent i ≡ Some (Some m) → IsFirst rows first m
