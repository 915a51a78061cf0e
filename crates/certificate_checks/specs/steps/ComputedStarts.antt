-- What the code computes; no promise stands here. Whether positions of the same kind have the same
-- number.
use Rattle.std.specs.Prelude.{◌≡◌, ◌<◌, ℕ, List, length, slice_index}

-- Positions of the same kind have the same number.
abbrev pub Determine : List ℕ → List ℕ → Type 0
Determine kinds numbers = (i j : ℕ) → i < length kinds → j < length kinds → slice_index kinds i ≡ slice_index kinds j
    → slice_index numbers i ≡ slice_index numbers j

-- Each of the first `n` positions has the number of the position that its kind is.
abbrev pub AreFromKinds : List ℕ → List ℕ → ℕ → Type 0
AreFromKinds kinds numbers n =
    (i : ℕ) → i < n → slice_index numbers (slice_index kinds i) ≡ slice_index numbers i
