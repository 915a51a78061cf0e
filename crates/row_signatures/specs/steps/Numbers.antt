-- Numbers of positions.
use Rattle.std.specs.Prelude.{◌≡◌, ◌<◌, ℕ, List, length, slice_index}

-- the number of each position is a position that has this number
abbrev pub ArePlaces : List ℕ → Type 0
ArePlaces ns = (i : ℕ) → i < length ns
    → (slice_index ns i < length ns) × (slice_index ns (slice_index ns i) ≡ slice_index ns i)
