-- Two lists of numbers, each the inverse of the other.
use Rattle.std.specs.Prelude.{◌≡◌, ℕ, ◌<◌, List, length, slice_index}

-- If `order` has x at index q, then `index` has q at index x, and the other way round.
pub record AreInverse (order index : List ℕ) : Type 0 where
  pub lengths : length order ≡ length index
  pub order_below : (q : ℕ) → q < length index → slice_index order q < length index
  pub index_below : (x : ℕ) → x < length index → slice_index index x < length index
  pub at_index : (x : ℕ) → x < length index → slice_index order (slice_index index x) ≡ x
  pub at_order : (q : ℕ) → q < length index → slice_index index (slice_index order q) ≡ q
