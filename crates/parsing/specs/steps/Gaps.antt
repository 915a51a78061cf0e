-- Free cells inside a buffer.
use Rattle.std.specs.Prelude.{◌≡◌, ℕ, ◌<◌, ◌≤◌, List, length, take, drop}

-- The cells from index `top` on move to index `to`, with a free cell before them. The first `len` cells don't
-- change.
pub record Frees {C : Type 0} (len : ℕ) (old : List C) (top : ℕ) (new : List C) (to : ℕ) : Type 0 where
  pub free : len < to
  pub within : to ≤ length new
  pub front : take len new ≡ take len old
  pub behind : drop to new ≡ drop top old
