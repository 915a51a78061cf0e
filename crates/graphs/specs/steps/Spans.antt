-- What the code computes: the spans of vertices.
use Rattle.std.specs.Prelude.{◌≡◌, ℕ, ◌+◌, ◌<◌, ◌≤◌, true, false, List, length, get_or, ◌⊎◌}
use Rattle.std.specs.List.{sum_by}
use Rattle.graphs.specs.Graphs.{Graph, has}
use Rattle.graphs.specs.steps.Forests.{parent}

-- Every vertex except those in `ahead` has its span within the span of its parent, and no two such spans
-- overlap. The sizes of the spans that aren't placed yet add up to at most the number of vertices plus one.
pub record Sized (g : Graph) (ahead starts sizes : List ℕ) : Type 0 where
  pub starts_long : length starts ≡ length g
  pub sizes_long : length sizes ≡ length g + 1
  pub some : (a : ℕ) → a < length g + 1 → 0 < get_or sizes a 0
  pub begins : (a : ℕ) → a < length g → has ahead a ≡ false → 0 < get_or starts a 0
  pub inside : (a : ℕ) → a < length g → has ahead a ≡ false
      → get_or starts a 0 + get_or sizes a 0 ≤ get_or sizes (parent g a) 0
  pub apart : (a b : ℕ) → a < length g → b < length g → has ahead a ≡ false → has ahead b ≡ false
      → parent g a ≡ parent g b → (a ≡ b → ⊥)
      → (get_or starts a 0 + get_or sizes a 0 ≤ get_or starts b 0) ⊎ (get_or starts b 0 + get_or sizes b 0 ≤ get_or starts a 0)
  pub pending : (left : List ℕ) × (length left ≡ length g + 1) × (sum_by (λ n. n) left ≤ length g + 1)
      × ((a : ℕ) → a < length g + 1 → (has ahead a ≡ true) ⊎ (a ≡ length g) → get_or left a 0 ≡ get_or sizes a 0)

-- The span of each of these vertices begins at its start within the span of its parent.
pub record ArePlaced (g : Graph) (done starts sizes firsts : List ℕ) : Type 0 where
  pub long : length firsts ≡ length g + 1
  pub root : get_or firsts (length g) 0 ≡ 0
  pub each : (a : ℕ) → has done a ≡ true → get_or firsts a 0 ≡ get_or firsts (parent g a) 0 + get_or starts a 0
  pub within : (a : ℕ) → has done a ≡ true → get_or firsts a 0 + get_or sizes a 0 ≤ length g + 1
