-- What the index of references computes.
use Rattle.std.specs.Prelude.{ℕ, ◌+◌, ◌<◌, ◌≤◌, List, length, get_or, slice_index}
use Rattle.std.specs.List.{Contains}
use Rattle.std.specs.List.Sorted.{IsNonDecreasingBy}
use Rattle.partition_edges.specs.declared.edges.Edge.{Edge}

abbrev pub AreByTarget : List Edge → Type 0
AreByTarget = IsNonDecreasingBy (λ e. e.target)

-- the references to t begin at index k, or would begin there
pub record IsStart (edges : List Edge) (t k : ℕ) : Type 0 where
  pub before : (j : ℕ) (d : Edge) → j < k → (get_or edges j d).target < t
  pub from : (j : ℕ) (d : Edge) → k ≤ j → j < length edges → t ≤ (get_or edges j d).target
  pub within : k ≤ length edges

-- by target, the index at which the references to it begin; the last entry is where those to the last target
-- end
pub record AreStarts (edges : List Edge) (starts : List ℕ) : Type 0 where
  pub each : (t : ℕ) → t < length starts → IsStart edges t (slice_index starts t)
  pub inside : (e : Edge) → Contains edges e → e.target + 1 < length starts
