-- What the code computes; no promise stands here. The positions of first members.
use Rattle.std.specs.Prelude.{◌≡◌, ◌<◌, ℕ, List, length, slice_index}
use Rattle.value_equality.specs.Tables.{Table}
use Rattle.value_equality.specs.Standard.{IsFirstOfClass}
use Rattle.merge_classes.specs.steps.Heads.{member_names}

-- by class, the position of its first member
pub record AreFirsts (t : Table) (firsts : List ℕ) : Type 0 where
  pub each : length firsts ≡ length t.classes
  pub first : (c : ℕ) → c < length firsts → IsFirstOfClass (member_names t) t t.rounds c (slice_index firsts c)
