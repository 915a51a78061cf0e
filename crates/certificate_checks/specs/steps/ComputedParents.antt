-- What the code computes; no promise stands here. Classes with their parents, one by one.
use Rattle.std.specs.Prelude.{◌≡◌, ◌<◌, ℕ, List, Some, length, map, slice_get, slice_index}
use Rattle.value_equality.specs.Standard.{IsParent}
use Rattle.value_equality.specs.Tables.{Table, split, ancestor_of}

-- If the class was split off, its parent is as `IsParent` requires.
abbrev pub HasParent : Table → ℕ → Type 0
HasParent t c = (parent round : ℕ) → slice_get t.classes c ≡ Some (split parent round) → IsParent t c parent round

-- `ancestors` are the ancestors of the first `n` classes at a round.
pub record AreAncestors (t : Table) (round : ℕ) (ancestors : List ℕ) (n : ℕ) : Type 0 where
  pub each : length ancestors ≡ n
  pub ancestor : (c : ℕ) → c < n → slice_get ancestors c ≡ ancestor_of t.classes round (Some c)

-- The entry at the class of each member.
abbrev pub led_by_classes : List ℕ → List (ℕ × ℕ) → List ℕ
led_by_classes ancestors ms = map (λ (m : ℕ × ℕ). slice_index ancestors m.1) ms
