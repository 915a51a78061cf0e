-- When a finite map from names to names is an image.
use Rattle.std.specs.Prelude.{◌≡◌, ◌↔◌, ℕ, Bool, true, List, is_some}
use Rattle.std.specs.Ordering.{nat_cmp}
use Rattle.std.specs.BTreeMap.{BTreeMap, get}
use Rattle.std.specs.BTreeSet.{BTreeSet, contains}
use Rattle.step_values.specs.Maps.{led_by}
use Rattle.value_equality.specs.Rows.{Row, IsName}
use Rattle.value_equality.specs.Images.{IsImage}

abbrev pub is_key : BTreeMap ℕ ℕ → ℕ → Bool
is_key m y = is_some (get nat_cmp m y)

-- The name is in the set of pinned names.
abbrev pub is_pinned : BTreeSet ℕ → ℕ → Bool
is_pinned s y = contains nat_cmp s y

-- The keys of the map are the names of `P`, and the map is an image.
pub record IsMapImage (P Q : List Row) (m : BTreeMap ℕ ℕ) (pinned : ℕ → Bool) : Type 0 where
  pub domain : (y : ℕ) → (is_key m y ≡ true) ↔ IsName P y
  pub image : IsImage P Q (led_by m) pinned
