-- Finite maps from names to names.
use Rattle.std.specs.Prelude.{ℕ, unwrap_or}
use Rattle.std.specs.Ordering.{nat_cmp}
use Rattle.std.specs.BTreeMap.{BTreeMap, get}

-- the image of a name under the map; a name that isn't in the map stays as it is
abbrev pub led_by : BTreeMap ℕ ℕ → ℕ → ℕ
led_by m y = unwrap_or (get nat_cmp m y) y
