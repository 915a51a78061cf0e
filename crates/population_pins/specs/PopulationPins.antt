-- The pins of a population.
use Rattle.std.specs.Prelude.{ℕ, Bool}
use Rattle.value_equality.specs.Maps as maps
use Rattle.population_pins.specs.declared.pin_names.Pins.{Pins}

-- The instance with this name is pinned.
abbrev pub is_pinned : Pins → ℕ → Bool
is_pinned p y = maps.is_pinned p.names y
