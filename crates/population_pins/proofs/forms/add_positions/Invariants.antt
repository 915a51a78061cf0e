use Rattle.std.proofs.Common.{◌≡◌, ◌++◌, drop}
use Rattle.std.specs.Prelude.{filter_map}
use Rattle.typed_populations.specs.ValueOrder.{position_among}
use Rattle.population_pins.proofs.forms.add_positions.Given as goal

abbrev pub invariant-loop-place : goal.invariant-loop-place
invariant-loop-place l =
    l.keys.items ++ filter_map (position_among l.slots) (drop l.place-index l.places)
    ≡ l.fn.keys.items ++ filter_map (position_among l.slots) l.places
