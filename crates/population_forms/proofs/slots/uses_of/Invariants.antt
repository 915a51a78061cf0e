use Rattle.std.proofs.Common.{◌≡◌, take, filter_map, slice_get}
use Rattle.population_forms.proofs.slots.uses_of.Given as goal

abbrev pub invariant-loop-number : goal.invariant-loop-number
invariant-loop-number l = l.found.items ≡ filter_map (slice_get l.uses) (take l.number-index l.numbers)
