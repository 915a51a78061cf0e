use Rattle.std.proofs.Common.{◌≡◌, drop}
use Rattle.population_uniqueness.specs.steps.Positions.{positions_of}
use Rattle.population_uniqueness.proofs.Behind.{behind}
use Rattle.population_uniqueness.proofs.positions.positions_in_turn.Given as goal

abbrev pub invariant-loop-place : goal.invariant-loop-place
invariant-loop-place l =
    behind l.found.items (positions_of l.slots (drop l.place-index l.places)) ≡ positions_of l.slots l.places
