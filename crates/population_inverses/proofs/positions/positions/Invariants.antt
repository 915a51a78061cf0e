use Rattle.std.proofs.Common.{◌≡◌, map, take}
use Rattle.population_inverses.specs.InverseReferences.{position_by}
use Rattle.population_inverses.proofs.positions.positions.Given as goal

abbrev pub invariant-loop-form : goal.invariant-loop-form
invariant-loop-form l = l.positions.items ≡ map (position_by l.inverse) (take l.form-index l.forms)
