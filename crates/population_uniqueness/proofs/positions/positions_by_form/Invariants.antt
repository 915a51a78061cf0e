use Rattle.std.proofs.Common.{◌≡◌, map, take}
use Rattle.population_uniqueness.specs.steps.Positions.{numbers_in, positions_by}
use Rattle.population_uniqueness.proofs.positions.positions_by_form.Given as goal

abbrev pub invariant-loop-form : goal.invariant-loop-form
invariant-loop-form l = map numbers_in l.all.items ≡ map (positions_by l.rule) (take l.form-index l.forms)
