use Rattle.std.proofs.Common.{◌≡◌, map, take}
use Rattle.population_inverses.specs.steps.Inverses.{numbers_by}
use Rattle.population_inverses.proofs.inverses.numbers_by_form.Given as goal

abbrev pub invariant-loop-form : goal.invariant-loop-form
invariant-loop-form l =
    map (λ v. v.items) l.rows.items ≡ map (numbers_by l.inverses 0) (take l.form-index l.forms)
