use Rattle.std.proofs.Common.{◌≡◌, ◌++◌, drop}
use Rattle.population_inverses.specs.steps.Inverses.{numbers_by}
use Rattle.population_inverses.proofs.inverses.numbers_of.Given as goal

abbrev pub invariant-loop-number : goal.invariant-loop-number
invariant-loop-number l =
    l.numbers.items ++ numbers_by (drop l.number l.inverses) l.number l.form ≡ numbers_by l.inverses 0 l.form
