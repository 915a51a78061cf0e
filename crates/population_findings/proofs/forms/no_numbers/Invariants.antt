use Rattle.std.proofs.Common.{◌≡◌, ℕ, None}
use Rattle.population_findings.specs.steps.Making.{number_in}
use Rattle.population_findings.proofs.forms.no_numbers.Given as goal

abbrev pub invariant-loop : goal.invariant-loop
invariant-loop l = (i : ℕ) → number_in l.numbers.items i ≡ None
