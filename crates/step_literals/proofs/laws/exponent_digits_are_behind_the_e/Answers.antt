use Rattle.step_literals.proofs.NumberLimits.{exponent_written, no_exponent}
use Rattle.step_literals.proofs.laws.exponent_digits_are_behind_the_e.Goals as goal

pub returns-clause-written : goal.returns-clause-written
returns-clause-written c = λ front sign ds e. exponent_written front sign ds e

pub returns-clause-none : goal.returns-clause-none
returns-clause-none c = no_exponent
