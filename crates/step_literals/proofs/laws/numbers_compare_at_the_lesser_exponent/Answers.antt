use Rattle.step_literals.proofs.LesserExponent.{at_lesser_exponent}
use Rattle.step_literals.proofs.laws.numbers_compare_at_the_lesser_exponent.Goals as goal

pub returns : goal.returns
returns c = at_lesser_exponent
