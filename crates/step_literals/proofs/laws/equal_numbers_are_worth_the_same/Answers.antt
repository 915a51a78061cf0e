use Rattle.std.specs.Cmp.{signed_Decides}
use Rattle.step_literals.specs.DecimalKeys.{units_of}
use Rattle.step_literals.proofs.laws.equal_numbers_are_worth_the_same.Goals as goal

pub returns : goal.returns
returns c = λ d e. signed_Decides (units_of d) (units_of e)
