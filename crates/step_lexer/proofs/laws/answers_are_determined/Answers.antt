use Rattle.step_lexer.proofs.Determined.{determined}
use Rattle.step_lexer.proofs.laws.answers_are_determined.Goals as goal

pub returns : goal.returns
returns c = determined
