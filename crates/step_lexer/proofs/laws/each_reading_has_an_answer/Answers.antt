use Rattle.step_lexer.proofs.Answered.{answered}
use Rattle.step_lexer.proofs.laws.each_reading_has_an_answer.Goals as goal

pub returns : goal.returns
returns c = answered
