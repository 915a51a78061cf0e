use Rattle.step_lexer.proofs.Determined.{end_again}
use Rattle.step_lexer.proofs.laws.end_is_answered_again.Goals as goal

pub returns : goal.returns
returns c = λ old new next s h g. end_again old new next s h g
