use Rattle.step_lexer.proofs.Determined.{fault_again}
use Rattle.step_lexer.proofs.laws.fault_is_answered_again.Goals as goal

pub returns : goal.returns
returns c = λ old new next f s h g. fault_again old new next f s h g
