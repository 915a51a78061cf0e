use Rattle.step_literals.proofs.CaseLemmas.{same_without_case}
use Rattle.step_literals.proofs.laws.words_are_said_in_upper_case.Goals as goal

pub returns : goal.returns
returns c = λ word text. same_without_case text word
