use Rattle.step_literals.proofs.BitsLemmas.{bits_of_digits, len_of_digits}
use Rattle.step_literals.proofs.laws.bits_are_those_of_the_digits.Goals as goal

pub returns-clause-bits : goal.returns-clause-bits
returns-clause-bits c = bits_of_digits

pub returns-clause-len : goal.returns-clause-len
returns-clause-len c = len_of_digits
