use Rattle.step_literals.proofs.DecimalPieces.{integer_worth, plain_worth, real_worth, writes_some}
use Rattle.step_literals.proofs.laws.numbers_are_worth_their_pieces.Goals as goal

pub returns-clause-integers : goal.returns-clause-integers
returns-clause-integers c = λ sign ds hs hd. integer_worth sign ds hs hd

pub returns-clause-reals : goal.returns-clause-reals
returns-clause-reals c = λ sign whole part hs hw hp. plain_worth sign whole hs hw part hp

pub returns-clause-exponents : goal.returns-clause-exponents
returns-clause-exponents c = λ sign whole part e minus ds hs hw hp he hm hd. real_worth sign whole hs hw part hp _ _
    (writes_some e minus ds he hm hd)
