use Rattle.step_literals.specs.Bytes.{is_digit}
use Rattle.step_lexer.proofs.FrontLemmas.{run_taken}
use Rattle.step_lexer.proofs.digits.digits_number.Goals as goal

pub number_of-requires : goal.number_of-requires
number_of-requires c = run_taken is_digit c.args.bytes.now c.split_at.result.0.now c.digits_len-len.result
    c.digits_len-len.ensures.len c.split_at.ensures.front
