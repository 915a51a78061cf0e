use Rattle.std.proofs.Common.{arith}
use Rattle.step_lexer.proofs.FrontLemmas.{no_token}
use Rattle.step_lexer.proofs.fronts.other_at.Goals as goal

pub returns-in_default : goal.returns-in_default
returns-in_default c =
    no_token c.args.bytes.now c.requires.some c.requires.no_letter c.requires.no_number c.requires.no_mark
    (λ h. omega (arith, h)) (λ h. omega (arith, h)) (λ h. omega (arith, h)) (λ h. omega (arith, h))
    (λ h. omega (arith, h)) (λ h. omega (arith, h))
