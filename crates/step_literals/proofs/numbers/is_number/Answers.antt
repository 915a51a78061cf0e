use Rattle.std.proofs.Common.{◌≡◌, length, arith, eq-eqb}
use Rattle.std.proofs.lemmas.Bool.Decides.{nat_tests}
use Rattle.step_literals.proofs.WholeNumbers.{none_number, whole_number, number_whole}
use Rattle.step_literals.proofs.numbers.is_number.Goals as goal

pub returns-in-Some : goal.returns-in-Some
returns-in-Some c =
    let t = c.args.bytes.now in let e = c.in-Some.ensures in (
      (λ h. let same : c.in-Some.len ≡ length t = grind (arith, nat_tests) in whole_number t c.in-Some.len
          c.in-Some.field-0-1 e.0 e.1 same),
      (λ n. eq-eqb c.in-Some.len (length t) (number_whole t c.in-Some.len c.in-Some.field-0-1 e.0 e.1 n)),
    )

pub returns-in-None : goal.returns-in-None
returns-in-None c = ((λ h. let q = h in absurd (cc)), (λ n. absurd (none_number c.args.bytes.now c.in-None.ensures n)))
