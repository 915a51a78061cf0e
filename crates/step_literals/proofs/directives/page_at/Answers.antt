use Rattle.std.proofs.Common.{◌≤◌, true, false, arith}
use Rattle.step_literals.proofs.CleanLemmas.{skips_on}
use Rattle.step_literals.proofs.PieceLemmas.{page_is, page_letter}
use Rattle.step_literals.proofs.directives.page_at.Goals as goal

pub returns-in_err-after : goal.returns-in_err-after
returns-in_err-after c =
    let p = c.in_ok-letter.letter in
    let low : 65 ≤ p = grind arith in
    let high : p ≤ 73 = grind arith in
    rw c.from_residual-in_err-after.ensures (page_is c.in_ok-letter.rest.now false c.in_ok-rest.ensures.0
    c.in_ok-rest.ensures.1 c.in_ok-letter.ensures.first low high c.in_err-after.ensures)

pub returns : goal.returns
returns c =
    let p = c.in_ok-letter.letter in
    let low : 65 ≤ p = grind arith in
    let high : p ≤ 73 = grind arith in (
      page_is c.in_ok-letter.rest.now true c.in_ok-rest.ensures.0 c.in_ok-rest.ensures.1 c.in_ok-letter.ensures.first
          low high c.in_ok-after.ensures.0,
      page_letter c.in_ok-letter.rest.now c.in_ok-rest.ensures.0 c.in_ok-rest.ensures.1 c.in_ok-letter.ensures.first,
      skips_on (skips_on c.in_ok-rest.ensures.1 c.in_ok-letter.ensures.rest) c.in_ok-after.ensures.1,
    )
