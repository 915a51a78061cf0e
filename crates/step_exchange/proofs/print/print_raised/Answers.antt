use Rattle.std.proofs.Common.{[], ◌∷◌, refl, ap, get_or}
use Rattle.std.specs.Char.{to_ascii_uppercase}
use Rattle.step_literals.specs.Words.{upper}
use Rattle.devices.proofs.Printing.{prints_as}
use Rattle.step_exchange.proofs.Writing.{prints_next, upper_push}
use Rattle.step_exchange.proofs.print.print_raised.Goals as goal

pub loop-byte-preserved : goal.loop-byte-preserved
loop-byte-preserved g c =
    let raised = prints_as (ap (λ x. x ∷ []) c.to_ascii_uppercase.ensures.value) c.print_byte.ensures in
    prints_next upper (λ x. to_ascii_uppercase x ∷ []) upper_push c.args.word.now c.loop-byte.byte-index
    (get_or c.args.word.now c.loop-byte.byte-index 0) 0 c.loop-byte-test.true refl c.loop-byte.invariant raised
