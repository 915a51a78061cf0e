use Rattle.std.proofs.Common.{sym, ◌∙◌}
use Rattle.step_literals.specs.Bits.{bits_of}
use Rattle.express_logic.specs.Comparison.{same_bits}
use Rattle.express_logic.specs.Literals.{binary_bits}
use Rattle.express_logic.specs.Views.{bits_of_any}
use Rattle.express_logic.proofs.Places.{either_first}
use Rattle.express_logic.proofs.binaries.same_binary.Goals as goal

pub returns-in-Schema-Exchange : goal.returns-in-Schema-Exchange
returns-in-Schema-Exchange c =
    let x = c.in-Schema-Exchange in
    c.has_bits_of-in-Schema-Exchange.ensures ∙ either_first (bits_of x.bits.text.now) (binary_bits x.binary.text.now)
    ∙ (λ i. same_bits (bits_of_any (sym x.is-0 i)) (bits_of_any (sym x.is-1 i)))
