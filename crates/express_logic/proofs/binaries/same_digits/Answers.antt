use Rattle.std.proofs.Common.{◌≡◌, drop, refl, ap, ◌∙◌}
use Rattle.std.specs.Bool.{beq}
use Rattle.std.proofs.lemmas.Iterator.Consumers.{YieldsList-from_first}
use Rattle.express_lexer.specs.steps.Left.{bits_left}
use Rattle.express_logic.specs.Literals.{binary_bits}
use Rattle.express_logic.proofs.Spelt.{binary_is}
use Rattle.express_logic.proofs.Yielding.{eq_from_yields_list}
use Rattle.express_logic.proofs.binaries.same_digits.Goals as goal

pub returns : goal.returns
returns c =
    let t = c.args.a.now.text.now in
    let u = c.args.b.now.text.now in
    let mine = c.bits.ensures (drop 1 t) (binary_is t c.args.a.now.spelled) in
    let theirs = c.bits-2.ensures (drop 1 u) (binary_is u c.args.b.now.spelled) in
    eq_from_yields_list (λ x y. y ≡ x) c.bits-2.result beq c.eq.result c.eq.ensures.ran
    (YieldsList-from_first (λ x. x) bits_left (binary_bits t) mine)
    (λ it e. YieldsList-from_first (λ x. x) bits_left (binary_bits u) (ap bits_left e ∙ theirs))
    (λ x y. refl)
