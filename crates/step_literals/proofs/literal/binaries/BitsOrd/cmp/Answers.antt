use Rattle.std.proofs.Common.{◌≡◌, refl, ap, ◌∙◌}
use Rattle.std.specs.Ordering.{bool_cmp}
use Rattle.std.proofs.lemmas.Iterator.Consumers.{YieldsList-from_first}
use Rattle.std.proofs.lemmas.Iterator.Search.{cmp_from_yields_List}
use Rattle.step_literals.specs.steps.BitsLeft.{bits_left}
use Rattle.step_literals.specs.Values.{bits_value}
use Rattle.step_literals.proofs.literal.binaries.BitsOrd.cmp.Goals as goal

pub returns : goal.returns
returns c =
    let mine = YieldsList-from_first (λ x. x) bits_left (bits_value c.args.self.now) c.bits.ensures in
    cmp_from_yields_List (λ x y. y ≡ x) c.bits-2.result bool_cmp c.cmp.result c.cmp.ensures.ran mine
    (λ it e. YieldsList-from_first (λ x. x) bits_left (bits_value c.args.other.now) (ap bits_left e ∙ c.bits-2.ensures))
    (λ x y. refl)
