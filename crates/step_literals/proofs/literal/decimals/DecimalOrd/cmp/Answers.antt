use Rattle.std.proofs.Common.{◌∙◌, sym}
use Rattle.std.specs.Ordering.{int_cmp}
use Rattle.step_literals.proofs.UnitLemmas.{units_by_cut}
use Rattle.step_literals.proofs.literal.decimals.DecimalOrd.cmp.Goals as goal

pub returns : goal.returns
returns c =
    let x = units_by_cut c.digits.result c.args.self.now.text.now c.digits.ensures.digits c.digits.ensures.shift
    c.digits.ensures.sign in
    let y = units_by_cut c.digits-2.result c.args.other.now.text.now c.digits-2.ensures.digits
    c.digits-2.ensures.shift c.digits-2.ensures.sign in
    c.compare.ensures ∙ (λ i. int_cmp (sym x i) (sym y i))
