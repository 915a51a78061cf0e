use Rattle.std.proofs.Common.{◌∙◌, sym, ap}
use Rattle.std.specs.Ordering.{int_cmp}
use Rattle.step_literals.specs.Decimals.{turned}
use Rattle.step_literals.proofs.UnitLemmas.{units_by_cut}
use Rattle.step_literals.proofs.literal.Decimal.compare_turned.Goals as goal

pub returns : goal.returns
returns c =
    let s = c.args.self.now.text.now in let t = c.args.other.now.text.now in
    let d = units_by_cut c.digits.result s c.digits.ensures.digits c.digits.ensures.shift c.digits.ensures.sign in
    let o = units_by_cut c.digits-2.result t c.digits-2.ensures.digits c.digits-2.ensures.shift
    c.digits-2.ensures.sign in
    let x = c.turned-digits.ensures ∙ ap (turned c.args.is_turned) (sym d) in
    let y = c.turned.ensures ∙ ap (turned c.args.is_other_turned) (sym o) in
    c.compare.ensures ∙ (λ i. int_cmp (x i) (y i))
