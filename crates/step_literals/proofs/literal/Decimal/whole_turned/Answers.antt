use Rattle.std.proofs.Common.{◌∙◌, sym, ap}
use Rattle.step_literals.specs.Decimals.{turned}
use Rattle.step_literals.proofs.UnitLemmas.{units_by_cut, whole_same}
use Rattle.step_literals.proofs.literal.Decimal.whole_turned.Goals as goal

pub returns : goal.returns
returns c =
    let d = c.digits.ensures in
    let units = units_by_cut c.digits.result c.args.self.now.text.now d.digits d.shift d.sign in
    whole_same _ _ _ (ap (turned c.args.is_turned) units ∙ sym c.turned.ensures) c.whole.ensures
