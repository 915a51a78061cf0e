use Rattle.step_literals.proofs.UnitLemmas.{units_by_cut, whole_same}
use Rattle.step_literals.proofs.literal.Decimal.whole.Goals as goal

pub returns : goal.returns
returns c =
    let d = c.digits.ensures in
    whole_same _ _ _ (units_by_cut c.digits.result c.args.self.now.text.now d.digits d.shift d.sign) c.whole.ensures
