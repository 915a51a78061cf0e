use Rattle.step_values.specs.LabelledValues.{same_by}
use Rattle.step_values.proofs.Labelled.{same_decides, answer_decided}
use Rattle.step_values.proofs.value_agreement.same_value.Goals as goal

pub returns : goal.returns
returns g c =
    let f = g.F.Labels.labelling c.args.f.now in
    let h = g.G.Labels.labelling c.args.g.now in
    answer_decided (same_by f h c.args.v.now c.args.w.now)
    (same_decides f h c.args.v.now c.args.w.now) c.values_agree.result c.values_agree.ensures
