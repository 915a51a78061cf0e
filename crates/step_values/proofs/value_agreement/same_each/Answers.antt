use Rattle.step_values.specs.LabelledValues.{same_each_by}
use Rattle.step_values.proofs.Labelled.{same_each_decides, answer_decided}
use Rattle.step_values.proofs.value_agreement.same_each.Goals as goal

pub returns : goal.returns
returns g c =
    let f = g.F.Labels.labelling c.args.f.now in
    let h = g.G.Labels.labelling c.args.g.now in
    answer_decided (same_each_by f h c.args.vs.now c.args.ws.now)
    (same_each_decides f h c.args.vs.now c.args.ws.now) c.lists_agree.result
    c.lists_agree.ensures
