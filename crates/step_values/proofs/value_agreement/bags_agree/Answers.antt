use Rattle.std.proofs.Common.{sym, ◌∙◌}
use Rattle.step_values.specs.LabelledValues.{each_labelled, placed}
use Rattle.step_values.specs.Values.{bag, is_crowd}
use Rattle.step_values.proofs.Labelled.{same_labelled}
use Rattle.step_values.proofs.NormalForms.{sorted_same}
use Rattle.step_values.proofs.Walks.{bags_of_two_sizes}
use Rattle.step_values.proofs.value_agreement.bags_agree.Goals as goal

pub returns-then-len : goal.returns-then-len
returns-then-len g c =
    sym (bags_of_two_sizes (g.F.Labels.labelling c.args.f.now) (g.G.Labels.labelling c.args.g.now) c.args.vs.now
    c.args.ws.now (λ e. c.if-len.true (c.len.ensures ∙ e ∙ sym c.len-2.ensures)))

pub returns : goal.returns
returns g c =
    let f = g.F.Labels.labelling c.args.f.now in
    let h = g.G.Labels.labelling c.args.g.now in
    c.eq.ensures ∙ sorted_same (each_labelled (placed (is_crowd c.args.vs.now) f) c.args.vs.now)
    (each_labelled (placed (is_crowd c.args.ws.now) h) c.args.ws.now) _ _ c.in_ok-ours.ensures c.in_ok-theirs.ensures
    ∙ same_labelled f h (bag c.args.vs.now) (bag c.args.ws.now)
