use Rattle.std.proofs.Common.{◌≡◌, arith}
use Rattle.step_values.specs.LabelledValues.{placed}
use Rattle.step_values.proofs.Walks.{collected_more, collected_all}
use Rattle.step_values.proofs.Weights.{weight_of, lighter}
use Rattle.step_values.proofs.normal.+normal.Goals as goal

pub forms-form-requires : goal.forms-form-requires
forms-form-requires g t c κs within =
    let less = lighter c.args.values.now c.loop-i.i c.at.result c.at.ensures in
    let all : weight_of c.args.values.now ≡ t = c.decreases in
    (omega (arith, less, all), within)

pub forms-loop-i-preserved : goal.forms-loop-i-preserved
forms-loop-i-preserved g t c =
    rw c.in_ok-push.ensures.items (collected_more (placed c.args.in_bag (g.F.Labels.labelling c.args.f.now))
    c.args.values.now c.loop-i.i c.at.result c.in_ok-form.field-0 c.loop-i.forms.items c.at.ensures
    c.in_ok-form.ensures c.loop-i.invariant)

pub forms-returns : goal.forms-returns
forms-returns g t c =
    let past = c.loop-i-test.false in
    let end = c.len-i-end.ensures in
    collected_all (placed c.args.in_bag (g.F.Labels.labelling c.args.f.now)) c.args.values.now c.loop-i.i
    c.loop-i.forms.items (omega (arith, past, end)) c.loop-i.invariant
