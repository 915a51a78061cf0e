use Rattle.std.proofs.Common.{◌≡◌, sym, ◌∙◌, arith}
use Rattle.step_values.proofs.Walks.{lists_of_two_sizes, each_stops, each_goes_on, each_ends}
use Rattle.step_values.proofs.Weights.{weight_of, lighter}
use Rattle.step_values.proofs.value_agreement.+agree.Goals as goal

pub lists_agree-returns-then-len : goal.lists_agree-returns-then-len
lists_agree-returns-then-len g t c =
    sym (lists_of_two_sizes (g.F.Labels.labelling c.args.f.now) (g.G.Labels.labelling c.args.g.now) c.args.vs.now
    c.args.ws.now (λ e. c.if-len.true (c.len.ensures ∙ e ∙ sym c.len-2.ensures)))

pub lists_agree-values_agree-requires : goal.lists_agree-values_agree-requires
lists_agree-values_agree-requires g t c κs within =
    let less = lighter c.args.vs.now c.loop-i.i c.at.result c.at.ensures in
    let all : weight_of c.args.vs.now ≡ t = c.decreases in
    (omega (arith, less, all), within)

pub lists_agree-returns-then-not-branch : goal.lists_agree-returns-then-not-branch
lists_agree-returns-then-not-branch g t c =
    sym (each_stops (g.F.Labels.labelling c.args.f.now) (g.G.Labels.labelling c.args.g.now) c.args.vs.now c.args.ws.now
    c.loop-i.i c.at.result c.at-in-loop-i.result c.at.ensures c.at-in-loop-i.ensures (sym c.in_ok-values_agree.ensures
    ∙ c.if-not-branch.true)) ∙ c.loop-i.invariant.rest

pub lists_agree-loop-i-preserved : goal.lists_agree-loop-i-preserved
lists_agree-loop-i-preserved g t c = record {
  alike = c.loop-i.invariant.alike;
  rest = sym (each_goes_on (g.F.Labels.labelling c.args.f.now) (g.G.Labels.labelling c.args.g.now) c.args.vs.now
      c.args.ws.now c.loop-i.i c.at.result c.at-in-loop-i.result c.at.ensures c.at-in-loop-i.ensures
      (sym c.in_ok-values_agree.ensures ∙ c.if-not-branch.false)) ∙ c.loop-i.invariant.rest;
}

pub lists_agree-returns : goal.lists_agree-returns
lists_agree-returns g t c =
    let past = c.loop-i-test.false in
    let end = c.len-i-end.ensures in
    sym (each_ends (g.F.Labels.labelling c.args.f.now) (g.G.Labels.labelling c.args.g.now) c.args.vs.now c.args.ws.now
    c.loop-i.i c.loop-i.invariant.alike (omega (arith, past, end))) ∙ c.loop-i.invariant.rest
