use Rattle.std.proofs.Common.{◌≡◌, sym, ◌∙◌, arith}
use Rattle.step_values.proofs.Weights.{weight_of, lighter}
use Rattle.row_signatures.proofs.Alike.{alike_ends, alike_goes_on, alike_sizes, alike_stops}
use Rattle.row_signatures.proofs.flat_values.+alike.Goals as goal

pub lists_alike-returns-then-len : goal.lists_alike-returns-then-len
lists_alike-returns-then-len t c =
    sym (alike_sizes c.args.vs.now c.args.ws.now (λ e. c.if-len.true (c.len.ensures ∙ e ∙ sym c.len-2.ensures)))

pub lists_alike-values_alike-requires : goal.lists_alike-values_alike-requires
lists_alike-values_alike-requires t c =
    let less = lighter c.args.vs.now c.loop-i.i c.at.result c.at.ensures in
    let all : weight_of c.args.vs.now ≡ t = c.decreases in
    omega (arith, less, all)

pub lists_alike-returns-then-not-values_alike : goal.lists_alike-returns-then-not-values_alike
lists_alike-returns-then-not-values_alike t c =
    sym (alike_stops c.args.vs.now c.args.ws.now c.loop-i.i c.at.result c.at-in-loop-i.result c.at.ensures
    c.at-in-loop-i.ensures (sym c.values_alike.ensures ∙ c.if-not-values_alike.true)) ∙ c.loop-i.invariant.rest

pub lists_alike-loop-i-preserved : goal.lists_alike-loop-i-preserved
lists_alike-loop-i-preserved t c = record {
  sizes = c.loop-i.invariant.sizes;
  rest = sym (alike_goes_on c.args.vs.now c.args.ws.now c.loop-i.i c.at.result c.at-in-loop-i.result c.at.ensures
      c.at-in-loop-i.ensures (sym c.values_alike.ensures ∙ c.if-not-values_alike.false)) ∙ c.loop-i.invariant.rest;
}

pub lists_alike-returns : goal.lists_alike-returns
lists_alike-returns t c =
    let past = c.loop-i-test.false in
    let end = c.len-i-end.ensures in
    sym (alike_ends c.args.vs.now c.args.ws.now c.loop-i.i c.loop-i.invariant.sizes (omega (arith, past, end)))
    ∙ c.loop-i.invariant.rest
