use Rattle.std.specs.Prelude.{OnOk}
use Rattle.std.proofs.Common.{◌≡◌, ◌∙◌, refl, subst, sym, arith}
use Rattle.value_equality.specs.Rows.{IsName}
use Rattle.step_values.specs.Shapes.{outside}
use Rattle.step_values.proofs.Weights.{weight_of, lighter}
use Rattle.row_signatures.specs.steps.ComputedReferences.{AddsEdges}
use Rattle.row_signatures.proofs.Referring.{added_all, added_count, added_more, named_within, none_outside, outside_crowd, outside_sole}
use Rattle.row_signatures.proofs.references.+edges.Goals as goal

pub push_edges-returns-then-not-leads_on : goal.push_edges-returns-then-not-leads_on
push_edges-returns-then-not-leads_on t c =
    subst (λ ys. AddsEdges c.args.input.now c.args.source c.args.first ys c.args.edges.now.items c.args.edges.now.items)
    (sym (none_outside c.args.value.now (sym c.leads_on.ensures ∙ c.if-not-leads_on.true))) refl

pub push_bag-returns-then-is_crowd : goal.push_bag-returns-then-is_crowd
push_bag-returns-then-is_crowd t c =
    subst (λ ys. AddsEdges c.args.input.now c.args.source c.args.first ys c.args.edges.now.items c.args.edges.now.items)
    (sym (outside_crowd c.args.values.now (sym c.is_crowd.ensures ∙ c.if-is_crowd.true))) refl

pub push_bag-returns : goal.push_bag-returns
push_bag-returns t c =
    subst (λ ys. OnOk c.push_each.result (AddsEdges c.args.input.now c.args.source c.args.first ys
    c.args.edges.now.items c.push_each.new.edges.items))
    (sym (outside_sole c.args.values.now (sym c.is_crowd.ensures ∙ c.if-is_crowd.false))) c.push_each.ensures

pub push_each-push_edges-requires : goal.push_each-push_edges-requires
push_each-push_edges-requires t c =
    let vs = c.args.values.now in
    let less = lighter vs c.loop-i.i c.at.result c.at.ensures in
    let all : weight_of vs ≡ t = c.decreases in (
      omega (arith, less, all),
      (
        named_within (IsName c.args.input.now) vs c.loop-i.i c.at.result c.at.ensures c.requires.named,
        c.loop-i.invariant.first,
      ),
    )

pub push_each-loop-i-preserved : goal.push_each-loop-i-preserved
push_each-loop-i-preserved t c =
    let rows = c.args.input.now in
    let old = c.loop-i.edges.items in
    let new = c.push_edges.new.edges.items in
    let adds = c.in_ok-push_edges.ensures in
    let more = added_count rows c.args.source c.args.first (outside c.at.result) old new adds in
    let within = c.loop-i.invariant.first in
    record {
      first = omega (arith, more, within);
      left = added_more rows c.args.source c.args.first c.args.values.now c.args.edges.now.items c.loop-i.i c.at.result
          old new c.at.ensures adds c.loop-i.invariant.left;
    }

pub push_each-returns : goal.push_each-returns
push_each-returns t c =
    let past = c.loop-i-test.false in
    let end = c.len-i-end.ensures in
    added_all c.args.input.now c.args.source c.args.first c.args.values.now c.args.edges.now.items c.loop-i.i
    c.loop-i.edges.items (omega (arith, past, end)) c.loop-i.invariant.left
