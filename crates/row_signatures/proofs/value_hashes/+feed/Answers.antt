use Rattle.std.proofs.Common.{rules, ◌≡◌, ◌+◌, sym, ◌∙◌, ap, arith}
use Rattle.std.specs.Prelude.{◌&&◌}
use Rattle.step_values.proofs.Walks.{after}
use Rattle.step_values.proofs.Weights.{weight_of, lighter}
use Rattle.row_signatures.specs.steps.ComputedFlat.{bagless, bagless_each}
use Rattle.row_signatures.proofs.Alike.{bagless_all, bagless_from, fed_all, fed_more}
use Rattle.row_signatures.proofs.value_hashes.+feed.Goals as goal

pub feed_each-feed-is_flat-requires : goal.feed_each-feed-is_flat-requires
feed_each-feed-is_flat-requires g t c κs within =
    let less = lighter c.args.values.now c.loop-i.i c.at.result c.at.ensures in
    let all : weight_of c.args.values.now ≡ t = c.decreases in
    (omega (arith, less, all), within)

pub feed_each-loop-i-preserved : goal.feed_each-loop-i-preserved
feed_each-loop-i-preserved g t c =
    let vs = c.args.values.now in
    let i = c.loop-i.i in
    let old = c.loop-i.is_bagless in
    let both : c.if-is_bagless.is_bagless ≡ (old && bagless c.at.result) = search rules in
    record {
      bagless = ap (λ b. b && bagless_each (after (i + 1) vs)) both ∙ bagless_from vs i c.at.result old c.at.ensures
          ∙ c.loop-i.invariant.bagless;
      fed = fed_more g.H.Hasher.write vs c.args.state.now i c.at.result c.loop-i.state c.feed-is_flat.new.state
          c.at.ensures c.feed-is_flat.ensures.fed c.loop-i.invariant.fed;
    }

pub feed_each-returns-clause-bagless : goal.feed_each-returns-clause-bagless
feed_each-returns-clause-bagless g t c =
    let past = c.loop-i-test.false in
    let end = c.len-i-end.ensures in
    sym (bagless_all c.args.values.now c.loop-i.i c.loop-i.is_bagless (omega (arith, past, end)))
    ∙ c.loop-i.invariant.bagless

pub feed_each-returns-clause-fed : goal.feed_each-returns-clause-fed
feed_each-returns-clause-fed g t c =
    let past = c.loop-i-test.false in
    let end = c.len-i-end.ensures in
    fed_all g.H.Hasher.write c.args.values.now c.args.state.now c.loop-i.i c.loop-i.state (omega (arith, past, end))
    c.loop-i.invariant.fed
