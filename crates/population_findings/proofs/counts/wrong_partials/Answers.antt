use Rattle.std.proofs.Common.{◌≡◌, cond, ap, ◌∙◌, slice_get, arith}
use Rattle.step_exchange.specs.Views.{record_of, record_in}
use Rattle.population_findings.specs.steps.Counting.{has_as_many}
use Rattle.population_findings.proofs.Miscounts.{miscounts-more}
use Rattle.population_findings.proofs.counts.wrong_partials.Goals as goal

pub loop-i-preserved : goal.loop-i-preserved
loop-i-preserved c =
    let ns = c.args.counts.now in
    let own : c.wrong_count-wrong.result ≡ cond (has_as_many (record_in c.at.result) (slice_get ns c.loop-i.i)) 0 1 =
    c.wrong_count-wrong.ensures.counted
    ∙ ap (λ l. cond (has_as_many (record_of l) (slice_get ns c.loop-i.i)) 0 1) c.parts.ensures in
    let next = miscounts-more ns c.args.partials.now c.loop-i.i c.at.result c.at.ensures in
    let before = c.loop-i.invariant in
    let few = c.wrong_count-wrong.ensures.few in
    (omega (arith, before.0, next, own), omega (arith, before.1, few))
