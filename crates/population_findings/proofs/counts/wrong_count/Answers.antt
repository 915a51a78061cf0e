use Rattle.std.proofs.Common.{◌<◌, length, arith}
use Rattle.population_findings.proofs.Miscounts.{count-right, count-wrong}
use Rattle.population_findings.proofs.counts.wrong_count.Goals as goal

pub returns-then-len-counts-clause-counted : goal.returns-then-len-counts-clause-counted
returns-then-len-counts-clause-counted c =
    let values = c.split-values.result.1 in
    let within : c.args.index < length c.args.counts.now = omega arith in
    count-right c.args.record.now values c.args.counts.now c.args.index c.split-values.ensures.back within (omega arith)

pub returns-else-len-counts-clause-counted : goal.returns-else-len-counts-clause-counted
returns-else-len-counts-clause-counted c =
    let values = c.split-values.result.1 in
    let within : c.args.index < length c.args.counts.now = omega arith in
    count-wrong c.args.record.now values c.args.counts.now c.args.index c.split-values.ensures.back within
    (λ e. omega (arith, e))
