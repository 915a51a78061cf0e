use Rattle.shrinking.proofs.Merging.{as_many}
use Rattle.shrinking.proofs.merge.report.Goals as goal

pub returns-clause-report : goal.returns-clause-report
returns-clause-report c = λ others found. record {
  unchecked = c.into_unchecked.ensures;
  findings = found;
  instances = as_many c.args.exchange.now c.len-instances.result c.len-instances.ensures;
}
