use Rattle.step_exchange.specs.Exchanges.{structure}
use Rattle.schema_names.specs.Schemas.{the_schema}
use Rattle.shrinking.proofs.Merging.{same_findings}
use Rattle.shrinking.proofs.merge.summary.Goals as goal

pub returns-clause-report : goal.returns-clause-report
returns-clause-report c = λ others found.
    c.report-report.ensures.report others (same_findings (the_schema c.args.graph.types.names) others
    (structure c.args.exchange.now) c.nothing_found.result.findings.items c.nothing_found.result.rules.findings.items
    c.nothing_found.result.rules.unknown c.args.unknown c.nothing_found.ensures.findings c.nothing_found.ensures.rules
    c.nothing_found.ensures.unknown found)
