use Rattle.conformance.specs.SchemaMeanings.{instances}
use Rattle.step_exchange.specs.Exchanges.{structure}
use Rattle.schema_names.specs.Schemas.{the_schema}
use Rattle.file_findings.proofs.Behind.{no-rules-behind}
use Rattle.file_findings.proofs.findings.found_without_rules.Goals as goal

pub returns : goal.returns
returns c =
    let graph = c.args.graph.now in
    let s = the_schema graph.types.names in
    let sound = c.requires.ready.sound in (
      c.schema_is_said.ensures,
      λ said. (
        c.in_ok-findings.ensures said,
        no-rules-behind s said graph.rules (sound.rules.rules said.domain said.is_domain) graph.domain sound.domain.rules
            c.requires.without (instances s said (structure c.args.exchange.now)) _ _ _ c.empty_report.ensures.findings
            c.empty_report.ensures.unknown,
      ),
    )
