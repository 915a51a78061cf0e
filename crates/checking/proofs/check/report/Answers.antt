use Rattle.step_exchange.specs.Exchanges.{structure}
use Rattle.conformance.specs.OtherNames.{other_names}
use Rattle.schema_names.specs.Schemas.{the_schema}
use Rattle.checking.proofs.Answering.{as-many, unread-text}
use Rattle.checking.proofs.check.report.Goals as goal

pub returns : goal.returns
returns c =
    let x = c.in-Ok.exchange in (
      structure x,
      record { within = c.requires.within; header_bytes = x.header_bytes.now; reads = c.in-Ok.ensures.found },
      record {
        unchecked = c.into_unchecked.ensures;
        findings = c.in-Ok-file_findings.ensures;
        instances = as-many x c.len-instances.result c.len-instances.ensures;
      },
    )

pub returns-in-Err : goal.returns-in-Err
returns-in-Err c =
    unread-text (other_names c.args.graph.types.names.schema.now) (the_schema c.args.graph.types.names) c.args.bytes.now c.in-Err.fault c.of_text.result
    c.of_file.result c.of_text.ensures c.of_file.ensures c.requires.within c.in-Err.ensures.fault
