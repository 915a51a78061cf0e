use Rattle.schema_names.specs.Schemas.{the_schema}
use Rattle.shrinking.proofs.Answering.{unread_text}
use Rattle.shrinking.proofs.shrink.shrink_file.Goals as goal

pub returns-clause-shrinks : goal.returns-clause-shrinks
returns-clause-shrinks g c = λ names are.
    unread_text (the_schema c.args.graph.types.names) names c.args.bytes.now (g.O.Sink.held c.args.out.now)
    (g.C.Sink.held c.args.certificate.now) c.in-Err.fault c.of_text.result c.of_file.result c.of_text.ensures
    c.of_file.ensures c.requires.within c.in-Err.ensures.fault
