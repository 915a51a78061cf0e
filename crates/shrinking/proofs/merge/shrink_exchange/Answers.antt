use Rattle.value_equality.specs.TableViews.{table_of}
use Rattle.schema_names.specs.Schemas.{the_schema}
use Rattle.merge_output.specs.steps.Rewriting.{smaller_text}
use Rattle.certificate_text.specs.Texts.{certificate_text}
use Rattle.shrinking.specs.Shrinking.{written_to}
use Rattle.shrinking.proofs.Answering.{all_written, cut}
use Rattle.shrinking.proofs.Merging.{done}
use Rattle.shrinking.proofs.Outcome.{faulty, is_tabled}
use Rattle.shrinking.proofs.merge.shrink_exchange.Goals as goal

pub returns-in-Faulty-clause-shrinks : goal.returns-in-Faulty-clause-shrinks
returns-in-Faulty-clause-shrinks g c = λ names are bytes within reads.
    faulty (the_schema c.args.graph.types.names) names bytes c.args.exchange.now
    (g.O.Sink.held c.args.out.now) (g.C.Sink.held c.args.certificate.now) c.in-Ok.merging c.in-Faulty.found
    c.report.result c.in-Faulty.is (c.in-Ok.ensures.merges names are) within reads
    (c.report.ensures.report names.other_names)
    c.report.ensures.findings c.report.ensures.rules

pub returns-in-Ok-write_both-clause-shrinks : goal.returns-in-Ok-write_both-clause-shrinks
returns-in-Ok-write_both-clause-shrinks g c = λ names are bytes within reads.
    let s = the_schema c.args.graph.types.names in
    let x = c.args.exchange.now in
    let first = table_of c.in-Clean.first in
    let second = table_of c.last_of-last.result.now in
    let said = c.summary-summary in
    let tabled = is_tabled s names bytes x c.in-Ok.merging c.in-Clean.unknown c.in-Clean.first c.in-Clean.second
    c.last_of-last.result.now c.in-Clean.is c.last_of-last.ensures (c.in-Ok.ensures.merges names are) reads in
    all_written s names bytes (written_to g.O.Sink.held c.args.out.now c.write_both.new.out)
    (written_to g.C.Sink.held c.args.certificate.now c.write_both.new.certificate) (smaller_text x second)
    (certificate_text first second) said.result
    (done s names bytes x c.in-Clean.unknown first second c.conforms_where_nothing_is_found.ensures
    c.merges_are_least.ensures tabled within said.result (said.ensures.report names.other_names tabled.found) said.ensures.clean
    said.ensures.kept said.ensures.rounds) c.in-Ok-write_both.ensures.writes.0 c.in-Ok-write_both.ensures.writes.1

pub returns-clause-shrinks : goal.returns-clause-shrinks
returns-clause-shrinks g c = λ names are bytes within reads.
    let s = the_schema c.args.graph.types.names in
    let x = c.args.exchange.now in
    let first = table_of c.in-Clean.first in
    let second = table_of c.last_of-last.result.now in
    let said = c.summary-summary in
    let tabled = is_tabled s names bytes x c.in-Ok.merging c.in-Clean.unknown c.in-Clean.first c.in-Clean.second
    c.last_of-last.result.now c.in-Clean.is c.last_of-last.ensures (c.in-Ok.ensures.merges names are) reads in
    cut s names bytes (written_to g.O.Sink.held c.args.out.now c.write_both.new.out)
    (written_to g.C.Sink.held c.args.certificate.now c.write_both.new.certificate) (smaller_text x second)
    (certificate_text first second) said.result c.in-Err-write_both.fault c.of_file.result c.of_file.ensures
    (done s names bytes x c.in-Clean.unknown first second c.conforms_where_nothing_is_found.ensures
    c.merges_are_least.ensures tabled within said.result (said.ensures.report names.other_names tabled.found) said.ensures.clean
    said.ensures.kept said.ensures.rounds) c.in-Err-write_both.ensures.writes
