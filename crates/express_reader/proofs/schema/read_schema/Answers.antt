use Rattle.std.proofs.lemmas.Result.{err_from_is_err_and}
use Rattle.express_syntax.specs.SchemaViews.{schema_of}
use Rattle.express_syntax.proofs.UniqueSchemas.{one_schema}
use Rattle.express_syntax.proofs.FirstFault.{stop_is_fault, reads_never_stops}
use Rattle.express_syntax.proofs.SameText.{kept}
use Rattle.express_syntax.specs.Sources.{IsSchemaOf}
use Rattle.express_syntax.specs.Places.{IsSchemaAt}
use Rattle.std.proofs.Common.{ap, subst}
use Rattle.express_lexer.specs.Reading.{Reading}
use Rattle.express_reader.proofs.SchemaSteps.{reads_as, stops_at_start}
use Rattle.express_reader.proofs.schema.read_schema.Goals as goal

pub whole_schema-requires : goal.whole_schema-requires
whole_schema-requires c = (c.args.text.now, c.new-reader.ensures)

pub returns-in_err-schema-clause-all : goal.returns-in_err-schema-clause-all
returns-in_err-schema-clause-all c = λ x h.
    let p = err_from_is_err_and c.from_residual.result c.from_residual.ensures.1 in
    rw (p.1, p.2) (reads_never_stops _ c.args.text.now x h (stops_at_start _ c.args.text.now c.new-reader.result
    c.new-reader.ensures c.in_err-schema.ensures.read))

pub returns-in_err-schema-clause-fault : goal.returns-in_err-schema-clause-fault
returns-in_err-schema-clause-fault c =
    let p = err_from_is_err_and c.from_residual.result c.from_residual.ensures.1 in
    rw (p.1, p.2) (stop_is_fault _ c.args.text.now (stops_at_start _ c.args.text.now c.new-reader.result
    c.new-reader.ensures c.in_err-schema.ensures.read))

pub returns-clause-all : goal.returns-clause-all
returns-clause-all c = λ x h.
    let t = schema_of c.in_ok-schema.schema in
    let e = c.in_ok-schema.ensures.read in
    one_schema c.args.text.now t x (reads_as c.args.text.now c.new-reader.result c.whole_schema.new.reader t
    c.new-reader.ensures e.0 e.1 e.2 e.3) h

pub returns-clause-text : goal.returns-clause-text
returns-clause-text c = kept IsSchemaOf c.in_ok-schema.schema (ap (λ (r : Reading). r.text) c.new-reader.ensures)
    c.in_ok-schema.ensures.text

pub returns-clause-place : goal.returns-clause-place
returns-clause-place c =
    subst (λ (r : Reading). IsSchemaAt r.text r.place c.in_ok-schema.schema) c.new-reader.ensures
    c.in_ok-schema.ensures.place
