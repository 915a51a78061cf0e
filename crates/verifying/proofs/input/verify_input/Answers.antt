use Rattle.std.proofs.Common.{subst, sym, Err, ◌∙◌}
use Rattle.std.proofs.lemmas.Result.{err_from_is_err_and}
use Rattle.schema_names.specs.Schemas.{the_schema}
use Rattle.reports.specs.Faults.{of_file}
use Rattle.verifying.specs.Verifying.{Verifies}
use Rattle.verifying.proofs.Answering.{unread_input}
use Rattle.verifying.proofs.input.verify_input.Goals as goal

pub returns-in-Err : goal.returns-in-Err
returns-in-Err c schema choice settles are =
    let output = c.args.claim.output.now in
    let certificate = c.args.claim.certificate.items in
    let input = c.args.input.now in
    subst (λ e. Verifies schema input output certificate choice (Err e))
    (sym (c.of_file.ensures ∙ (λ i. of_file (c.of_text.ensures i))))
    (unread_input schema input output certificate choice (the_schema c.args.graph.now.types.names) settles.0
    c.in-Err.fault c.in-Err.ensures.fault)

pub returns-in_err-tables : goal.returns-in_err-tables
returns-in_err-tables c schema choice settles are =
    let p = err_from_is_err_and c.from_residual.result c.from_residual.ensures.1 in
    rw (p.1, p.2) tt

pub returns : goal.returns
returns c schema choice settles are =
    c.verify_read.ensures schema c.args.input.now c.in-Ok.exchange.header_bytes.now choice settles are c.in-Ok.ensures.found
