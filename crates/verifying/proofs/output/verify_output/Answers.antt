use Rattle.std.proofs.Common.{subst, sym, Err, ◌∙◌}
use Rattle.schema_names.specs.Schemas.{the_schema}
use Rattle.reports.specs.Faults.{of_file}
use Rattle.verifying.specs.Verifying.{Verifies}
use Rattle.verifying.proofs.Answering.{unread_output}
use Rattle.verifying.proofs.output.verify_output.Goals as goal

pub returns-in-Ok : goal.returns-in-Ok
returns-in-Ok c schema input certificate choice f has settles reads judged =
    c.verify_image.ensures schema input c.args.output.now certificate c.in-Ok.image.header_bytes.now choice f has settles
    reads judged c.in-Ok.ensures.found

pub returns-in-Err : goal.returns-in-Err
returns-in-Err c schema input certificate choice f has settles reads judged =
    let output = c.args.output.now in
    subst (λ e. Verifies schema input output certificate choice (Err e))
    (sym (c.of_file.ensures ∙ (λ i. of_file (c.of_text.ensures i))))
    (unread_output schema input output certificate choice (the_schema c.args.types.now.names) settles.0
    f reads c.in-Err.fault c.in-Err.ensures.fault)
