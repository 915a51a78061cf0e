use Rattle.std.proofs.Common.{ℕ, Global, Err, ap, refl, subst, sym, ◌∙◌}
use Rattle.std.specs.Prelude.{Vec}
use Rattle.schema_names.specs.Schemas.{the_schema}
use Rattle.files.specs.declared.fault.Role.TheVariants.{Certificate, File, Output, Schema}
use Rattle.reports.proofs.Failing.{file_read, unread_device, unread_file, unread_other}
use Rattle.shrinking.specs.steps.ComputedAnswers.{FileShrinks}
use Rattle.shrinking.specs.Shrinking.{written_to}
use Rattle.shrinking.specs.declared.summary.Summary.{Summary}
use Rattle.shrinking.proofs.Answering.{given, not_given}
use Rattle.shrinking.proofs.shrink.shrink_source.Goals as goal

pub returns-in-Ok-clause-shrinks : goal.returns-in-Ok-clause-shrinks
returns-in-Ok-clause-shrinks g c = λ names are.
    let s = the_schema c.args.graph.types.names in
    given s names (g.F.Source.to_come c.args.file.now) _ c.in-Ok.bytes.items
    (written_to g.O.Sink.held c.args.out.now c.shrink_file.new.out)
    (written_to g.C.Sink.held c.args.certificate.now c.shrink_file.new.certificate) c.shrink_file.result
    c.in-Ok.ensures.all
    (subst (λ bytes. FileShrinks s names bytes (written_to g.O.Sink.held c.args.out.now c.shrink_file.new.out)
    (written_to g.C.Sink.held c.args.certificate.now c.shrink_file.new.certificate) c.shrink_file.result)
    c.deref.ensures.value (c.shrink_file.ensures.shrinks names are))

pub returns-clause-shrinks : goal.returns-clause-shrinks
returns-clause-shrinks g c = λ names are.
    not_given (the_schema c.args.graph.types.names) names (g.F.Source.to_come c.args.file.now)
    (g.O.Sink.held c.args.out.now) (g.C.Sink.held c.args.certificate.now) c.in-Err.fault c.unread.result
    c.unread.ensures (λ e. c.in-Err.ensures.too_large (ap Err e))

pub returns-in-Ok-clause-file_told : goal.returns-in-Ok-clause-file_told
returns-in-Ok-clause-file_told g c =
    file_read (g.F.Source.fails c.args.file.now) c.shrink_file.result c.shrink_file.ensures.no_file_fault
    c.in-Ok.ensures.told

pub returns-clause-no_schema_fault : goal.returns-clause-no_schema_fault
returns-clause-no_schema_fault g c =
    unread_other Summary File c.in-Err.fault c.unread.result c.unread.ensures Schema refl

pub returns-clause-file_fault : goal.returns-clause-file_fault
returns-clause-file_fault g c = λ fine.
    c.in-Err.ensures.failed fine
    ∙ unread_device Summary File c.in-Err.fault c.unread.result c.unread.ensures (Vec ℕ Global)

pub returns-clause-output_fault : goal.returns-clause-output_fault
returns-clause-output_fault g c = λ fine.
    fine ∙ sym (unread_other Summary File c.in-Err.fault c.unread.result c.unread.ensures Output refl)

pub returns-clause-certificate_fault : goal.returns-clause-certificate_fault
returns-clause-certificate_fault g c = λ fine.
    fine ∙ sym (unread_other Summary File c.in-Err.fault c.unread.result c.unread.ensures Certificate refl)

pub returns-clause-file_told : goal.returns-clause-file_told
returns-clause-file_told g c =
    unread_file Summary c.in-Err.fault c.unread.result c.unread.ensures (Vec ℕ Global) (g.F.Source.fails c.args.file.now)
    c.in-Err.ensures.told
