use Rattle.std.proofs.Common.{ℕ, Global, Err, ap, refl, subst, sym, ◌∙◌}
use Rattle.std.specs.Prelude.{Vec}
use Rattle.conformance.specs.OtherNames.{other_names}
use Rattle.schema_names.specs.Schemas.{the_schema}
use Rattle.files.specs.declared.fault.Role.TheVariants.{File, Schema}
use Rattle.reports.specs.declared.report.Report.{Report}
use Rattle.reports.proofs.Failing.{file_read, unread_device, unread_file, unread_other}
use Rattle.checking.specs.Checks.{FileAnswers}
use Rattle.checking.proofs.Answering.{gives, no-device, of-source, unread-file}
use Rattle.checking.proofs.check.report_source.Goals as goal

pub returns-in-Ok-clause-answers : goal.returns-in-Ok-clause-answers
returns-in-Ok-clause-answers g c =
    let s = the_schema c.args.graph.types.names in
    let others = other_names c.args.graph.types.names.schema.now in
    of-source others s _ c.in-Ok.bytes.items (gives _ _ c.in-Ok.bytes.items c.in-Ok.ensures.all) c.report.result
    (subst (λ bytes. FileAnswers s others bytes c.report.result) c.deref.ensures.value c.report.ensures)

pub returns-in-Ok-clause-no_schema_fault : goal.returns-in-Ok-clause-no_schema_fault
returns-in-Ok-clause-no_schema_fault g c =
    no-device (other_names c.args.graph.types.names.schema.now) (the_schema c.args.graph.types.names) _ Schema c.report.result c.report.ensures

pub returns-in-Ok-clause-file_fault : goal.returns-in-Ok-clause-file_fault
returns-in-Ok-clause-file_fault g c = λ fine.
    c.in-Ok.ensures.failed fine
    ∙ sym (no-device (other_names c.args.graph.types.names.schema.now) (the_schema c.args.graph.types.names) _ File c.report.result c.report.ensures)

pub returns-in-Ok-clause-file_told : goal.returns-in-Ok-clause-file_told
returns-in-Ok-clause-file_told g c =
    file_read (g.S.Source.fails c.args.file.now) c.report.result
    (no-device (other_names c.args.graph.types.names.schema.now) (the_schema c.args.graph.types.names) _ File c.report.result c.report.ensures)
    c.in-Ok.ensures.told

pub returns-clause-answers : goal.returns-clause-answers
returns-clause-answers g c =
    unread-file (other_names c.args.graph.types.names.schema.now) (the_schema c.args.graph.types.names) (g.S.Source.to_come c.args.file.now) c.in-Err.fault
    c.unread.result c.unread.ensures (λ e. c.in-Err.ensures.too_large (ap Err e))

pub returns-clause-no_schema_fault : goal.returns-clause-no_schema_fault
returns-clause-no_schema_fault g c =
    unread_other Report File c.in-Err.fault c.unread.result c.unread.ensures Schema refl

pub returns-clause-file_fault : goal.returns-clause-file_fault
returns-clause-file_fault g c = λ fine.
    c.in-Err.ensures.failed fine
    ∙ unread_device Report File c.in-Err.fault c.unread.result c.unread.ensures (Vec ℕ Global)

pub returns-clause-file_told : goal.returns-clause-file_told
returns-clause-file_told g c =
    unread_file Report c.in-Err.fault c.unread.result c.unread.ensures (Vec ℕ Global) (g.S.Source.fails c.args.file.now)
    c.in-Err.ensures.told
