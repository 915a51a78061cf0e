use Rattle.std.proofs.Common.{ℕ, Global, Ok, Err, Some, ◌∙◌, ap, refl, subst, sym}
use Rattle.std.specs.Prelude.{Vec, map, string_bytes}
use Rattle.files.specs.Stores.{reader_seen}
use Rattle.files.specs.declared.fault.Role.TheVariants as roles
use Rattle.reports.specs.declared.report.Report.{Report}
use Rattle.reports.proofs.Failing.{unread_device, unread_other}
use Rattle.checking.specs.Checks.{Checks}
use Rattle.checking.proofs.Answering.{unread-schema}
use Rattle.commands.specs.Endings.{exit_of, output_seen}
use Rattle.commands.proofs.Blaming.{of_four}
use Rattle.commands.proofs.CheckRuns.{one_failed, read_check, report_ends, unread_check}
use Rattle.commands.proofs.FaultEndings.{device_ends}
use Rattle.commands.proofs.check.run_check.Goals as goal

pub returns-in-Err-clause-runs : goal.returns-in-Err-clause-runs
returns-in-Err-clause-runs g c =
    unread_check (Vec ℕ Global) _ (reader_seen g.S.Source.to_come g.S.Source.fails c.args.schema.now)
    (reader_seen g.F.Source.to_come g.F.Source.fails c.args.file.now) _ c.in-Err.fault
    c.unread.result c.unread.ensures (λ e. c.in-Err.ensures.too_large (ap Err e)) c.in-Err.ensures.told
    c.tell_fault.ensures

pub returns-in-Ok-check-clause-runs : goal.returns-in-Ok-check-clause-runs
returns-in-Ok-check-clause-runs g c =
    read_check _ (reader_seen g.S.Source.to_come g.S.Source.fails c.args.schema.now)
    (reader_seen g.F.Source.to_come g.F.Source.fails c.args.file.now) _ c.in-Ok.text.items _
    (Ok c.in-Ok-check.found) c.in-Ok.ensures.all c.in-Ok.ensures.told
    (subst (λ text. Checks (map string_bytes c.args.other_names.items) (Some text) (g.F.Source.to_come c.args.file.now) (Ok c.in-Ok-check.found))
    c.deref.ensures.value c.in-Ok-check.ensures.checks) c.in-Ok-check.ensures.no_schema_fault
    c.in-Ok-check.ensures.file_told
    (report_ends c.in-Ok-check.found c.status_of_report.result _ c.status_of_report.ensures
    (c.tell_report.ensures, refl))

pub returns-clause-runs : goal.returns-clause-runs
returns-clause-runs g c =
    read_check _ (reader_seen g.S.Source.to_come g.S.Source.fails c.args.schema.now)
    (reader_seen g.F.Source.to_come g.F.Source.fails c.args.file.now) _ c.in-Ok.text.items _ (Err c.in-Err-check.fault) c.in-Ok.ensures.all c.in-Ok.ensures.told
    (subst (λ text. Checks (map string_bytes c.args.other_names.items) (Some text) (g.F.Source.to_come c.args.file.now) (Err c.in-Err-check.fault))
    c.deref.ensures.value c.in-Err-check.ensures.checks) c.in-Err-check.ensures.no_schema_fault
    c.in-Err-check.ensures.file_told c.tell_fault-in-Err-check.ensures

pub returns-in-Err-clause-device : goal.returns-in-Err-clause-device
returns-in-Err-clause-device g c = λ is fresh.
    of_four _ _ _ _ (one_failed (map string_bytes c.args.other_names.items) _ (g.F.Source.to_come c.args.file.now) (Err c.unread.result) _ _ _
    (unread-schema (map string_bytes c.args.other_names.items) (g.S.Source.to_come c.args.schema.now) (g.F.Source.to_come c.args.file.now) c.in-Err.fault
    c.unread.result c.unread.ensures (λ e. c.in-Err.ensures.too_large (ap Err e)))
    (c.in-Err.ensures.failed fresh.0
    ∙ unread_device Report roles.Schema c.in-Err.fault c.unread.result c.unread.ensures (Vec ℕ Global))
    (fresh.1.0 ∙ sym (unread_other Report roles.Schema c.in-Err.fault c.unread.result c.unread.ensures roles.File refl)) c.tell_fault.ensures is
    fresh.1.1.0 fresh.1.1.1.0)

pub returns-in-Ok-check-clause-device : goal.returns-in-Ok-check-clause-device
returns-in-Ok-check-clause-device g c = λ is fresh.
    of_four _ _ _ _ (one_failed (map string_bytes c.args.other_names.items) (Some c.in-Ok.text.items)
    (g.F.Source.to_come c.args.file.now) (Ok c.in-Ok-check.found)
    (exit_of (output_seen g.O.Sink.held g.O.Sink.has_failed c.args.out.now c.tell_report.new.out)
    (output_seen g.E.Sink.held g.E.Sink.has_failed c.args.err.now c.args.err.now) c.tell_report.result) _ _
    (subst (λ text. Checks (map string_bytes c.args.other_names.items) (Some text) (g.F.Source.to_come c.args.file.now) (Ok c.in-Ok-check.found))
    c.deref.ensures.value c.in-Ok-check.ensures.checks)
    (c.in-Ok.ensures.failed fresh.0) (c.in-Ok-check.ensures.file_fault fresh.1.0)
    (report_ends c.in-Ok-check.found c.status_of_report.result _ c.status_of_report.ensures
    (c.tell_report.ensures, refl)) is fresh.1.1.0 fresh.1.1.1.0)

pub returns-clause-device : goal.returns-clause-device
returns-clause-device g c = λ is fresh.
    of_four _ _ _ _ (one_failed (map string_bytes c.args.other_names.items) (Some c.in-Ok.text.items) (g.F.Source.to_come c.args.file.now) (Err c.in-Err-check.fault) _ _ _
    (subst (λ text. Checks (map string_bytes c.args.other_names.items) (Some text) (g.F.Source.to_come c.args.file.now) (Err c.in-Err-check.fault))
    c.deref.ensures.value c.in-Err-check.ensures.checks)
    (c.in-Ok.ensures.failed fresh.0 ∙ sym c.in-Err-check.ensures.no_schema_fault)
    (c.in-Err-check.ensures.file_fault fresh.1.0) c.tell_fault-in-Err-check.ensures is fresh.1.1.0 fresh.1.1.1.0)

pub returns-in-Err-clause-schema_failed : goal.returns-in-Err-clause-schema_failed
returns-in-Err-clause-schema_failed g c fresh fails =
    device_ends Report roles.Schema c.unread.result _ c.tell_fault.ensures
    (sym (c.in-Err.ensures.failed fresh
    ∙ unread_device Report roles.Schema c.in-Err.fault c.unread.result c.unread.ensures (Vec ℕ Global)) ∙ fails)

pub returns-clause-file_failed : goal.returns-clause-file_failed
returns-clause-file_failed g c fresh fails =
    device_ends Report roles.File c.in-Err-check.fault _
    c.tell_fault-in-Err-check.ensures (sym (c.in-Err-check.ensures.file_fault fresh) ∙ fails)
