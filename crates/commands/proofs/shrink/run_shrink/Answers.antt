use Rattle.std.proofs.Common.{ℕ, Global, Ok, Err, Some, ◌∙◌, ap, refl, subst, sym}
use Rattle.std.specs.Prelude.{Vec}
use Rattle.files.specs.Stores.{reader_seen}
use Rattle.files.specs.declared.fault.Role.TheVariants as roles
use Rattle.merge_choices.specs.ChosenEntities.{choice_of}
use Rattle.reports.proofs.Failing.{unread_device, unread_other}
use Rattle.shrinking.specs.Shrinking.{Shrinks, written_to}
use Rattle.shrinking.specs.declared.summary.Summary.{Summary}
use Rattle.commands.proofs.Blaming.{of_six}
use Rattle.commands.proofs.FaultEndings.{device_ends, one_failed}
use Rattle.commands.proofs.MergeRuns.{read_shrink, unread_shrink}
use Rattle.commands.proofs.shrink.run_shrink.Goals as goal

pub returns-in-Err-clause-runs : goal.returns-in-Err-clause-runs
returns-in-Err-clause-runs g c =
    unread_shrink (Vec ℕ Global) (reader_seen g.S.Source.to_come g.S.Source.fails c.args.schema.now) c.in-Err.fault
    c.unread.result c.unread.ensures (choice_of c.args.choice.now) c.args.choice.now.strict
    (reader_seen g.F.Source.to_come g.F.Source.fails c.args.file.now) _ _ _
    (λ e. c.in-Err.ensures.too_large (ap Err e)) c.in-Err.ensures.told c.tell_fault.ensures

pub returns-in-Ok-shrink-clause-runs : goal.returns-in-Ok-shrink-clause-runs
returns-in-Ok-shrink-clause-runs g c =
    read_shrink (reader_seen g.S.Source.to_come g.S.Source.fails c.args.schema.now)
    (reader_seen g.F.Source.to_come g.F.Source.fails c.args.file.now) _ c.in-Ok.text.items (choice_of c.args.choice.now)
    c.args.choice.now.strict _ _ _ (Ok c.in-Ok-shrink.summary) c.in-Ok.ensures.all
    c.in-Ok.ensures.told
    (subst (λ text. Shrinks (choice_of c.args.choice.now) c.args.choice.now.strict (Some text)
    (g.F.Source.to_come c.args.file.now) (written_to g.W.Sink.held c.args.output.now c.shrink.new.out)
    (written_to g.C.Sink.held c.args.certificate.now c.shrink.new.certificate) (Ok c.in-Ok-shrink.summary))
    c.deref.ensures.value c.in-Ok-shrink.ensures.shrinks) c.in-Ok-shrink.ensures.no_schema_fault
    c.in-Ok-shrink.ensures.file_told c.in-Ok-shrink.ensures.output_fault c.in-Ok-shrink.ensures.certificate_fault
    (c.tell_merge.ensures, refl)

pub returns-clause-runs : goal.returns-clause-runs
returns-clause-runs g c =
    read_shrink (reader_seen g.S.Source.to_come g.S.Source.fails c.args.schema.now)
    (reader_seen g.F.Source.to_come g.F.Source.fails c.args.file.now) _ c.in-Ok.text.items (choice_of c.args.choice.now)
    c.args.choice.now.strict _ _ _ (Err c.in-Err-shrink.fault)
    c.in-Ok.ensures.all c.in-Ok.ensures.told
    (subst (λ text. Shrinks (choice_of c.args.choice.now) c.args.choice.now.strict (Some text)
    (g.F.Source.to_come c.args.file.now) (written_to g.W.Sink.held c.args.output.now c.shrink.new.out)
    (written_to g.C.Sink.held c.args.certificate.now c.shrink.new.certificate) (Err c.in-Err-shrink.fault))
    c.deref.ensures.value c.in-Err-shrink.ensures.shrinks) c.in-Err-shrink.ensures.no_schema_fault
    c.in-Err-shrink.ensures.file_told c.in-Err-shrink.ensures.output_fault c.in-Err-shrink.ensures.certificate_fault
    c.tell_fault-in-Err-shrink.ensures

pub returns-in-Err-clause-device : goal.returns-in-Err-clause-device
returns-in-Err-clause-device g c = λ is fresh.
    let other = unread_other Summary roles.Schema c.in-Err.fault c.unread.result c.unread.ensures in
    of_six _ _ _ _ _ _ (one_failed Summary c.unread.result _ _ _ _ _
    (c.in-Err.ensures.failed fresh.0
    ∙ unread_device Summary roles.Schema c.in-Err.fault c.unread.result c.unread.ensures (Vec ℕ Global)) (fresh.1.0 ∙ sym (other roles.File refl))
    (fresh.1.1.0 ∙ sym (other roles.Output refl)) (fresh.1.1.1.0 ∙ sym (other roles.Certificate refl)) c.tell_fault.ensures is fresh.1.1.1.1.0 fresh.1.1.1.1.1.0)

pub returns-clause-device : goal.returns-clause-device
returns-clause-device g c = λ is fresh.
    of_six _ _ _ _ _ _ (one_failed Summary c.in-Err-shrink.fault _ _ _ _ _
    (c.in-Ok.ensures.failed fresh.0 ∙ sym c.in-Err-shrink.ensures.no_schema_fault)
    (c.in-Err-shrink.ensures.file_fault fresh.1.0) (c.in-Err-shrink.ensures.output_fault fresh.1.1.0)
    (c.in-Err-shrink.ensures.certificate_fault fresh.1.1.1.0) c.tell_fault-in-Err-shrink.ensures is fresh.1.1.1.1.0 fresh.1.1.1.1.1.0)

pub returns-in-Err-clause-schema_failed : goal.returns-in-Err-clause-schema_failed
returns-in-Err-clause-schema_failed g c fresh fails =
    device_ends Summary roles.Schema c.unread.result _ c.tell_fault.ensures
    (sym (c.in-Err.ensures.failed fresh
    ∙ unread_device Summary roles.Schema c.in-Err.fault c.unread.result c.unread.ensures (Vec ℕ Global)) ∙ fails)

pub returns-clause-file_failed : goal.returns-clause-file_failed
returns-clause-file_failed g c fresh fails =
    device_ends Summary roles.File c.in-Err-shrink.fault _
    c.tell_fault-in-Err-shrink.ensures (sym (c.in-Err-shrink.ensures.file_fault fresh) ∙ fails)

pub returns-clause-output_failed : goal.returns-clause-output_failed
returns-clause-output_failed g c fresh fails =
    device_ends Summary roles.Output c.in-Err-shrink.fault _
    c.tell_fault-in-Err-shrink.ensures (sym (c.in-Err-shrink.ensures.output_fault fresh) ∙ fails)

pub returns-clause-certificate_failed : goal.returns-clause-certificate_failed
returns-clause-certificate_failed g c fresh fails =
    device_ends Summary roles.Certificate c.in-Err-shrink.fault _
    c.tell_fault-in-Err-shrink.ensures (sym (c.in-Err-shrink.ensures.certificate_fault fresh) ∙ fails)
