use Rattle.std.proofs.Common.{Ok, Err, ◌∙◌, refl, inl, subst, sym}
use Rattle.files.specs.Stores.{reader_seen}
use Rattle.files.specs.declared.fault.Role.TheVariants as roles
use Rattle.merge_choices.specs.ChosenEntities.{choice_of}
use Rattle.verifying.specs.Sources.{VerifiesAll, given, no_schema}
use Rattle.verifying.specs.declared.proof.Proof.{Proof}
use Rattle.commands.proofs.Blaming.{of_six}
use Rattle.commands.proofs.FaultEndings.{device_ends, one_failed}
use Rattle.commands.proofs.VerifyRuns.{read_verifies, schema_alone}
use Rattle.commands.proofs.verify.run_verify.Goals as goal

pub returns-in-Err-clause-runs : goal.returns-in-Err-clause-runs
returns-in-Err-clause-runs g c = record {
  outcome = Err c.in-Err.fault;
  verifies = inl (c.in-Err.fault, refl, no_schema c.in-Err.ensures.read);
  ends = c.tell_fault.ensures;
}

pub returns-in-Err-clause-device : goal.returns-in-Err-clause-device
returns-in-Err-clause-device g c = λ is fresh.
    let alone = schema_alone _ c.in-Err.fault c.in-Err.ensures.read in
    of_six _ _ _ _ _ _ (one_failed Proof c.in-Err.fault _ _ _ _ _ (c.in-Err.ensures.failed fresh.0)
    (fresh.1.0 ∙ sym alone.0) (fresh.1.1.0 ∙ sym alone.1) (fresh.1.1.1.0 ∙ sym alone.2) c.tell_fault.ensures is fresh.1.1.1.1.0 fresh.1.1.1.1.1.0)

pub returns-in-Ok-verify_files-clause-runs : goal.returns-in-Ok-verify_files-clause-runs
returns-in-Ok-verify_files-clause-runs g c = record {
  outcome = Ok c.in-Ok-verify_files.proof;
  verifies = read_verifies (reader_seen g.S.Source.to_come g.S.Source.fails c.args.schema.now)
      (reader_seen g.F.Source.to_come g.F.Source.fails c.args.file.now)
      (reader_seen g.W.Source.to_come g.W.Source.fails c.args.output.now)
      (reader_seen g.C.Source.to_come g.C.Source.fails c.args.certificate.now) c.in-Ok.text.items c.in-Ok.ensures.read
      (choice_of c.args.choice.now) (Ok c.in-Ok-verify_files.proof)
      (subst (λ text. VerifiesAll (choice_of c.args.choice.now) (given text)
      (reader_seen g.F.Source.to_come g.F.Source.fails c.args.file.now)
      (reader_seen g.W.Source.to_come g.W.Source.fails c.args.output.now)
      (reader_seen g.C.Source.to_come g.C.Source.fails c.args.certificate.now) (Ok c.in-Ok-verify_files.proof))
      c.deref.ensures.value c.in-Ok-verify_files.ensures.verifies);
  ends = (c.tell_proof.ensures, refl);
}

pub returns-clause-runs : goal.returns-clause-runs
returns-clause-runs g c = record {
  outcome = Err c.in-Err-verify_files.fault;
  verifies = read_verifies (reader_seen g.S.Source.to_come g.S.Source.fails c.args.schema.now)
      (reader_seen g.F.Source.to_come g.F.Source.fails c.args.file.now)
      (reader_seen g.W.Source.to_come g.W.Source.fails c.args.output.now)
      (reader_seen g.C.Source.to_come g.C.Source.fails c.args.certificate.now) c.in-Ok.text.items c.in-Ok.ensures.read
      (choice_of c.args.choice.now) (Err c.in-Err-verify_files.fault)
      (subst (λ text. VerifiesAll (choice_of c.args.choice.now) (given text)
      (reader_seen g.F.Source.to_come g.F.Source.fails c.args.file.now)
      (reader_seen g.W.Source.to_come g.W.Source.fails c.args.output.now)
      (reader_seen g.C.Source.to_come g.C.Source.fails c.args.certificate.now) (Err c.in-Err-verify_files.fault))
      c.deref.ensures.value c.in-Err-verify_files.ensures.verifies);
  ends = c.tell_fault-in-Err-verify_files.ensures;
}

pub returns-clause-device : goal.returns-clause-device
returns-clause-device g c = λ is fresh.
    of_six _ _ _ _ _ _ (one_failed Proof c.in-Err-verify_files.fault _ _ _ _ _
    (c.in-Ok.ensures.failed fresh.0 ∙ sym c.in-Err-verify_files.ensures.no_schema_fault)
    (c.in-Err-verify_files.ensures.file_failed fresh.1.0) (c.in-Err-verify_files.ensures.output_failed fresh.1.1.0)
    (c.in-Err-verify_files.ensures.certificate_failed fresh.1.1.1.0) c.tell_fault-in-Err-verify_files.ensures is fresh.1.1.1.1.0 fresh.1.1.1.1.1.0)

pub returns-in-Err-clause-schema_failed : goal.returns-in-Err-clause-schema_failed
returns-in-Err-clause-schema_failed g c fresh fails =
    device_ends Proof roles.Schema c.in-Err.fault _ c.tell_fault.ensures
    (sym (c.in-Err.ensures.failed fresh) ∙ fails)

pub returns-clause-file_failed : goal.returns-clause-file_failed
returns-clause-file_failed g c fresh fails =
    device_ends Proof roles.File c.in-Err-verify_files.fault _
    c.tell_fault-in-Err-verify_files.ensures (sym (c.in-Err-verify_files.ensures.file_failed fresh) ∙ fails)

pub returns-clause-output_failed : goal.returns-clause-output_failed
returns-clause-output_failed g c fresh fails =
    device_ends Proof roles.Output c.in-Err-verify_files.fault _
    c.tell_fault-in-Err-verify_files.ensures (sym (c.in-Err-verify_files.ensures.output_failed fresh) ∙ fails)

pub returns-clause-certificate_failed : goal.returns-clause-certificate_failed
returns-clause-certificate_failed g c fresh fails =
    device_ends Proof roles.Certificate c.in-Err-verify_files.fault _
    c.tell_fault-in-Err-verify_files.ensures (sym (c.in-Err-verify_files.ensures.certificate_failed fresh) ∙ fails)
