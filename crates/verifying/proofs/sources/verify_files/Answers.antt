use Rattle.std.proofs.Common.{inl, inr, refl, sym, ◌∙◌}
use Rattle.files.specs.declared.fault.Role.TheVariants as roles
use Rattle.merge_choices.specs.ChosenEntities.{choice_of}
use Rattle.verifying.proofs.Reading.{no_device}
use Rattle.verifying.proofs.sources.verify_files.Goals as goal

pub returns-in-Ok-clause-verifies : goal.returns-in-Ok-clause-verifies
returns-in-Ok-clause-verifies g c =
    let texts = c.in-Ok.texts in
    inr (
      c.args.schema.now,
      texts.file.items,
      texts.smaller.items,
      texts.certificate.items,
      c.in-Ok.ensures.read,
      c.verify_texts.ensures,
    )

pub returns-in-Err-clause-verifies : goal.returns-in-Err-clause-verifies
returns-in-Err-clause-verifies g c = inl (c.in-Err.fault, refl, c.in-Err.ensures.read)

pub returns-in-Ok-clause-no_schema_fault : goal.returns-in-Ok-clause-no_schema_fault
returns-in-Ok-clause-no_schema_fault g c =
    no_device _ _ _ _ (choice_of c.args.choice.now) roles.Schema c.verify_texts.result c.verify_texts.ensures

pub returns-in-Ok-clause-file_failed : goal.returns-in-Ok-clause-file_failed
returns-in-Ok-clause-file_failed g c = λ fresh.
    c.in-Ok.ensures.file_failed fresh
    ∙ sym (no_device _ _ _ _ (choice_of c.args.choice.now) roles.File c.verify_texts.result c.verify_texts.ensures)

pub returns-in-Ok-clause-output_failed : goal.returns-in-Ok-clause-output_failed
returns-in-Ok-clause-output_failed g c = λ fresh.
    c.in-Ok.ensures.output_failed fresh
    ∙ sym (no_device _ _ _ _ (choice_of c.args.choice.now) roles.Output c.verify_texts.result c.verify_texts.ensures)

pub returns-in-Ok-clause-certificate_failed : goal.returns-in-Ok-clause-certificate_failed
returns-in-Ok-clause-certificate_failed g c = λ fresh.
    c.in-Ok.ensures.certificate_failed fresh
    ∙ sym (no_device _ _ _ _ (choice_of c.args.choice.now) roles.Certificate c.verify_texts.result c.verify_texts.ensures)
