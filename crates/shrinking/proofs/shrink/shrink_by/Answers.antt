use Rattle.std.proofs.Common.{◌≡◌, Some, sym, subst, ◌∙◌}
use Rattle.schema_semantics.specs.Faults.{IsResolved}
use Rattle.schema_types.specs.Resolution.{IsNameFault}
use Rattle.conformance.specs.OtherNames.{other_names}
use Rattle.checking.specs.Checks.{IsResolvedSchemaText}
use Rattle.express_syntax.specs.SchemaViews.{schema_of}
use Rattle.merge_choices.specs.ChosenEntities.{choice_of}
use Rattle.files.specs.declared.fault.Role.TheVariants.{Certificate, File, Output, Schema}
use Rattle.reports.proofs.Failing.{schema_alone, schema_first}
use Rattle.shrinking.specs.declared.summary.Summary.{Summary}
use Rattle.shrinking.proofs.Answering.{no_file_told, schema_unread, unresolved, unshrunk}
use Rattle.shrinking.proofs.shrink.shrink_by.Goals as goal

pub returns-in-Err-clause-shrinks : goal.returns-in-Err-clause-shrinks
returns-in-Err-clause-shrinks g c =
    schema_unread (choice_of c.args.choice.now) c.args.choice.now.strict c.args.schema.now
    (g.F.Source.to_come c.args.file.now) (g.O.Sink.held c.args.out.now) (g.C.Sink.held c.args.certificate.now)
    c.in-Err.fault c.of_schema.result c.of_schema.ensures c.requires.within c.in-Err.ensures.fault

pub returns-clause-shrinks : goal.returns-clause-shrinks
returns-clause-shrinks g c =
    unresolved (choice_of c.args.choice.now) c.args.choice.now.strict c.args.schema.now (schema_of c.in-Ok.tree)
    (g.F.Source.to_come c.args.file.now) (g.O.Sink.held c.args.out.now) (g.C.Sink.held c.args.certificate.now)
    c.in-Err-resolve.fault c.of_schema-in-Err-resolve.result c.of_schema-in-Err-resolve.ensures c.requires.within
    c.in-Ok.ensures.found (subst (λ t. IsNameFault (schema_of t) c.in-Err-resolve.fault) c.with_other_names-named.ensures
    c.in-Err-resolve.ensures.resolved)

pub returns-in-Ok-resolve-clause-shrinks : goal.returns-in-Ok-resolve-clause-shrinks
returns-in-Ok-resolve-clause-shrinks g c =
    let choice = choice_of c.args.choice.now in
    let text = c.args.schema.now in
    let named = c.with_other_names-named.ensures in
    let is : IsResolvedSchemaText (schema_of c.in-Ok.tree) text = record {
      within = c.requires.within;
      reads = c.in-Ok.ensures.found;
      resolved = subst (λ t. IsResolved (schema_of t)) named c.in-Ok-resolve.ensures.resolved;
    } in
    c.shrink_graph.ensures.shrinks text
    (subst (λ t. IsResolvedSchemaText (schema_of t) text × (choice.other_names ≡ other_names t))
    (sym (c.in-Ok-resolve.ensures.same ∙ named)) (is, sym c.in-Ok-copy_other_names.ensures))

pub returns-clause-file_told : goal.returns-clause-file_told
returns-clause-file_told g c =
    schema_first Summary (g.F.Source.fails c.args.file.now) c.in-Err-resolve.fault c.of_schema-in-Err-resolve.result
    c.of_schema-in-Err-resolve.ensures

pub returns-in-Err-clause-file_told : goal.returns-in-Err-clause-file_told
returns-in-Err-clause-file_told g c =
    schema_first Summary (g.F.Source.fails c.args.file.now) c.in-Err.fault c.of_schema.result c.of_schema.ensures

pub returns-in-Err-clause-no_schema_fault : goal.returns-in-Err-clause-no_schema_fault
returns-in-Err-clause-no_schema_fault g c = schema_alone Summary Schema c.in-Err.fault c.of_schema.result
    c.of_schema.ensures

pub returns-in-Err-clause-file_fault : goal.returns-in-Err-clause-file_fault
returns-in-Err-clause-file_fault g c = λ fine.
    fine ∙ sym (schema_alone Summary File c.in-Err.fault c.of_schema.result
    c.of_schema.ensures)

pub returns-in-Err-clause-output_fault : goal.returns-in-Err-clause-output_fault
returns-in-Err-clause-output_fault g c = λ fine.
    fine ∙ sym (schema_alone Summary Output c.in-Err.fault c.of_schema.result
    c.of_schema.ensures)

pub returns-in-Err-clause-certificate_fault : goal.returns-in-Err-clause-certificate_fault
returns-in-Err-clause-certificate_fault g c = λ fine.
    fine ∙ sym (schema_alone Summary Certificate c.in-Err.fault c.of_schema.result
    c.of_schema.ensures)

pub returns-clause-no_schema_fault : goal.returns-clause-no_schema_fault
returns-clause-no_schema_fault g c = schema_alone Summary Schema c.in-Err-resolve.fault c.of_schema-in-Err-resolve.result
    c.of_schema-in-Err-resolve.ensures

pub returns-clause-file_fault : goal.returns-clause-file_fault
returns-clause-file_fault g c = λ fine.
    fine ∙ sym (schema_alone Summary File c.in-Err-resolve.fault c.of_schema-in-Err-resolve.result
    c.of_schema-in-Err-resolve.ensures)

pub returns-clause-output_fault : goal.returns-clause-output_fault
returns-clause-output_fault g c = λ fine.
    fine ∙ sym (schema_alone Summary Output c.in-Err-resolve.fault c.of_schema-in-Err-resolve.result
    c.of_schema-in-Err-resolve.ensures)

pub returns-clause-certificate_fault : goal.returns-clause-certificate_fault
returns-clause-certificate_fault g c = λ fine.
    fine ∙ sym (schema_alone Summary Certificate c.in-Err-resolve.fault c.of_schema-in-Err-resolve.result
    c.of_schema-in-Err-resolve.ensures)

pub returns-in-Err-copy_other_names-clause-shrinks : goal.returns-in-Err-copy_other_names-clause-shrinks
returns-in-Err-copy_other_names-clause-shrinks g c =
    unshrunk (choice_of c.args.choice.now) c.args.choice.now.strict (Some c.args.schema.now)
    (g.F.Source.to_come c.args.file.now) (g.O.Sink.held c.args.out.now) (g.C.Sink.held c.args.certificate.now)

pub returns-in-Err-copy_other_names-clause-file_told : goal.returns-in-Err-copy_other_names-clause-file_told
returns-in-Err-copy_other_names-clause-file_told g c = no_file_told (g.F.Source.fails c.args.file.now)
