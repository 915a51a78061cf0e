use Rattle.std.proofs.Common.{subst, sym, ◌∙◌, map, string_bytes}
use Rattle.conformance.specs.OtherNames.{other_names}
use Rattle.express_syntax.specs.SchemaViews.{schema_of}
use Rattle.schema_semantics.specs.Faults.{IsResolved}
use Rattle.schema_types.specs.Resolution.{IsNameFault}
use Rattle.files.specs.declared.fault.Role.TheVariants.{File, Schema}
use Rattle.reports.specs.declared.report.Report.{Report}
use Rattle.reports.proofs.Failing.{schema_alone, schema_first}
use Rattle.checking.specs.Checks.{SourceAnswers}
use Rattle.checking.proofs.Answering.{of-file, of-names, of-text}
use Rattle.checking.proofs.check.check_by.Goals as goal

pub returns-in-Ok-resolve-clause-checks : goal.returns-in-Ok-resolve-clause-checks
returns-in-Ok-resolve-clause-checks g c =
    let file = g.S.Source.to_come c.args.file.now in
    let others = map string_bytes c.args.other_names.items in
    of-file others c.args.schema.now (schema_of c.in-Ok.tree)
    (record {
      within = c.requires.within;
      reads = c.in-Ok.ensures.found;
      resolved = subst (λ t. IsResolved (schema_of t)) c.with_other_names-named.ensures c.in-Ok-resolve.ensures.resolved;
    }) file c.report_source.result
    (subst (λ t. SourceAnswers (schema_of t) (other_names t) file c.report_source.result)
    (c.in-Ok-resolve.ensures.same ∙ c.with_other_names-named.ensures) c.report_source.ensures.answers)

pub returns-clause-checks : goal.returns-clause-checks
returns-clause-checks g c =
    of-names (map string_bytes c.args.other_names.items) _ _ (schema_of c.in-Ok.tree) c.in-Err-resolve.fault _
    c.of_schema-in-Err-resolve.ensures c.requires.within
    c.in-Ok.ensures.found (subst (λ t. IsNameFault (schema_of t) c.in-Err-resolve.fault) c.with_other_names-named.ensures
    c.in-Err-resolve.ensures.resolved)

pub returns-in-Err-clause-file_told : goal.returns-in-Err-clause-file_told
returns-in-Err-clause-file_told g c =
    schema_first Report (g.S.Source.fails c.args.file.now) c.in-Err.fault c.of_schema.result c.of_schema.ensures

pub returns-clause-file_told : goal.returns-clause-file_told
returns-clause-file_told g c =
    schema_first Report (g.S.Source.fails c.args.file.now) c.in-Err-resolve.fault c.of_schema-in-Err-resolve.result
    c.of_schema-in-Err-resolve.ensures

pub returns-in-Err-clause-checks : goal.returns-in-Err-clause-checks
returns-in-Err-clause-checks g c =
    of-text (map string_bytes c.args.other_names.items) _ _ c.in-Err.fault _ c.of_schema.ensures c.requires.within
    c.in-Err.ensures.fault

pub returns-in-Err-clause-no_schema_fault : goal.returns-in-Err-clause-no_schema_fault
returns-in-Err-clause-no_schema_fault g c =
    schema_alone Report Schema c.in-Err.fault c.of_schema.result c.of_schema.ensures

pub returns-in-Err-clause-file_fault : goal.returns-in-Err-clause-file_fault
returns-in-Err-clause-file_fault g c = λ fine.
    fine ∙ sym (schema_alone Report File c.in-Err.fault c.of_schema.result c.of_schema.ensures)

pub returns-clause-no_schema_fault : goal.returns-clause-no_schema_fault
returns-clause-no_schema_fault g c =
    schema_alone Report Schema c.in-Err-resolve.fault c.of_schema-in-Err-resolve.result
    c.of_schema-in-Err-resolve.ensures

pub returns-clause-file_fault : goal.returns-clause-file_fault
returns-clause-file_fault g c = λ fine.
    fine ∙ sym (schema_alone Report File c.in-Err-resolve.fault c.of_schema-in-Err-resolve.result
    c.of_schema-in-Err-resolve.ensures)
