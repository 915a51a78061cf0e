use Rattle.std.proofs.Common.{refl, sym, subst, []}
use Rattle.std.proofs.lemmas.Result.{err_from_is_err_and}
use Rattle.conformance.specs.Choices.{merge_options}
use Rattle.step_exchange.specs.Exchanges.{structure}
use Rattle.schema_names.specs.Schemas.{the_schema}
use Rattle.conformance.specs.OtherNames.{other_names}
use Rattle.conformance.specs.SchemaMeanings.{FileConforms}
use Rattle.file_findings.specs.Findings.{AreFindings}
use Rattle.file_findings.specs.steps.Checking.{ChecksFile}
use Rattle.verifying.specs.Verifying.{IsConformingInput}
use Rattle.verifying.proofs.input.judge_input.Goals as goal

pub returns-in_err-checked-clause-finds : goal.returns-in_err-checked-clause-finds
returns-in_err-checked-clause-finds c schema input header_bytes choice settles are reads =
    let p = err_from_is_err_and c.from_residual.result c.from_residual.ensures.1 in
    rw (p.1, p.2) (λ output. tt)

pub returns-in-Faulty-clause-finds : goal.returns-in-Faulty-clause-finds
returns-in-Faulty-clause-finds c schema input header_bytes choice settles are reads = λ output.
    let s = the_schema c.args.graph.now.types.names in
    let f = structure c.args.exchange.now in
    let others = other_names c.args.graph.now.types.names.schema.now in
    let x = c.in-Faulty.found in
    let (found, some) = subst (ChecksFile s others f c.args.chosen.now) c.in-Faulty.is c.in_ok-checked.ensures in
    let all = subst (λ l. AreFindings s l f x.findings.items x.rules.findings.items x.rules.unknown) (sym settles.1) found in
    (s, settles.0, (header_bytes, f, reads, x.rules.unknown, all, some))

pub returns-in-Clean-clause-finds : goal.returns-in-Clean-clause-finds
returns-in-Clean-clause-finds c schema input header_bytes choice settles are reads =
    let s = the_schema c.args.graph.now.types.names in
    let f = structure c.args.exchange.now in
    let names = merge_options s choice in
    let others = other_names c.args.graph.now.types.names.schema.now in
    let clean = subst (ChecksFile s others f c.args.chosen.now) c.in-Clean.is c.in_ok-checked.ensures in
    let input_is : IsConformingInput s choice.other_names input f = record {
      header_bytes = header_bytes;
      reads = reads;
      some = clean.nothing.0;
      conforms = λ said. subst (λ l. FileConforms s said l f) (sym settles.1)
          ((c.conforms_where_nothing_is_found.ensures s said others f [] [] c.in-Clean.unknown clean.nothing).0 (refl, refl));
    } in (
      input_is,
      c.judge_certificate.ensures.judged s names f (record {
        are_rows = record { are = clean.are_rows; population = clean.population };
        are_weak = λ said. clean.are_weak said names are;
        are_unique = clean.are_unique;
      }),
    )
