use Rattle.std.proofs.Common.{◌∙◌, [], ◌∷◌, map}
use Rattle.std.proofs.lemmas.Result.{err_from_is_err_and}
use Rattle.express_syntax.specs.ExpressionViews.{capitals}
use Rattle.express_syntax.specs.Schemas.{Schema}
use Rattle.express_syntax.specs.Views.{if_some, version_of, declaration_of}
use Rattle.express_syntax.specs.steps.Predict.{Id, Version, Declarations, EndOfText}
use Rattle.express_token_runs.proofs.SkippedSteps.{stops_second, passes_both, words_stand}
use Rattle.express_reader.proofs.SchemaSteps.{passes_opening, schema_done, reads_as}
use Rattle.express_syntax.proofs.SameText.{passes_text, kept}
use Rattle.express_syntax.specs.Sources.{IsDeclarationOf}
use Rattle.express_syntax.specs.Profile.{Every}
use Rattle.express_syntax.specs.Places.{AreDeclarationsAt}
use Rattle.express_reader.proofs.schema.whole_schema.Goals as goal

pub returns-in_err-name-clause-read : goal.returns-in_err-name-clause-read
returns-in_err-name-clause-read c =
    let p = err_from_is_err_and c.from_residual-in_err-name.result c.from_residual-in_err-name.ensures.1 in
    rw (p.1, p.2) (stops_second _ (Id ∷ []) (Version ∷ Declarations ∷ EndOfText ∷ []) c.in_ok-expect_keyword.ensures
    c.in_err-name.ensures)

pub returns-in_err-version-clause-read : goal.returns-in_err-version-clause-read
returns-in_err-version-clause-read c =
    let p = err_from_is_err_and c.from_residual-in_err-version.result c.from_residual-in_err-version.ensures.1 in
    rw (p.1, p.2) (stops_second _ (Version ∷ []) (Declarations ∷ EndOfText ∷ [])
    (passes_both c.in_ok-expect_keyword.ensures c.in_ok-name.ensures) c.in_err-version.ensures)

pub returns-in_err-declarations-clause-read : goal.returns-in_err-declarations-clause-read
returns-in_err-declarations-clause-read c =
    let p = err_from_is_err_and c.from_residual-in_err-declarations.result c.from_residual-in_err-declarations.ensures.1
    in
    rw (p.1, p.2) (stops_second _ (Declarations ∷ []) (EndOfText ∷ []) (passes_both c.in_ok-expect_keyword.ensures
    (passes_both c.in_ok-name.ensures c.in_ok-version.ensures.1)) c.in_err-declarations.ensures.read)

pub returns-in_err-end_of_text-clause-read : goal.returns-in_err-end_of_text-clause-read
returns-in_err-end_of_text-clause-read c =
    let p = err_from_is_err_and c.from_residual-in_err-end_of_text.result c.from_residual-in_err-end_of_text.ensures.1
    in
    let opening = passes_both c.in_ok-expect_keyword.ensures
    (passes_both c.in_ok-name.ensures c.in_ok-version.ensures.1) in
    rw (p.1, p.2) (stops_second _ (EndOfText ∷ []) [] (passes_both opening c.in_ok-declarations.ensures.read.1)
    c.in_err-end_of_text.ensures)

pub invariant_of-result : goal.invariant_of-result
invariant_of-result c =
    let x : Schema = record {
      name = capitals c.in_ok-name.name;
      version = if_some version_of c.in_ok-version.version;
      declarations = map declaration_of c.in_ok-declarations.declarations.items;
    } in
    let opening = passes_opening (capitals c.in_ok-name.name) (if_some version_of c.in_ok-version.version)
    c.in_ok-expect_keyword.ensures c.in_ok-name.ensures c.in_ok-version.ensures.1 in
    let d = schema_done x c.end_of_text.new.reader opening c.in_ok-declarations.ensures.read.1
    c.in_ok-end_of_text.ensures in
    record {
      read = ∣ (
        c.requires.0,
        reads_as c.requires.0 c.args.reader.now c.end_of_text.new.reader x c.requires.1
            (c.in_ok-version.ensures.0, c.in_ok-declarations.ensures.read.0) d.0 d.1 d.2,
      ) ∣₁;
    }

pub returns-clause-read : goal.returns-clause-read
returns-clause-read c =
    let x : Schema = record {
      name = capitals c.in_ok-name.name;
      version = if_some version_of c.in_ok-version.version;
      declarations = map declaration_of c.in_ok-declarations.declarations.items;
    } in
    let opening = passes_opening (capitals c.in_ok-name.name) (if_some version_of c.in_ok-version.version)
    c.in_ok-expect_keyword.ensures c.in_ok-name.ensures c.in_ok-version.ensures.1 in
    let d = schema_done x c.end_of_text.new.reader opening c.in_ok-declarations.ensures.read.1
    c.in_ok-end_of_text.ensures in
    ((c.in_ok-version.ensures.0, c.in_ok-declarations.ensures.read.0), d.0, d.1, d.2)

pub returns-clause-text : goal.returns-clause-text
returns-clause-text c = kept (λ t x. Every (IsDeclarationOf t) x) c.in_ok-declarations.declarations.items
    (passes_text c.in_ok-version.ensures.1 ∙ passes_text c.in_ok-name.ensures
    ∙ passes_text c.in_ok-expect_keyword.ensures) c.in_ok-declarations.ensures.text

pub returns-clause-place : goal.returns-clause-place
returns-clause-place c =
    let opening = passes_opening (capitals c.in_ok-name.name) (if_some version_of c.in_ok-version.version)
    c.in_ok-expect_keyword.ensures c.in_ok-name.ensures c.in_ok-version.ensures.1 in
    let ds = c.in_ok-declarations.declarations.items in
    let from = c.some_version.new.reader.place in
    let to = c.in_ok-declarations.ensures.place.0 in (
      from,
      to,
      words_stand _ _ opening,
      kept (λ t xs. AreDeclarationsAt t from xs to) ds (passes_text opening) c.in_ok-declarations.ensures.place.1,
    )
