use Rattle.std.proofs.Common.{◌≡◌, ◌∙◌, None, subst, sym, Err}
use Rattle.schema_semantics.specs.Faults.{IsResolved}
use Rattle.schema_types.specs.Resolution.{IsNameFault}
use Rattle.conformance.specs.OtherNames.{other_names}
use Rattle.express_syntax.specs.SchemaViews.{schema_of}
use Rattle.conformance.specs.Choices.{merge_options, unknown_choice}
use Rattle.merge_choices.specs.ChosenEntities.{choice_of, AreChosen, AreOfEntities, IsChoiceFault}
use Rattle.verifying.specs.Verifying.{Verifies}
use Rattle.verifying.specs.steps.ComputedPassing.{AnswersSettled}
use Rattle.verifying.proofs.Answering.{unread_schema, unresolved, unsettled}
use Rattle.verifying.proofs.verify.verify.Goals as goal

pub returns-in-Err : goal.returns-in-Err
returns-in-Err c =
    let schema = c.args.schema.now in
    let input = c.args.input.now in
    let output = c.args.output.now in
    let certificate = c.args.certificate.items in
    let choice = choice_of c.args.choice.now in
    subst (λ e. Verifies schema input output certificate choice (Err e)) (sym c.of_schema.ensures)
    (unread_schema schema input output certificate choice c.in-Err.fault c.in-Err.ensures.fault)

pub returns-in-Err-resolve : goal.returns-in-Err-resolve
returns-in-Err-resolve c =
    let schema = c.args.schema.now in
    let input = c.args.input.now in
    let output = c.args.output.now in
    let certificate = c.args.certificate.items in
    let choice = choice_of c.args.choice.now in
    subst (λ e. Verifies schema input output certificate choice (Err e)) (sym c.of_schema-in-Err-resolve.ensures)
    (unresolved schema input output certificate choice (schema_of c.in-Ok.tree) c.in-Ok.ensures.found
    c.in-Err-resolve.fault (subst (λ t. IsNameFault (schema_of t) c.in-Err-resolve.fault) c.with_other_names-named.ensures
    c.in-Err-resolve.ensures.resolved))

pub returns-in-Err-settle : goal.returns-in-Err-settle
returns-in-Err-settle c =
    let schema = c.args.schema.now in
    let input = c.args.input.now in
    let output = c.args.output.now in
    let certificate = c.args.certificate.items in
    let choice = choice_of c.args.choice.now in
    subst (λ e. Verifies schema input output certificate choice (Err e)) (sym c.of_schema-in-Err-settle.ensures)
    (unsettled schema input output certificate choice (schema_of c.in-Ok.tree) c.in-Ok.ensures.found
    (subst (λ t. IsResolved (schema_of t)) c.with_other_names-named.ensures c.in-Ok-resolve.ensures.resolved)
    c.in-Err-settle.fault
    (subst (λ t. IsChoiceFault (schema_of t) choice c.in-Err-settle.fault)
    (c.in-Ok-resolve.ensures.same ∙ c.with_other_names-named.ensures)
    c.in-Err-settle.ensures))

pub returns : goal.returns
returns c =
    let schema = c.args.schema.now in
    let choice = choice_of c.args.choice.now in
    let chosen = c.in-Ok-settle.chosen in
    let named = c.with_other_names-named.ensures in
    let same = c.in-Ok-resolve.ensures.same ∙ named in
    let (known, are) = subst (λ t. (unknown_choice (schema_of t) choice ≡ None)
    × (AreChosen (schema_of t) (merge_options (schema_of t) choice) chosen × AreOfEntities (schema_of t) chosen)) same
    c.in-Ok-settle.ensures in
    subst (λ t. AnswersSettled (schema_of t) (other_names t) c.args.output.now c.args.certificate.items c.verify_input.result chosen
    c.args.input.now) same c.verify_input.ensures schema choice (
      record {
        reads = c.in-Ok.ensures.found;
        resolved = subst (λ t. IsResolved (schema_of t)) named c.in-Ok-resolve.ensures.resolved;
        known = known;
      },
      sym c.in-Ok-copy_other_names.ensures,
    ) are.0
