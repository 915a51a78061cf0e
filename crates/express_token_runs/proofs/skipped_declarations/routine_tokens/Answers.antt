use Rattle.std.proofs.Common.{[], ◌∷◌, ◌≡◌, Ok, refl, sym, ap, ◌∙◌, arith}
use Rattle.std.proofs.lemmas.Result.{err_from_is_err_and}
use Rattle.express_syntax.specs.Words.{word_of}
use Rattle.express_token_runs.specs.steps.Items.{located_of}
use Rattle.express_syntax.specs.declared.passage.Passage.{Passage}
use Rattle.express_syntax.specs.Runs.{words_of_routine}
use Rattle.express_syntax.specs.Views.{routine_of}
use Rattle.express_token_runs.specs.steps.Skips.{still_open}
use Rattle.express_syntax.specs.steps.Predict.{Routine, EndOfText}
use Rattle.express_syntax.proofs.Looking.{shown_less}
use Rattle.express_syntax.proofs.Taking.{stops_behind}
use Rattle.express_syntax.proofs.SameText.{passes_text}
use Rattle.express_token_runs.proofs.SkippedSteps.{passage_at, routine_start, routine_few, routine_next, routine_done, routine_is_done}
use Rattle.express_token_runs.proofs.skipped_declarations.routine_tokens.Goals as goal

pub loop-item-init : goal.loop-item-init
loop-item-init c = routine_start c.args.reader.now c.place-from.result c.place-from.ensures

pub returns-in_err-item-clause-read : goal.returns-in_err-item-clause-read
returns-in_err-item-clause-read c =
    let p = err_from_is_err_and c.from_residual.result c.from_residual.ensures.1 in
    let y = Routine c.loop-item.others in
    rw (p.1, p.2) (stops_behind _ (y ∷ []) [] c.loop-item.invariant.passes
    (c.in_err-item.ensures y (λ (e : y ≡ EndOfText). cc)))

pub left_open-requires : goal.left_open-requires
left_open-requires c =
    let few = routine_few c.args.reader.now c.loop-item.reader c.take.new.self c.loop-item.from c.loop-item.to
    c.loop-item.others c.in_ok-item.item.place (word_of c.in_ok-item.item.lexeme) c.loop-item.invariant
    c.in_ok-item.ensures in
    omega (arith, few, c.place-to.ensures, c.place-to.type_inv)

pub between-passage-requires : goal.between-passage-requires
between-passage-requires c =
    let w = word_of c.in_ok-item.item.lexeme in
    let ended = c.left_open.ensures ∙ ap (λ o. Ok (still_open o)) c.in_default.is in
    let d = routine_done c.args.reader.now c.loop-item.reader c.take.new.self c.loop-item.from c.loop-item.to
    c.begun-from.result c.loop-item.others c.in_ok-item.item.place w c.loop-item.invariant (
      c.in_ok-item.ensures,
      record { stand = c.begun-from.ensures.stand; place = c.begun-from.ensures.place },
    ) ended c.place-to.result c.place-to.ensures c.text.result.now c.text.ensures in
    (words_of_routine d.routine, d.stand)

pub of-requires : goal.of-requires
of-requires c =
    let w = word_of c.in_ok-item.item.lexeme in
    let ended = c.left_open.ensures ∙ ap (λ o. Ok (still_open o)) c.in_default.is in
    let d = routine_done c.args.reader.now c.loop-item.reader c.take.new.self c.loop-item.from c.loop-item.to
    c.begun-from.result c.loop-item.others c.in_ok-item.item.place w c.loop-item.invariant (
      c.in_ok-item.ensures,
      record { stand = c.begun-from.ensures.stand; place = c.begun-from.ensures.place },
    ) ended c.place-to.result c.place-to.ensures c.text.result.now c.text.ensures in
    (d.routine, d.fits, sym (c.between-passage.ensures.words (words_of_routine d.routine) d.stand))

pub returns-in_default-clause-read : goal.returns-in_default-clause-read
returns-in_default-clause-read c =
    let w = word_of c.in_ok-item.item.lexeme in
    let ended = c.left_open.ensures ∙ ap (λ o. Ok (still_open o)) c.in_default.is in
    let d = routine_done c.args.reader.now c.loop-item.reader c.take.new.self c.loop-item.from c.loop-item.to
    c.begun-from.result c.loop-item.others c.in_ok-item.item.place w c.loop-item.invariant (
      c.in_ok-item.ensures,
      record { stand = c.begun-from.ensures.stand; place = c.begun-from.ensures.place },
    ) ended c.place-to.result c.place-to.ensures c.text.result.now c.text.ensures in
    let stood = c.between-passage.ensures.words (words_of_routine d.routine) d.stand in
    let is = c.of.ensures.routine d.routine d.fits (sym stood) in
    routine_is_done c.args.reader.now c.take.new.self c.text.result.now c.begun-from.result c.place-to.result d
    (routine_of c.of.result) is

pub returns-in_default-clause-text : goal.returns-in_default-clause-text
returns-in_default-clause-text c =
    let w = word_of c.in_ok-item.item.lexeme in
    let ended = c.left_open.ensures ∙ ap (λ o. Ok (still_open o)) c.in_default.is in
    let d = routine_done c.args.reader.now c.loop-item.reader c.take.new.self c.loop-item.from c.loop-item.to
    c.begun-from.result c.loop-item.others c.in_ok-item.item.place w c.loop-item.invariant (
      c.in_ok-item.ensures,
      record { stand = c.begun-from.ensures.stand; place = c.begun-from.ensures.place },
    ) ended c.place-to.result c.place-to.ensures c.text.result.now c.text.ensures in
    ap (λ (p : Passage). p.text.now) c.of.ensures.kept ∙ ap (λ t. t.now) c.between-passage.ensures.kept.0
    ∙ c.text.ensures ∙ passes_text d.passes

pub returns-in_default-clause-place : goal.returns-in_default-clause-place
returns-in_default-clause-place c =
    let w = word_of c.in_ok-item.item.lexeme in
    let ended = c.left_open.ensures ∙ ap (λ o. Ok (still_open o)) c.in_default.is in
    let d = routine_done c.args.reader.now c.loop-item.reader c.take.new.self c.loop-item.from c.loop-item.to
    c.begun-from.result c.loop-item.others c.in_ok-item.item.place w c.loop-item.invariant (
      c.in_ok-item.ensures,
      record { stand = c.begun-from.ensures.stand; place = c.begun-from.ensures.place },
    ) ended c.place-to.result c.place-to.ensures c.text.result.now c.text.ensures in
    let stood = c.between-passage.ensures.words (words_of_routine d.routine) d.stand in
    let kept = c.between-passage.ensures.kept in
    passage_at c.args.reader.now.text c.args.reader.now.place c.between-passage.result c.of.result.passage
    (words_of_routine d.routine) c.begun-from.result (sym c.of.ensures.kept) stood kept.1
    (ap (λ t. t.now) kept.0 ∙ c.text.ensures ∙ passes_text d.passes) d.begins

pub loop-item-smaller : goal.loop-item-smaller
loop-item-smaller c = shown_less (word_of c.in_ok-item.item.lexeme) (located_of c.in_ok-item.item) c.loop-item.reader
    c.take.new.self c.in_ok-item.ensures refl

pub loop-item-preserved : goal.loop-item-preserved
loop-item-preserved c =
    let goes_on = c.left_open.ensures ∙ ap (λ o. Ok (still_open o)) c.in-Some.is in
    routine_next c.args.reader.now c.loop-item.reader c.take.new.self c.loop-item.from c.loop-item.to
    c.begun-from.result c.loop-item.others c.in-Some.left c.in_ok-item.item.place (word_of c.in_ok-item.item.lexeme)
    c.loop-item.invariant (
      c.in_ok-item.ensures,
      record { stand = c.begun-from.ensures.stand; place = c.begun-from.ensures.place },
    ) goes_on c.place-to.result c.place-to.ensures
