use Rattle.std.proofs.Common.{[], ◌∷◌, ◌≡◌, refl, sym, ap, ◌∙◌}
use Rattle.std.proofs.lemmas.Result.{err_from_is_err_and}
use Rattle.express_syntax.specs.Words.{word_of}
use Rattle.express_token_runs.specs.steps.Items.{located_of}
use Rattle.express_syntax.specs.Views.{words_of_passage}
use Rattle.express_syntax.specs.steps.Predict.{Until, EndOfText}
use Rattle.express_syntax.proofs.Looking.{shown_less}
use Rattle.express_syntax.proofs.Taking.{stops_behind}
use Rattle.express_syntax.proofs.SameText.{passes_text, shows_text}
use Rattle.express_token_runs.proofs.SkippedSteps.{passage_at, until_start, until_next, until_text, until_done}
use Rattle.express_token_runs.proofs.skipped_declarations.tokens_until.Goals as goal

pub loop-item-init : goal.loop-item-init
loop-item-init c = until_start c.args.end.now c.args.reader.now c.place-from.result c.place-from.ensures

pub returns-in_err-item-clause-read : goal.returns-in_err-item-clause-read
returns-in_err-item-clause-read c =
    let p = err_from_is_err_and c.from_residual.result c.from_residual.ensures.1 in
    let y = Until c.args.end.now in
    rw (p.1, p.2) (stops_behind _ (y ∷ []) [] c.loop-item.invariant.passes
    (c.in_err-item.ensures y (λ (e : y ≡ EndOfText). cc)))

pub between-requires : goal.between-requires
between-requires c =
    let w = word_of c.in_ok-item.item.lexeme in (
      c.loop-item.invariant.words,
      until_text c.args.end.now c.args.reader.now c.loop-item.reader c.take.new.self
          c.loop-item.from c.loop-item.to (located_of c.in_ok-item.item) w c.loop-item.invariant c.in_ok-item.ensures
          refl
          c.text.result.now c.text.ensures,
    )

pub returns-then-is_named-clause-read : goal.returns-then-is_named-clause-read
returns-then-is_named-clause-read c =
    let w = word_of c.in_ok-item.item.lexeme in
    let s = located_of c.in_ok-item.item in
    let stand = until_text c.args.end.now c.args.reader.now c.loop-item.reader c.take.new.self c.loop-item.from
    c.loop-item.to s w c.loop-item.invariant c.in_ok-item.ensures refl c.text.result.now c.text.ensures in
    until_done c.args.end.now c.args.reader.now c.loop-item.reader c.take.new.self c.loop-item.from c.loop-item.to s w
    (words_of_passage c.between.result) c.loop-item.invariant
    (c.between.ensures.words c.loop-item.invariant.words stand) c.in_ok-item.ensures refl
    (sym c.is_named.ensures ∙ c.if-is_named.true)

pub returns-then-is_named-clause-text : goal.returns-then-is_named-clause-text
returns-then-is_named-clause-text c =
    let w = word_of c.in_ok-item.item.lexeme in
    let s = located_of c.in_ok-item.item in
    let stand = until_text c.args.end.now c.args.reader.now c.loop-item.reader c.take.new.self c.loop-item.from
    c.loop-item.to s w c.loop-item.invariant c.in_ok-item.ensures refl c.text.result.now c.text.ensures in
    let done =
    until_done c.args.end.now c.args.reader.now c.loop-item.reader c.take.new.self c.loop-item.from c.loop-item.to s w
    (words_of_passage c.between.result) c.loop-item.invariant
    (c.between.ensures.words c.loop-item.invariant.words stand) c.in_ok-item.ensures refl
    (sym c.is_named.ensures ∙ c.if-is_named.true) in
    ap (λ t. t.now) c.between.ensures.kept.0 ∙ c.text.ensures ∙ passes_text done.1

pub returns-then-is_named-clause-place : goal.returns-then-is_named-clause-place
returns-then-is_named-clause-place c =
    let so = c.loop-item.invariant in
    let s = located_of c.in_ok-item.item in
    let stand = until_text c.args.end.now c.args.reader.now c.loop-item.reader c.take.new.self c.loop-item.from
    c.loop-item.to s (word_of c.in_ok-item.item.lexeme) so c.in_ok-item.ensures refl c.text.result.now c.text.ensures in
    let kept = c.between.ensures.kept in
    passage_at c.args.reader.now.text c.args.reader.now.place c.between.result c.between.result so.words
    c.loop-item.from refl (c.between.ensures.words so.words stand) kept.1
    (ap (λ t. t.now) kept.0 ∙ c.text.ensures ∙ shows_text _ _ _ c.in_ok-item.ensures ∙ passes_text so.passes) so.begins

pub loop-item-smaller : goal.loop-item-smaller
loop-item-smaller c = shown_less (word_of c.in_ok-item.item.lexeme) (located_of c.in_ok-item.item) c.loop-item.reader
    c.take.new.self c.in_ok-item.ensures refl

pub loop-item-preserved : goal.loop-item-preserved
loop-item-preserved c =
    until_next c.args.end.now c.args.reader.now c.loop-item.reader c.take.new.self c.loop-item.from c.loop-item.to
    c.begun-from.result c.in_ok-item.item.place (word_of c.in_ok-item.item.lexeme) c.loop-item.invariant (
      c.in_ok-item.ensures,
      record { stand = c.begun-from.ensures.stand; place = c.begun-from.ensures.place },
    ) (sym c.is_named.ensures ∙ c.if-is_named.false) c.place-to.result c.place-to.ensures
