use Rattle.std.proofs.Common.{[], ◌∷◌, codes, refl, sym, ◌∙◌}
use Rattle.std.proofs.lemmas.Result.{err_from_is_err_and}
use Rattle.express_syntax.specs.ExpressionViews.{capitals}
use Rattle.express_syntax.specs.steps.Predict.{SkippedName, SkippedEnd, Routine, Until}
use Rattle.express_token_runs.proofs.SkippedSteps.{skipped_done, skipped_stops}
use Rattle.express_token_runs.proofs.skipped_declarations.skipped.Goals as goal

pub returns-then-spells-clause-read : goal.returns-then-spells-clause-read
returns-then-spells-clause-read c = (
  c.in_ok-name.ensures.read.0,
  skipped_done (codes "FUNCTION") (capitals c.args.first)
      (SkippedName ∷ Routine 0 ∷ SkippedEnd ∷ []) c.args.place (sym c.spells.ensures ∙ c.if-spells.true) refl
      c.in_ok-name.ensures.read.1,
)

pub returns-in_err-name-2-clause-read : goal.returns-in_err-name-2-clause-read
returns-in_err-name-2-clause-read c =
    let p = err_from_is_err_and c.from_residual-in_err-name-2.result c.from_residual-in_err-name-2.ensures.1 in
    rw (p.1, p.2) (skipped_stops _ (codes "PROCEDURE") (capitals c.args.first) (SkippedName ∷ Routine 0 ∷ SkippedEnd
    ∷ []) c.args.place c.args.reader.now (sym c.spells-2.ensures ∙ c.if-spells-2.true) refl
    c.in_err-name-2.ensures.read)

pub returns-then-spells-2-clause-read : goal.returns-then-spells-2-clause-read
returns-then-spells-2-clause-read c = (
  c.in_ok-name-2.ensures.read.0,
  skipped_done (codes "PROCEDURE") (capitals c.args.first)
      (SkippedName ∷ Routine 0 ∷ SkippedEnd ∷ []) c.args.place (sym c.spells-2.ensures ∙ c.if-spells-2.true) refl
      c.in_ok-name-2.ensures.read.1,
)

pub returns-in_err-name-3-clause-read : goal.returns-in_err-name-3-clause-read
returns-in_err-name-3-clause-read c =
    let p = err_from_is_err_and c.from_residual-in_err-name-3.result c.from_residual-in_err-name-3.ensures.1 in
    rw (p.1, p.2) (skipped_stops _ (codes "RULE") (capitals c.args.first) (SkippedName ∷ Until (codes "END_RULE")
    ∷ SkippedEnd ∷ []) c.args.place c.args.reader.now (sym c.spells-3.ensures ∙ c.if-spells-3.true) refl
    c.in_err-name-3.ensures.read)

pub returns-then-spells-3-clause-read : goal.returns-then-spells-3-clause-read
returns-then-spells-3-clause-read c = (
  c.in_ok-name-3.ensures.read.0,
  skipped_done (codes "RULE") (capitals c.args.first)
      (SkippedName ∷ Until (codes "END_RULE") ∷ SkippedEnd ∷ []) c.args.place (sym c.spells-3.ensures
      ∙ c.if-spells-3.true) refl c.in_ok-name-3.ensures.read.1,
)

pub returns-in_err-tokens-clause-read : goal.returns-in_err-tokens-clause-read
returns-in_err-tokens-clause-read c =
    let p = err_from_is_err_and c.from_residual-in_err-tokens.result c.from_residual-in_err-tokens.ensures.1 in
    rw (p.1, p.2) (skipped_stops _ (codes "CONSTANT") (capitals c.args.first) (Until (codes "END_CONSTANT") ∷ SkippedEnd
    ∷ []) c.args.place c.args.reader.now (sym c.spells-4.ensures ∙ c.if-spells-4.true) refl
    c.in_err-tokens.ensures.read)

pub returns-then-spells-4-clause-read : goal.returns-then-spells-4-clause-read
returns-then-spells-4-clause-read c = (
  c.in_ok-tokens.ensures.read.0,
  skipped_done (codes "CONSTANT") (capitals c.args.first)
      (Until (codes "END_CONSTANT") ∷ SkippedEnd ∷ []) c.args.place (sym c.spells-4.ensures ∙ c.if-spells-4.true) refl
      c.in_ok-tokens.ensures.read.1,
)

pub returns-in_err-name-4-clause-read : goal.returns-in_err-name-4-clause-read
returns-in_err-name-4-clause-read c =
    let p = err_from_is_err_and c.from_residual-in_err-name-4.result c.from_residual-in_err-name-4.ensures.1 in
    rw (p.1, p.2) (skipped_stops _ (codes "SUBTYPE_CONSTRAINT") (capitals c.args.first)
    (SkippedName ∷ Until (codes "END_SUBTYPE_CONSTRAINT") ∷ SkippedEnd ∷ []) c.args.place c.args.reader.now
    (sym c.spells-5.ensures ∙ c.if-spells-5.true) refl c.in_err-name-4.ensures.read)

pub returns-then-spells-5-clause-read : goal.returns-then-spells-5-clause-read
returns-then-spells-5-clause-read c = (
  c.in_ok-name-4.ensures.read.0,
  skipped_done (codes "SUBTYPE_CONSTRAINT") (capitals c.args.first)
      (SkippedName ∷ Until (codes "END_SUBTYPE_CONSTRAINT") ∷ SkippedEnd ∷ []) c.args.place (sym c.spells-5.ensures
      ∙ c.if-spells-5.true) refl c.in_ok-name-4.ensures.read.1,
)
