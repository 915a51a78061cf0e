use Rattle.std.proofs.Common.{[], ◌∷◌, ◌∙◌, subst}
use Rattle.std.proofs.lemmas.Result.{err_from_is_err_and}
use Rattle.express_syntax.specs.Sources.{IsRoutineAt}
use Rattle.express_syntax.specs.steps.Predict.{Routine, SkippedEnd}
use Rattle.express_syntax.proofs.SameText.{passes_text}
use Rattle.express_token_runs.proofs.SkippedSteps.{stops_second, passes_both, words_stand}
use Rattle.express_token_runs.proofs.skipped_declarations.named_routine.Goals as goal

pub returns-in_err-tokens-clause-read : goal.returns-in_err-tokens-clause-read
returns-in_err-tokens-clause-read c =
    let p = err_from_is_err_and c.from_residual-in_err-tokens.result c.from_residual-in_err-tokens.ensures.1 in
    rw (p.1, p.2) (stops_second _ (Routine 0 ∷ []) (SkippedEnd ∷ []) c.in_ok-name.ensures c.in_err-tokens.ensures.read)

pub returns-in_err-skipped_end-clause-read : goal.returns-in_err-skipped_end-clause-read
returns-in_err-skipped_end-clause-read c =
    let p = err_from_is_err_and c.from_residual-in_err-skipped_end.result c.from_residual-in_err-skipped_end.ensures.1
    in
    rw (p.1, p.2) (stops_second _ (SkippedEnd ∷ []) [] (passes_both c.in_ok-name.ensures c.in_ok-tokens.ensures.read.1)
    c.in_err-skipped_end.ensures)

pub returns-clause-read : goal.returns-clause-read
returns-clause-read c = (
  c.in_ok-tokens.ensures.read.0,
  passes_both c.in_ok-name.ensures
      (passes_both c.in_ok-tokens.ensures.read.1 c.in_ok-skipped_end.ensures),
)

pub returns-clause-text : goal.returns-clause-text
returns-clause-text c = c.in_ok-tokens.ensures.text ∙ passes_text c.in_ok-name.ensures

pub returns-clause-place : goal.returns-clause-place
returns-clause-place c =
    let mid = c.skipped_name.new.reader in (
      mid.place,
      words_stand _ [] c.in_ok-name.ensures,
      subst (λ text. IsRoutineAt text mid.place c.in_ok-tokens.tokens) (passes_text c.in_ok-name.ensures)
          c.in_ok-tokens.ensures.place,
    )
