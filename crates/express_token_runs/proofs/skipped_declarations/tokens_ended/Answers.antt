use Rattle.std.proofs.Common.{[], ◌∷◌, ◌++◌, append_assoc}
use Rattle.std.proofs.lemmas.Result.{err_from_is_err_and}
use Rattle.express_lexer.specs.declared.marks.Mark.TheVariants as marks
use Rattle.express_syntax.specs.Words.{name, mark}
use Rattle.express_syntax.specs.steps.Predict.{SkippedEnd}
use Rattle.express_syntax.specs.Views.{words_of_passage}
use Rattle.express_syntax.proofs.Taking.{passes_as}
use Rattle.express_token_runs.proofs.SkippedSteps.{stops_second, passes_both}
use Rattle.express_token_runs.proofs.skipped_declarations.tokens_ended.Goals as goal

pub returns-in_err-skipped_end-clause-read : goal.returns-in_err-skipped_end-clause-read
returns-in_err-skipped_end-clause-read c =
    let p = err_from_is_err_and c.from_residual-in_err-skipped_end.result c.from_residual-in_err-skipped_end.ensures.1
    in
    rw (p.1, p.2) (stops_second _ (SkippedEnd ∷ []) [] c.in_ok-tokens.ensures.read.1 c.in_err-skipped_end.ensures)

pub returns-clause-read : goal.returns-clause-read
returns-clause-read c =
    let ws = words_of_passage c.in_ok-tokens.tokens in
    let end = name c.args.end.now in (
      c.in_ok-tokens.ensures.read.0,
      passes_as (ws ++ end ∷ mark marks.Semicolon ∷ [])
          (append_assoc ws (end ∷ []) (mark marks.Semicolon ∷ []))
          (passes_both c.in_ok-tokens.ensures.read.1 c.in_ok-skipped_end.ensures),
    )
