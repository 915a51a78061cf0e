use Rattle.std.proofs.Common.{◌∷◌, [], subst, MatchResult}
use Rattle.express_lexer.specs.declared.marks.Mark.{Mark}
use Rattle.express_syntax.specs.Words.{mark}
use Rattle.express_syntax.specs.steps.Predict.{Just}
use Rattle.express_syntax.specs.steps.Steps.{Passes, StopsIn}
use Rattle.express_parts.proofs.data_types.expect_end.Goals as goal

pub returns : goal.returns
returns c =
    let P : Mark → Type 0 = λ m. MatchResult c.expect.result (λ _. Passes (Just m ∷ []) [] [] (mark m ∷ [])
    c.args.reader.now c.expect.new.self) (λ e. StopsIn e (Just m ∷ []) [] c.args.reader.now) in
    subst P c.mark.ensures c.expect.ensures
