use Rattle.std.proofs.Common.{ap, ◌∙◌, ◌≡◌, ◌++◌, [], ◌∷◌, refl, List}
use Rattle.express_syntax.specs.declared.lexeme.Lexeme.{Lexeme}
use Rattle.express_syntax.specs.declared.lexeme.Lexeme.TheVariants as lexemes
use Rattle.express_syntax.specs.Words.{words_of, name}
use Rattle.express_syntax.specs.ExpressionViews.{capitals}
use Rattle.express_token_runs.specs.steps.Items.{named}
use Rattle.express_token_runs.proofs.RunSteps.{begun_named}
use Rattle.express_token_runs.proofs.runs.Buffer.begin.Goals as goal

pub returns : goal.returns
returns c =
    let words : words_of c.push.new.self.items ≡ name (capitals c.args.first) ∷ [] =
    ap words_of c.in_ok-push.ensures.items
    ∙ ap (λ (l : List Lexeme). words_of (l ++ lexemes.Name c.args.first ∷ [])) c.clear.ensures.empty.0 in (
      words,
      c.clear.ensures.empty.1,
      λ part n old here h e. begun_named part n _ (capitals c.args.first)
          (named c.args.first c.args.place) old here words c.clear.ensures.empty.1 refl e h refl,
    )
