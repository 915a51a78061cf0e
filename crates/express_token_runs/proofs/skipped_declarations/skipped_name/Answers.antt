use Rattle.std.proofs.Common.{[], ap, refl}
use Rattle.express_syntax.specs.Words.{name, word_of}
use Rattle.express_syntax.specs.ExpressionViews.{capitals}
use Rattle.express_token_runs.specs.steps.Items.{located_of}
use Rattle.express_syntax.specs.Texts.{token}
use Rattle.express_syntax.specs.steps.Predict.{SkippedName}
use Rattle.express_syntax.proofs.Taking.{passes_token}
use Rattle.express_token_runs.proofs.SkippedSteps.{name_expected, stops_expected}
use Rattle.express_token_runs.proofs.skipped_declarations.skipped_name.Goals as goal

pub returns-in-Name : goal.returns-in-Name
returns-in-Name c =
    passes_token SkippedName [] (name (capitals c.in-Name.word)) (located_of c.in_ok-item.item) c.args.reader.now
    c.take.new.self c.in_ok-item.ensures
    (ap (λ l. token (word_of l)) c.in-Name.is) refl

pub returns-in_default : goal.returns-in_default
returns-in_default c =
    stops_expected c.fault_at.result SkippedName (located_of c.in_ok-item.item) c.args.reader.now c.take.new.self
    c.in_ok-item.ensures
    (name_expected c.in_ok-item.item.lexeme c.in_default.not-Name) c.fault_at.ensures
