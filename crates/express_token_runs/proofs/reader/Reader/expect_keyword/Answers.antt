use Rattle.std.proofs.Common.{[], sym, ◌∙◌}
use Rattle.express_syntax.specs.Words.{keyword}
use Rattle.express_token_runs.specs.steps.Items.{located_of}
use Rattle.express_syntax.specs.steps.Predict.{Say}
use Rattle.express_syntax.specs.Grammar.{depth_limit}
use Rattle.express_syntax.proofs.Taking.{passes_token}
use Rattle.express_syntax.proofs.Passing.{next_keyword}
use Rattle.express_syntax.proofs.Looking.{keyword_met, keyword_refused, stops_refused}
use Rattle.express_token_runs.proofs.reader.Reader.expect_keyword.Goals as goal

pub returns-then-not-is_keyword : goal.returns-then-not-is_keyword
returns-then-not-is_keyword c =
    stops_refused c.refuse.result (Say c.args.wanted) (located_of c.in_ok-item.item) c.args.self.now c.take.new.self
    c.in_ok-item.ensures
    (keyword_refused c.args.wanted (located_of c.in_ok-item.item).lookahead (sym c.is_keyword.ensures
    ∙ c.if-not-is_keyword.true)) c.refuse.ensures

pub returns : goal.returns
returns c =
    passes_token (Say c.args.wanted) [] (keyword c.args.wanted) (located_of c.in_ok-item.item) c.args.self.now
    c.take.new.self c.in_ok-item.ensures
    (keyword_met c.args.wanted (located_of c.in_ok-item.item).lookahead (sym c.is_keyword.ensures
    ∙ c.if-not-is_keyword.false)) (next_keyword depth_limit c.args.wanted)
