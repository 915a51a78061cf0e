use Rattle.std.proofs.Common.{[], sym, ◌∙◌}
use Rattle.express_syntax.specs.Words.{mark}
use Rattle.express_token_runs.specs.steps.Items.{located_of}
use Rattle.express_syntax.specs.steps.Predict.{Just}
use Rattle.express_syntax.specs.Grammar.{depth_limit}
use Rattle.express_syntax.proofs.Taking.{passes_token}
use Rattle.express_syntax.proofs.Passing.{next_mark}
use Rattle.express_syntax.proofs.Looking.{mark_met, mark_refused, stops_refused}
use Rattle.express_token_runs.proofs.reader.Reader.expect.Goals as goal

pub returns-then-not-is_mark : goal.returns-then-not-is_mark
returns-then-not-is_mark c =
    stops_refused c.refuse.result (Just c.args.wanted) (located_of c.in_ok-item.item) c.args.self.now c.take.new.self
    c.in_ok-item.ensures
    (mark_refused c.args.wanted (located_of c.in_ok-item.item).lookahead (sym c.is_mark.ensures
    ∙ c.if-not-is_mark.true)) c.refuse.ensures

pub returns : goal.returns
returns c =
    passes_token (Just c.args.wanted) [] (mark c.args.wanted) (located_of c.in_ok-item.item) c.args.self.now
    c.take.new.self c.in_ok-item.ensures
    (mark_met c.args.wanted (located_of c.in_ok-item.item).lookahead (sym c.is_mark.ensures ∙ c.if-not-is_mark.false))
    (next_mark depth_limit c.args.wanted)
