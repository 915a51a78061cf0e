use Rattle.std.proofs.Common.{[], refl, sym, ◌∙◌}
use Rattle.express_lexer.specs.declared.marks.Mark.TheVariants as marks
use Rattle.express_syntax.specs.Words.{mark, word_of}
use Rattle.express_token_runs.specs.steps.Items.{located_of}
use Rattle.express_syntax.specs.steps.Predict.{SkippedEnd}
use Rattle.express_syntax.proofs.Taking.{passes_token}
use Rattle.express_syntax.proofs.Looking.{mark_met}
use Rattle.express_token_runs.proofs.SkippedSteps.{end_expected, stops_expected}
use Rattle.express_token_runs.proofs.skipped_declarations.skipped_end.Goals as goal

pub returns-then-not-is_mark : goal.returns-then-not-is_mark
returns-then-not-is_mark c =
    stops_expected c.fault_at.result SkippedEnd (located_of c.in_ok-item.item) c.args.reader.now c.take.new.self
    c.in_ok-item.ensures
    (end_expected (word_of c.in_ok-item.item.lexeme) (sym c.is_mark.ensures ∙ c.if-not-is_mark.true)) c.fault_at.ensures

pub returns : goal.returns
returns c =
    passes_token SkippedEnd [] (mark marks.Semicolon) (located_of c.in_ok-item.item) c.args.reader.now c.take.new.self
    c.in_ok-item.ensures
    (mark_met marks.Semicolon (located_of c.in_ok-item.item).lookahead (sym c.is_mark.ensures ∙ c.if-not-is_mark.false))
    refl
