use Rattle.std.proofs.Common.{◌≡◌, rules}
use Rattle.express_syntax.specs.Grammar.{expression}
use Rattle.express_syntax.specs.steps.Reads.{StandsNone}
use Rattle.express_expressions.specs.declared.refusals.NotRead.TheVariants as failures
use Rattle.express_syntax.specs.Words.{words_of}
use Rattle.express_syntax.specs.ExpressionViews.{tree_of}
use Rattle.express_expressions.specs.steps.Pieces.{words_from, Unless}
use Rattle.express_expressions.proofs.Levels.{whole_none, whole_more, some_left}
use Rattle.express_expressions.proofs.reader.read_expression.Goals as goal

pub returns-in-Err-NoExpression : goal.returns-in-Err-NoExpression
returns-in-Err-NoExpression c =
    let e : c.in-Err-NoExpression.field-0 ≡ failures.NoExpression = search rules in
    let h : Unless c.in-Err-NoExpression.field-0 (StandsNone c.args.depth expression (words_of c.args.lexemes.now)) =
    rw c.in-Err-NoExpression.is at c.expression.ensures in
    whole_none c.args.depth (words_of c.args.lexemes.now) (rw e at h)

pub returns-in-Ok : goal.returns-in-Ok
returns-in-Ok c =
    whole_more c.args.depth (words_of c.args.lexemes.now) (tree_of c.in-Ok.whole.value)
    (words_from c.in-Ok.rest c.args.lexemes.now) (rw c.in-Ok.is at c.expression.ensures)
    (some_left c.args.lexemes.now c.in-Ok.rest c.if-rest-lexemes.false)
