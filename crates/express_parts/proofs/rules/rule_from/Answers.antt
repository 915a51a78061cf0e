use Rattle.std.proofs.lemmas.Result.{err_from_is_err_and}
use Rattle.express_syntax.specs.Views.{body_of}
use Rattle.express_parts.proofs.RuleSteps.{bare_read, bare_stops, named_done}
use Rattle.express_parts.proofs.rules.rule_from.Goals as goal

pub returns-in-Name-clause-read : goal.returns-in-Name-clause-read
returns-in-Name-clause-read c =
    λ end _. named_done end c.args.first.lexeme c.in-Name.word c.args.first.place c.named_rule.result
    c.args.reader.now c.named_rule.new.reader c.in-Name.is (c.named_rule.ensures.read end)

pub returns-in_err-body-clause-read : goal.returns-in_err-body-clause-read
returns-in_err-body-clause-read c = λ end k.
    let p = err_from_is_err_and c.from_residual.result c.from_residual.ensures.1 in
    rw (p.1, p.2, ← c.reader.view_is) (bare_stops _ end c.args.first.lexeme c.args.first.place c.clear.new.self
    c.reader.inside.lexer c.clear.ensures.empty.0 c.clear.ensures.empty.1 c.in_default.not-Name k
    c.in_err-body.ensures.read)

pub returns-clause-read : goal.returns-clause-read
returns-clause-read c = λ end k.
    rw (← c.reader.view_is) (bare_read end c.args.first.lexeme c.args.first.place c.clear.new.self
    (body_of c.in_ok-body.body) c.reader.inside.lexer c.gathered_body.new.lexer c.clear.ensures.empty.0
    c.clear.ensures.empty.1 c.in_default.not-Name k c.in_ok-body.ensures.read)

pub returns-clause-text : goal.returns-clause-text
returns-clause-text c = rw (← c.reader.view_is) c.in_ok-body.ensures.text
