use Rattle.express_token_runs.specs.steps.Items.{located_of}
use Rattle.express_parts.proofs.RuleSteps.{body_done}
use Rattle.express_syntax.proofs.SameText.{shows_text, kept_ok}
use Rattle.express_syntax.specs.Sources.{IsBodyOf}
use Rattle.express_parts.proofs.rules.body.Goals as goal

pub returns-clause-read : goal.returns-clause-read
returns-clause-read c =
    body_done c.gathered_body.result c.clear.new.self (located_of c.in_ok-first.first) c.args.reader.now
    c.reader.inside.lexer c.gathered_body.new.lexer c.clear.ensures.empty.0 c.clear.ensures.empty.1
    (rw c.reader.view_is c.in_ok-first.ensures) c.gathered_body.ensures.read

pub returns-clause-text : goal.returns-clause-text
returns-clause-text c =
    kept_ok IsBodyOf c.gathered_body.result (shows_text c.args.reader.now (located_of c.in_ok-first.first)
    c.reader.inside.lexer (rw c.reader.view_is c.in_ok-first.ensures))
    c.gathered_body.ensures.text
