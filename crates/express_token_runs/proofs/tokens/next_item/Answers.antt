use Rattle.std.proofs.Common.{Some, None, Option, Ok, ◌≡◌, subst}
use Rattle.express_lexer.specs.declared.token.Token.{Token}
use Rattle.express_lexer.specs.Reading.{Answers, IsAtEnd, Reading, Takes}
use Rattle.express_syntax.proofs.Looking.{stops_end, stops_flaw, shows_lexeme}
use Rattle.express_token_runs.proofs.tokens.next_item.Goals as goal

at_none : (old : Reading) (o : Option Token) (new : Reading) → o ≡ None → Answers old (Ok o) new → IsAtEnd old new
at_none old None new e h = h
at_none old (Some t) new e h = absurd (cc)

at_some : (old : Reading) (o : Option Token) (t : Token) (new : Reading) → o ≡ Some t → Answers old (Ok o) new
    → Takes old t new
at_some old o t new e h = let P : Option Token → Type 0 = λ p. Answers old (Ok p) new in subst P e h

pub returns-in-Ok-Some : goal.returns-in-Ok-Some
returns-in-Ok-Some c =
    shows_lexeme c.in-Ok-Some.token c.of.result c.args.lexer.now c.next_token.new.self c.of.ensures
    (at_some c.args.lexer.now c.in-Ok-Some.field-0 c.in-Ok-Some.token c.next_token.new.self c.in-Ok-Some.field-0-is
    c.in-Ok-Some.ensures)

pub returns-in-Ok-None : goal.returns-in-Ok-None
returns-in-Ok-None c = stops_end c.place.result c.args.lexer.now c.next_token.new.self
    (at_none c.args.lexer.now c.in-Ok-None.field-0 c.next_token.new.self c.in-Ok-None.field-0-is c.in-Ok-None.ensures)
    c.place.ensures

pub returns-in-Err : goal.returns-in-Err
returns-in-Err c = λ y _. stops_flaw c.in-Err.fault c.args.lexer.now c.next_token.new.self c.in-Err.ensures y
