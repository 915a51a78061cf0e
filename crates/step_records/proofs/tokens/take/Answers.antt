use Rattle.std.proofs.Common.{Some, None, Option, Ok, ◌≡◌}
use Rattle.step_lexer.specs.Reading.{Answers, IsAtEnd, Reading}
use Rattle.step_lexer.specs.declared.token.Token.{Token}
use Rattle.step_records.specs.steps.Readers.{reading}
use Rattle.step_records.proofs.Looking.{stops_end, stops_flaw}
use Rattle.step_records.proofs.tokens.take.Goals as goal

at_none : (old : Reading) (o : Option Token) (new : Reading) → o ≡ None → Answers old (Ok o) new → IsAtEnd old new
at_none old None new e h = h
at_none old (Some t) new e h = absurd (cc)

pub returns-in-Ok-None : goal.returns-in-Ok-None
returns-in-Ok-None c = stops_end c.place.result (reading c.args.reader.now) (reading c.next_token.new.self)
    (at_none (reading c.args.reader.now) c.in-Ok-None.field-0 (reading c.next_token.new.self) c.in-Ok-None.field-0-is
    c.in-Ok-None.ensures.answers) c.place.ensures

pub returns-in-Err : goal.returns-in-Err
returns-in-Err c = λ y _. stops_flaw c.in-Err.fault (reading c.args.reader.now) (reading c.next_token.new.self)
    c.in-Err.ensures.answers y
