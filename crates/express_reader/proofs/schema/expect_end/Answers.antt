use Rattle.std.proofs.Common.{refl}
use Rattle.express_syntax.specs.Words.{word_of}
use Rattle.express_syntax.specs.Texts.{token}
use Rattle.express_syntax.specs.steps.Predict.{EndOfText, refused}
use Rattle.express_syntax.proofs.Looking.{stops_flaw}
use Rattle.express_reader.proofs.SchemaSteps.{stops_over}
use Rattle.express_reader.proofs.schema.expect_end.Goals as goal

pub returns-in-Ok-Some : goal.returns-in-Ok-Some
returns-in-Ok-Some c =
    stops_over c.refuse.result (refused (token (word_of c.of.result))) c.args.lexer.now c.in-Ok-Some.field-0
    c.in-Ok-Some.token c.of.result c.next_token.new.self c.in-Ok-Some.field-0-is c.in-Ok-Some.ensures c.of.ensures refl
    c.refuse.ensures

pub returns-in-Err : goal.returns-in-Err
returns-in-Err c = stops_flaw c.in-Err.fault c.args.lexer.now c.next_token.new.self c.in-Err.ensures EndOfText
