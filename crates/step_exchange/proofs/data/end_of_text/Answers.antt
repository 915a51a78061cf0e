use Rattle.std.proofs.Common.{[], sym, ◌∙◌, ◌≡◌, subst, Some, None, Option, Ok}
use Rattle.step_lexer.specs.Reading.{Answers, IsAtEnd, Reading, Takes}
use Rattle.step_lexer.specs.declared.token.Token.{Token}
use Rattle.step_structures.specs.Words.{located, word_of}
use Rattle.step_structures.specs.steps.Predict.{EndOfText}
use Rattle.step_structures.specs.declared.fault.FaultKind.TheVariants as kinds
use Rattle.step_structures.specs.declared.fault.LeftOut.TheVariants as left_out
use Rattle.step_records.proofs.Looking.{stops_flaw, stops_refused}
use Rattle.step_records.specs.steps.Readers.{reading}
use Rattle.step_exchange.proofs.DataSteps.{stops_at, over_signature, over_refused, over_done}
use Rattle.step_exchange.proofs.data.end_of_text.Goals as goal

at_none : (old : Reading) (o : Option Token) (new : Reading) → o ≡ None → Answers old (Ok o) new → IsAtEnd old new
at_none old None new e h = h
at_none old (Some t) new e h = absurd (cc)

at_some : (old : Reading) (o : Option Token) (t : Token) (new : Reading) → o ≡ Some t → Answers old (Ok o) new
    → Takes old t new
at_some old o t new e h = let P : Option Token → Type 0 = λ x. Answers old (Ok x) new in subst P e h

pub returns-then-is_word : goal.returns-then-is_word
returns-then-is_word c =
    stops_at c.fault_at.result (kinds.LeftOut left_out.Signature) EndOfText [] c.in-Ok-Some.token (reading c.args.reader.now)
    (reading c.next_token.new.self) (at_some (reading c.args.reader.now) c.in-Ok-Some.field-0 c.in-Ok-Some.token (reading c.next_token.new.self)
    c.in-Ok-Some.field-0-is c.in-Ok-Some.ensures.answers) (over_signature (located c.in-Ok-Some.token).lookahead
    (sym c.is_word.ensures ∙ c.if-is_word.true)) c.fault_at.ensures

pub returns-in-Ok-None : goal.returns-in-Ok-None
returns-in-Ok-None c = (
  c.in-Ok-None.ensures.built,
  over_done (reading c.args.reader.now) (reading c.next_token.new.self) (at_none (reading c.args.reader.now)
      c.in-Ok-None.field-0 (reading c.next_token.new.self) c.in-Ok-None.field-0-is c.in-Ok-None.ensures.answers),
)

pub returns-else-is_word : goal.returns-else-is_word
returns-else-is_word c =
    let t = c.in-Ok-Some.token in
    stops_refused c.refuse.result EndOfText t (reading c.args.reader.now) (reading c.next_token.new.self)
    (at_some (reading c.args.reader.now) c.in-Ok-Some.field-0 c.in-Ok-Some.token (reading c.next_token.new.self) c.in-Ok-Some.field-0-is
    c.in-Ok-Some.ensures.answers) (over_refused (word_of t.sort t.text.now) (sym c.is_word.ensures ∙ c.if-is_word.false))
    c.refuse.ensures

pub returns-in-Err : goal.returns-in-Err
returns-in-Err c = stops_flaw c.in-Err.fault (reading c.args.reader.now) (reading c.next_token.new.self) c.in-Err.ensures.answers EndOfText
