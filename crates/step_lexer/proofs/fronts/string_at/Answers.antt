use Rattle.step_lexer.proofs.FrontLemmas.{string_long, text_read, text_front}
use Rattle.step_lexer.proofs.fronts.string_at.Goals as goal

pub content_of-requires : goal.content_of-requires
content_of-requires c = string_long c.args.bytes.now c.split_at.result.0.now c.split_at.result.0.now c.in-Some.len
    c.in-Some.ensures.0 c.in-Some.ensures.1 c.split_at.ensures.front

pub from_string-requires : goal.from_string-requires
from_string-requires c = text_read c.args.bytes.now c.split_at.result.0.now c.content_of.result.now c.in-Some.len
    c.in-Some.ensures.0 c.in-Some.ensures.1 c.split_at.ensures.front c.content_of.ensures c.in-None.ensures

pub returns-in-None : goal.returns-in-None
returns-in-None c = text_front c.args.bytes.now c.split_at.result.0.now c.content_of.result.now c.in-Some.len
    c.in-Some.ensures.0 c.in-Some.ensures.1 c.split_at.ensures.front c.from_string.result c.content_of.ensures
    c.in-None.ensures c.from_string.ensures
