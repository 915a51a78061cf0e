use Rattle.std.proofs.Common.{◌∙◌}
use Rattle.express_lexer.proofs.FrontLemmas.{word_is_keyword, word_run, next_word}
use Rattle.express_lexer.proofs.fronts.word_at.Goals as goal

pub from_keyword-requires : goal.from_keyword-requires
from_keyword-requires c = rw (c.split_at.ensures.front, c.word_len-len.ensures.len)
    (word_is_keyword _ (word_run c.args.bytes.now c.requires))

pub returns : goal.returns
returns c = record {
  within = c.word_len-len.ensures.within;
  next = rw c.word_len-len.ensures.len (next_word c.args.bytes.now c.requires);
  value = c.from_keyword.ensures ∙ c.split_at.ensures.front;
}
