use Rattle.std.proofs.Common.{sym, ◌∙◌, inl}
use Rattle.express_lexer.proofs.FrontLemmas.{none_binary, next_binary}
use Rattle.express_lexer.proofs.fronts.binary_at.Goals as goal

pub returns-then-bits-eq0 : goal.returns-then-bits-eq0
returns-then-bits-eq0 c = inl (none_binary c.args.bytes.now c.split_at.result.1.now c.requires c.split_at.ensures.back
    (sym c.bits_len-bits.ensures.len ∙ c.if-bits-eq0.true))

pub from_binary-requires : goal.from_binary-requires
from_binary-requires c =
    let found = next_binary c.args.bytes.now c.split_at.result.1.now c.requires c.split_at.ensures.back
    (λ z. c.if-bits-eq0.false (c.bits_len-bits.ensures.len ∙ z)) in
    rw (c.split_at-2.ensures.front, c.bits_len-bits.ensures.len) found.1.allowed

pub returns : goal.returns
returns c =
    let found = next_binary c.args.bytes.now c.split_at.result.1.now c.requires c.split_at.ensures.back
    (λ z. c.if-bits-eq0.false (c.bits_len-bits.ensures.len ∙ z)) in
    record {
      within = rw c.bits_len-bits.ensures.len found.0;
      next = rw c.bits_len-bits.ensures.len found.1;
      value = c.from_binary.ensures ∙ c.split_at-2.ensures.front;
    }
