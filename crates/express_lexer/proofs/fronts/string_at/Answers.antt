use Rattle.std.proofs.Common.{◌∙◌, take, drop, inl}
use Rattle.express_lexer.proofs.FrontLemmas.{none_string, next_string}
use Rattle.express_lexer.proofs.fronts.string_at.Goals as goal

pub returns-in_err-len : goal.returns-in_err-len
returns-in_err-len c = rw c.from_residual.ensures (inl (none_string c.args.bytes.now c.requires c.in_err-len.ensures))

pub returns : goal.returns
returns c =
    let l = c.args.bytes.now in let n = c.in_ok-len.len in record {
      within = c.in_ok-len.ensures.0;
      next = next_string (take n l) (drop n l) c.in_ok-len.ensures.1;
      value = c.from_string.ensures ∙ c.split_at.ensures.front;
    }
