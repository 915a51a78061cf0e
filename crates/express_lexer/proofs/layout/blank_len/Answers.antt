use Rattle.std.proofs.Common.{codes}
use Rattle.express_lexer.proofs.LayoutLemmas.{tail_at}
use Rattle.express_lexer.proofs.Remarks.{stripped}
use Rattle.express_lexer.proofs.layout.blank_len.Goals as goal

pub returns-in-Some : goal.returns-in-Some
returns-in-Some c =
    tail_at c.args.bytes.now c.in-Some.line.now c.line_len.result
    (stripped (codes "--") c.args.bytes.now c.in-Some.line.now c.in-Some.ensures.cases.0 c.in-Some.ensures.cases.1)
    c.line_len.ensures.len
