use Rattle.step_lexer.proofs.LayoutLemmas.{one_more}
use Rattle.step_lexer.proofs.layout.layout_len.Goals as goal

pub loop-n-preserved : goal.loop-n-preserved
loop-n-preserved c =
    let i = c.loop-n.invariant in let b = c.in-Some.ensures in
    one_more c.args.bytes.now c.loop-n.rest.now c.split_at.result.1.now i.0 c.loop-n.len c.in-Some.n i.1 i.2 i.3 b.1 b.2
    c.split_at.ensures.back
