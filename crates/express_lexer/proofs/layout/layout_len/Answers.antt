use Rattle.std.proofs.Common.{◌-◌, length, refl, arith}
use Rattle.express_lexer.proofs.LayoutLemmas.{one_more, skips_to}
use Rattle.express_lexer.proofs.layout.layout_len.Goals as goal

pub loop-n-preserved : goal.loop-n-preserved
loop-n-preserved c =
    let i = c.loop-n.invariant in (
      one_more c.args.bytes.now c.loop-n.rest.now c.split_at.result.1.now c.in-Some.n i.0 c.in-Some.ensures.2
          c.split_at.ensures.back,
      omega (arith, i.1, c.split_at.ensures.back_len),
    )

pub returns-clause-layout : goal.returns-clause-layout
returns-clause-layout c =
    skips_to c.args.bytes.now c.loop-n.rest.now (length c.args.bytes.now - length c.loop-n.rest.now) refl
    c.loop-n.invariant.0 c.in_default.ensures
