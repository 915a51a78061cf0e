use Rattle.std.proofs.Common.{◌≡◌, length, ap, ◌∙◌}
use Rattle.graphs.proofs.RowLists.{row-within}
use Rattle.graphs.proofs.closures.reversal.Goals as goal

pub add_to_rows-requires : goal.add_to_rows-requires
add_to_rows-requires c =
    let long : length c.deref_mut.result.now ≡ length c.loop-from.rows.items = ap length c.deref_mut.ensures.value in
    row-within (λ v. v.items) c.args.edges.now c.loop-from.from c.index-edges-from.result c.deref.result.now
    (length c.deref_mut.result.now) c.requires.graph c.loop-from-test.true c.index-edges-from.is c.deref.ensures.value
    (long ∙ c.loop-from.invariant.long)
