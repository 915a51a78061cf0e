use Rattle.std.proofs.Common.{arith}
use Rattle.value_equality.proofs.Settling.{settled_len, settled_left, settled_done}
use Rattle.value_equality.proofs.sorted_types.settle_type_lists.Goals as goal

pub loop-i-preserved : goal.loop-i-preserved
loop-i-preserved c =
    let l = c.loop-i.invariant in
    record {
      same_len = settled_len c.args.type_lists.now c.loop-i.type_lists c.loop-i.i c.index-type_lists-i.result c.settle.new.types l.same_len
          l.rest (omega (arith, l.same_len)) c.index-type_lists-i.is;
      done = settled_done c.args.type_lists.now c.loop-i.type_lists c.loop-i.i c.index-type_lists-i.result c.settle.new.types l.same_len
          l.rest (omega (arith, l.same_len)) c.index-type_lists-i.is l.done c.in_ok-settle.ensures;
      rest = settled_left c.args.type_lists.now c.loop-i.type_lists c.loop-i.i c.index-type_lists-i.result c.settle.new.types l.same_len
          l.rest (omega (arith, l.same_len)) c.index-type_lists-i.is;
    }
