use Rattle.std.proofs.Common.{◌≡◌, ◌-◌, List, subst, arith}
use Rattle.parsing.proofs.Buffers.{Copied, copied_begin, copied_next, copied_front, copied_behind}
use Rattle.parsing.proofs.column.copy_reversed.Goals as goal

pub loop-i-init : goal.loop-i-init
loop-i-init g c = copied_begin c.args.cells.now c.args.from c.args.end c.args.to

pub loop-i-preserved : goal.loop-i-preserved
loop-i-preserved g c = rw c.index-cells-end.is (copied_next c.args.cells.now c.args.from c.args.end c.args.to
    c.loop-i.i c.loop-i.cells _ c.requires.start c.requires.end c.requires.apart c.loop-i-test.true
    c.loop-i.invariant)

pub returns-clause-front : goal.returns-clause-front
returns-clause-front g c =
    let all : c.loop-i.i ≡ c.args.end - c.args.from = omega (arith, c.loop-i-test.false, c.loop-i.auto.i-end) in
    copied_front c.args.cells.now c.args.from c.args.end c.args.to c.loop-i.cells c.requires.start c.requires.end
    (subst (λ k. Copied c.args.cells.now c.args.from c.args.end c.args.to k c.loop-i.cells) all c.loop-i.invariant)

pub returns-clause-behind : goal.returns-clause-behind
returns-clause-behind g c = copied_behind c.args.cells.now c.args.from c.args.end c.args.to c.loop-i.i c.loop-i.cells
    c.requires.start c.loop-i.invariant
