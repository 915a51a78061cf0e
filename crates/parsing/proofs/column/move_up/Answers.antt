use Rattle.std.proofs.Common.{◌≡◌, ◌≤◌, ◌+◌, ◌-◌, length, take, drop, sym, arith, subst}
use Rattle.parsing.proofs.Buffers.{moved_begin, moved_next, Moved}
use Rattle.parsing.proofs.column.move_up.Goals as goal

pub loop-end-init : goal.loop-end-init
loop-end-init g c = (
  moved_begin c.args.cells.now c.args.by (omega (arith, c.requires.within)),
  omega (arith, c.requires.within),
  omega (arith, c.requires.within),
)

pub loop-end-preserved : goal.loop-end-preserved
loop-end-preserved g c =
    let end = c.loop-end.end in
    let from = end - c.min.result in
    let kept = c.loop-end.invariant in
    let next = moved_next c.args.cells.now from end c.args.by c.loop-end.cells (omega arith) kept.2 kept.0 in (
      subst (Moved c.args.cells.now from c.args.by) (sym c.copy_apart.ensures) next,
      omega (arith, c.min.ensures, c.loop-end-test.true),
      omega (arith, kept.2),
    )

pub returns-clause-front : goal.returns-clause-front
returns-clause-front g c =
    let kept = c.loop-end.invariant in
    let done : c.loop-end.end ≡ c.args.top = omega (arith, kept.1, c.loop-end-test.false) in
    subst (λ k. take k c.loop-end.cells ≡ take k c.args.cells.now) done kept.0.front

pub returns-clause-behind : goal.returns-clause-behind
returns-clause-behind g c =
    let kept = c.loop-end.invariant in
    let done : c.loop-end.end ≡ c.args.top = omega (arith, kept.1, c.loop-end-test.false) in
    subst (λ k. drop (k + c.args.by) c.loop-end.cells ≡ take (length c.args.cells.now - c.args.by - k) (drop k
    c.args.cells.now)) done kept.0.behind
