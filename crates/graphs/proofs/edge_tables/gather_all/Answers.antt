use Rattle.std.proofs.Common.{◌≡◌, ◌<◌, length, arith, map, get_or, set, sym, ◌∙◌, ap, refl, []}
use Rattle.std.proofs.lemmas.List.{length-set}
use Rattle.graphs.specs.Graphs.{next}
use Rattle.graphs.specs.Orders.{joined}
use Rattle.graphs.proofs.RowLists.{row-is, row-within, row-stays, next-written, next-unwritten}
use Rattle.graphs.proofs.Gathered.{order-inside, solves-next, joined-so, joined-below, elsewhere-next}
use Rattle.graphs.proofs.edge_tables.gather_all.Goals as goal

pub bounds-edges-a : goal.bounds-edges-a
bounds-edges-a c = order-inside (λ v. v.items) c.args.edges.now c.args.order.now c.loop-a.a-index c.requires.order
    (omega (arith, c.loop-a-test.true))

pub bounds-own-a : goal.bounds-own-a
bounds-own-a c = let lt =
    order-inside (λ v. v.items) c.args.edges.now c.args.order.now c.loop-a.a-index c.requires.order
    (omega (arith, c.loop-a-test.true)) in let same = c.requires.own in omega (arith, lt, same)

pub gather-requires-clause-after : goal.gather-requires-clause-after
gather-requires-clause-after c =
    let lt = order-inside (λ v. v.items) c.args.edges.now c.args.order.now c.loop-a.a-index c.requires.order
    (omega (arith, c.loop-a-test.true)) in
    let whole : length c.deref.result.now ≡ length c.loop-a.table.items = ap length c.deref.ensures.value in
    row-within (λ v. v.items) c.args.edges.now (get_or c.args.order.now c.loop-a.a-index 0) c.index-edges-a.result
    c.deref-in-loop-a.result.now (length c.deref.result.now) c.requires.graph lt c.index-edges-a.is
    c.deref-in-loop-a.ensures.value (whole ∙ c.loop-a.invariant.long)

pub gather-requires-clause-own : goal.gather-requires-clause-own
gather-requires-clause-own c =
    let lt = order-inside (λ v. v.items) c.args.edges.now c.args.order.now c.loop-a.a-index c.requires.order
    (omega (arith, c.loop-a-test.true)) in
    let same = c.requires.own in
    row-stays (λ v. v.items) c.args.own.now (get_or c.args.order.now c.loop-a.a-index 0) c.index-own-a.result
    c.deref-in-loop-a-2.result.now (length c.args.marks.now) (length c.loop-a.marks) c.requires.below
    (omega (arith, lt, same)) c.index-own-a.is c.deref-in-loop-a-2.ensures.value (sym c.loop-a.invariant.marks)

pub index_mut-requires : goal.index_mut-requires
index_mut-requires c =
    let lt = order-inside (λ v. v.items) c.args.edges.now c.args.order.now c.loop-a.a-index c.requires.order
    (omega (arith, c.loop-a-test.true)) in
    let long = c.loop-a.invariant.long in
    let count = c.deref.ensures.len in
    let whole : length c.deref.result.now ≡ length c.loop-a.table.items = ap length c.deref.ensures.value in
    omega (arith, lt, long, count, whole)

pub loop-a-preserved : goal.loop-a-preserved
loop-a-preserved c =
    let here : c.loop-a.a-index < length c.args.order.now = omega (arith, c.loop-a-test.true) in
    let lt = order-inside (λ v. v.items) c.args.edges.now c.args.order.now c.loop-a.a-index c.requires.order
    (omega (arith, c.loop-a-test.true)) in
    let x = get_or c.args.order.now c.loop-a.a-index 0 in
    let long = c.loop-a.invariant.long in
    let same = c.requires.own in
    let edge = row-is (λ v. v.items) c.args.edges.now x c.index-edges-a.result c.deref-in-loop-a.result.now lt
    c.index-edges-a.is c.deref-in-loop-a.ensures.value in
    let mine = row-is (λ v. v.items) c.args.own.now x c.index-own-a.result c.deref-in-loop-a-2.result.now
    (omega (arith, lt, same)) c.index-own-a.is c.deref-in-loop-a-2.ensures.value in
    let made = joined-so (λ v. v.items) c.deref.result.now c.loop-a.table.items c.in_ok-row.row.items
    c.deref-in-loop-a.result.now (next (map (λ v. v.items) c.args.edges.now) x) c.deref-in-loop-a-2.result.now
    (next (map (λ v. v.items) c.args.own.now) x) c.in_ok-row.ensures.joined c.deref.ensures.value edge mine in
    let written = next-written (λ v. v.items) c.loop-a.table.items x c.in_ok-row.row (omega (arith, lt, long)) in
    record {
      long = length-set c.loop-a.table.items x c.in_ok-row.row ∙ long;
      done = solves-next (map (λ v. v.items) c.args.edges.now) (joined (map (λ v. v.items) c.args.own.now))
          (next (map (λ v. v.items) c.loop-a.table.items))
          (next (map (λ v. v.items) (set c.loop-a.table.items x c.in_ok-row.row))) c.args.order.now c.loop-a.a-index x
          c.requires.order.follows here refl c.loop-a.invariant.done (written ∙ made)
          (λ b ne. next-unwritten (λ v. v.items) c.loop-a.table.items x c.in_ok-row.row b ne);
      others = elsewhere-next (next (map (λ v. v.items) c.loop-a.table.items))
          (next (map (λ v. v.items) (set c.loop-a.table.items x c.in_ok-row.row))) [] c.args.order.now c.loop-a.a-index
          x here refl c.loop-a.invariant.others
          (λ b ne. next-unwritten (λ v. v.items) c.loop-a.table.items x c.in_ok-row.row b ne);
      below = joined-below (λ v. v.items) c.loop-a.table.items c.args.own.now x c.in_ok-row.row
          (next (map (λ v. v.items) c.args.edges.now) x) (length c.args.marks.now) (length c.loop-a.marks)
          (length c.gather.new.marks) c.loop-a.invariant.below c.requires.below (sym c.loop-a.invariant.marks)
          c.in_ok-row.ensures.length (omega (arith, lt, long)) made;
      clean = c.in_ok-row.ensures.clean;
      marks = c.in_ok-row.ensures.length ∙ c.loop-a.invariant.marks;
    }
