use Rattle.std.proofs.Common.{◌≡◌, ◌<◌, length, arith, map, get_or, set, ◌∙◌, ap, refl}
use Rattle.std.proofs.lemmas.List.{length-set}
use Rattle.graphs.specs.Graphs.{next}
use Rattle.graphs.proofs.RowLists.{row-is, row-within, next-written, next-unwritten}
use Rattle.graphs.proofs.Gathered.{order-inside, solves-next}
use Rattle.schema_explicit_attributes.specs.SupertypeLines.{line_from}
use Rattle.schema_explicit_attributes.proofs.Tables.{table-below, line-so}
use Rattle.schema_explicit_attributes.proofs.supertype_lines.lines_along.Goals as goal

pub bounds-edges-a : goal.bounds-edges-a
bounds-edges-a c = order-inside (λ v. v.items) c.args.edges.now c.args.order.now c.loop-a.a-index c.requires.order
    (omega (arith, c.loop-a-test.true))

pub line-requires-clause-after : goal.line-requires-clause-after
line-requires-clause-after c =
    let lt = order-inside (λ v. v.items) c.args.edges.now c.args.order.now c.loop-a.a-index c.requires.order
    (omega (arith, c.loop-a-test.true)) in
    let whole : length c.deref.result.now ≡ length c.loop-a.table.items = ap length c.deref.ensures.value in
    row-within (λ v. v.items) c.args.edges.now (get_or c.args.order.now c.loop-a.a-index 0) c.index-edges-a.result
    c.deref-in-loop-a.result.now (length c.deref.result.now) c.requires.graph lt c.index-edges-a.is
    c.deref-in-loop-a.ensures.value (whole ∙ c.loop-a.invariant.long)

pub line-requires-clause-first : goal.line-requires-clause-first
line-requires-clause-first c =
    let lt = order-inside (λ v. v.items) c.args.edges.now c.args.order.now c.loop-a.a-index c.requires.order
    (omega (arith, c.loop-a-test.true)) in
    let same = c.loop-a.invariant.marks in
    let all = c.requires.marks in
    omega (arith, lt, same, all)

pub index_mut-requires : goal.index_mut-requires
index_mut-requires c =
    let lt = order-inside (λ v. v.items) c.args.edges.now c.args.order.now c.loop-a.a-index c.requires.order
    (omega (arith, c.loop-a-test.true)) in
    let long = c.loop-a.invariant.long in
    let count = c.deref.ensures.len in
    let whole : length c.deref.result.now ≡ length c.loop-a.table.items = ap length c.deref.ensures.value in
    omega (arith, lt, long, count, whole)

pub loop-a-preserved : goal.loop-a-preserved
loop-a-preserved c =
    let here : c.loop-a.a-index < length c.args.order.now = omega (arith, c.loop-a-test.true) in
    let lt = order-inside (λ v. v.items) c.args.edges.now c.args.order.now c.loop-a.a-index c.requires.order here in
    let x = get_or c.args.order.now c.loop-a.a-index 0 in
    let long = c.loop-a.invariant.long in
    let same = c.loop-a.invariant.marks in
    let all = c.requires.marks in
    let bs = next (map (λ v. v.items) c.args.edges.now) x in
    let edge = row-is (λ v. v.items) c.args.edges.now x c.index-edges-a.result c.deref-in-loop-a.result.now lt
    c.index-edges-a.is c.deref-in-loop-a.ensures.value in
    let made = line-so (λ v. v.items) c.deref.result.now c.loop-a.table.items x c.in_ok-row.row.items
    c.deref-in-loop-a.result.now bs c.in_ok-row.ensures.line c.deref.ensures.value edge in
    let written = next-written (λ v. v.items) c.loop-a.table.items x c.in_ok-row.row (omega (arith, lt, long)) in
    record {
      long = length-set c.loop-a.table.items x c.in_ok-row.row ∙ long;
      done = solves-next (map (λ v. v.items) c.args.edges.now) line_from
          (next (map (λ v. v.items) c.loop-a.table.items))
          (next (map (λ v. v.items) (set c.loop-a.table.items x c.in_ok-row.row))) c.args.order.now c.loop-a.a-index x
          c.requires.order.follows here refl c.loop-a.invariant.done (written ∙ made)
          (λ b ne. next-unwritten (λ v. v.items) c.loop-a.table.items x c.in_ok-row.row b ne);
      below = table-below (λ v. v.items) c.loop-a.table.items x c.in_ok-row.row bs (length c.loop-a.marks)
          (length c.line.new.marks) c.loop-a.invariant.below c.in_ok-row.ensures.length
          (omega (arith, lt, same, all)) (omega (arith, lt, long)) made;
      clean = c.in_ok-row.ensures.clean;
      marks = c.in_ok-row.ensures.length ∙ c.loop-a.invariant.marks;
    }
