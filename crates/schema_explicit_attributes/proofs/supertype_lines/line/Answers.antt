use Rattle.std.proofs.Common.{◌∙◌, ◌<◌, length, arith, map, get_or, sym, subst, All, ℕ, List}
use Rattle.graphs.proofs.RowLists.{row-is, row-stays, added-within, all-within}
use Rattle.schema_explicit_attributes.proofs.Tables.{line-next}
use Rattle.schema_explicit_attributes.proofs.supertype_lines.line.Goals as goal

pub add_new-requires-in-loop-b-clause-within : goal.add_new-requires-in-loop-b-clause-within
add_new-requires-in-loop-b-clause-within c =
    let lt : c.loop-b.b-index < length c.args.after.now = omega (arith, c.loop-b-test.true) in
    row-stays (λ v. v.items) c.args.table.now (get_or c.args.after.now c.loop-b.b-index 0) c.index-table-b.result
    c.deref.result.now (length c.args.marks.now) (length c.loop-b.marks) c.requires.table
    (c.requires.after c.loop-b.b-index 0 lt) c.index-table-b.is c.deref.ensures.value (sym c.loop-b.invariant.same)

pub loop-b-preserved : goal.loop-b-preserved
loop-b-preserved c =
    let lt : c.loop-b.b-index < length c.args.after.now = omega (arith, c.loop-b-test.true) in
    let at = get_or c.args.after.now c.loop-b.b-index 0 in
    let row = row-is (λ v. v.items) c.args.table.now at c.index-table-b.result c.deref.result.now
    (c.requires.after c.loop-b.b-index 0 lt) c.index-table-b.is c.deref.ensures.value in
    let below = row-stays (λ v. v.items) c.args.table.now at c.index-table-b.result c.deref.result.now
    (length c.args.marks.now) (length c.loop-b.marks) c.requires.table (c.requires.after c.loop-b.b-index 0 lt)
    c.index-table-b.is c.deref.ensures.value (sym c.loop-b.invariant.same) in
    record {
      line = line-next (map (λ v. v.items) c.args.table.now) c.args.after.now c.loop-b.found.items
          c.add_new-in-loop-b.new.found.items c.deref.result.now _ c.loop-b.b-index 0 lt row
          c.in_ok-add_new-2.ensures.added c.loop-b.invariant.line;
      marked = c.in_ok-add_new-2.ensures.marked;
      same = c.in_ok-add_new-2.ensures.length ∙ c.loop-b.invariant.same;
      within = added-within c.loop-b.found.items c.deref.result.now c.add_new-in-loop-b.new.found.items
          (length c.loop-b.marks) (length c.add_new-in-loop-b.new.marks) c.loop-b.invariant.within below
          c.in_ok-add_new-2.ensures.added c.in_ok-add_new-2.ensures.length;
    }

pub unmark-requires-clause-within : goal.unmark-requires-clause-within
unmark-requires-clause-within c =
    subst (λ (ys : List ℕ). All (λ y. y < length c.loop-b.marks) ys) (sym c.deref-2.ensures.value)
    (all-within c.loop-b.found.items (length c.loop-b.marks) c.loop-b.invariant.within)
