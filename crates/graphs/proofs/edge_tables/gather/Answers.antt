use Rattle.std.proofs.Common.{◌≡◌, ◌∙◌, ◌<◌, length, arith, map, get_or, sym, subst, All, ℕ, List}
use Rattle.graphs.proofs.RowLists.{row-is, row-stays, added-within, all-within}
use Rattle.graphs.proofs.Gathered.{gather-next}
use Rattle.graphs.proofs.edge_tables.gather.Goals as goal

pub add_new-requires-clause-within : goal.add_new-requires-clause-within
add_new-requires-clause-within c =
    let lt : c.loop-b.b-index < length c.args.after.now = omega (arith, c.loop-b-test.true) in
    row-stays (λ v. v.items) c.args.table.now (get_or c.args.after.now c.loop-b.b-index 0) c.index-table-b.result
    c.deref.result.now (length c.args.marks.now) (length c.loop-b.marks) c.requires.table
    (c.requires.after c.loop-b.b-index 0 lt) c.index-table-b.is c.deref.ensures.value (sym c.loop-b.invariant.same)

pub loop-b-preserved : goal.loop-b-preserved
loop-b-preserved c =
    let lt : c.loop-b.b-index < length c.args.after.now = omega (arith, c.loop-b-test.true) in
    let at = get_or c.args.after.now c.loop-b.b-index 0 in
    let row = row-is (λ v. v.items) c.args.table.now at c.index-table-b.result c.deref.result.now
    (c.requires.after c.loop-b.b-index 0 lt) c.index-table-b.is c.deref.ensures.value in
    let below = row-stays (λ v. v.items) c.args.table.now at c.index-table-b.result c.deref.result.now
    (length c.args.marks.now) (length c.loop-b.marks) c.requires.table (c.requires.after c.loop-b.b-index 0 lt)
    c.index-table-b.is c.deref.ensures.value (sym c.loop-b.invariant.same) in
    record {
      joined = gather-next (map (λ v. v.items) c.args.table.now) c.args.after.now c.args.own.now c.loop-b.found.items
          c.add_new.new.found.items c.deref.result.now _ c.loop-b.b-index 0 lt row c.in_ok-add_new.ensures.added
          c.loop-b.invariant.joined;
      marked = c.in_ok-add_new.ensures.marked;
      same = c.in_ok-add_new.ensures.length ∙ c.loop-b.invariant.same;
      within = added-within c.loop-b.found.items c.deref.result.now c.add_new.new.found.items (length c.loop-b.marks)
          (length c.add_new.new.marks) c.loop-b.invariant.within below c.in_ok-add_new.ensures.added
          c.in_ok-add_new.ensures.length;
    }

pub unmark-requires-clause-within : goal.unmark-requires-clause-within
unmark-requires-clause-within c =
    let found : c.deref-2.result.now ≡ c.add_new-2.new.found.items = c.deref-2.ensures.value in
    let own : All (λ y. y < length c.loop-b.marks) c.args.own.now =
    (λ k d lt. (let low = c.requires.own k d lt in let same = c.loop-b.invariant.same in omega (arith, low, same))) in
    let all = added-within c.loop-b.found.items c.args.own.now c.add_new-2.new.found.items (length c.loop-b.marks)
    (length c.add_new-2.new.marks) c.loop-b.invariant.within own c.in_ok-add_new-2.ensures.added
    c.in_ok-add_new-2.ensures.length in
    subst (λ (ys : List ℕ). All (λ y. y < length c.add_new-2.new.marks) ys) (sym found)
    (all-within c.add_new-2.new.found.items (length c.add_new-2.new.marks) all)
