use Rattle.std.proofs.Common.{◌≡◌, ℕ, ◌<◌, ◌≤◌, List, map, length, get_or, arith, subst, ap}
use Rattle.graphs.specs.Rounds.{IsSearched, added}
use Rattle.graphs.proofs.Searching.{searched-all, longer}
use Rattle.graphs.proofs.RowLists.{row-within, begins, goes-on, item-within, each-within, few}
use Rattle.graphs.proofs.search.reached.Goals as goal

pub add_new-requires-clause-within : goal.add_new-requires-clause-within
add_new-requires-clause-within c =
    row-within (λ v. v.items) c.args.edges.now c.args.from c.index-edges-from.result c.deref.result.now
    (length c.args.marks.now) c.requires.graph c.requires.from c.index-edges-from.is c.deref.ensures.value
    c.requires.length

pub loop-at-init : goal.loop-at-init
loop-at-init c = record {
  searched = begins (λ v. v.items) c.args.edges.now c.args.from c.index-edges-from.result c.deref.result.now
      c.new-found.result.items c.add_new.new.found.items c.requires.from c.index-edges-from.is c.deref.ensures.value
      c.new-found.ensures.items c.in_ok-add_new.ensures.added;
  marked = c.in_ok-add_new.ensures.marked;
  same = omega (arith, c.in_ok-add_new.ensures.length, c.requires.length);
  within = omega arith;
}

pub bounds-edges-x : goal.bounds-edges-x
bounds-edges-x c = item-within (λ v. v.items) c.args.edges.now c.args.from c.loop-at.at c.loop-at.at c.index.result.now
    c.loop-at.found.items c.requires.graph c.loop-at.invariant.searched
    (omega (arith, c.loop-at-test.true, c.len.ensures)) c.index.ensures

pub add_new-requires-in-loop-at-clause-within : goal.add_new-requires-in-loop-at-clause-within
add_new-requires-in-loop-at-clause-within c =
    row-within (λ v. v.items) c.args.edges.now c.index.result.now c.index-edges-x.result c.deref-in-loop-at.result.now
    (length c.loop-at.marks) c.requires.graph
    (item-within (λ v. v.items) c.args.edges.now c.args.from c.loop-at.at c.loop-at.at c.index.result.now
    c.loop-at.found.items c.requires.graph c.loop-at.invariant.searched
    (omega (arith, c.loop-at-test.true, c.len.ensures)) c.index.ensures) c.index-edges-x.is
    c.deref-in-loop-at.ensures.value c.loop-at.invariant.same

pub loop-at-smaller : goal.loop-at-smaller
loop-at-smaller c =
    let many = few (λ v. v.items) c.args.edges.now c.args.from c.loop-at.at c.loop-at.found.items c.requires.graph
    c.loop-at.invariant.searched in
    let test = c.loop-at-test.true in
    omega (arith, many, test)

pub loop-at-preserved : goal.loop-at-preserved
loop-at-preserved c =
    let within = item-within (λ v. v.items) c.args.edges.now c.args.from c.loop-at.at c.loop-at.at c.index.result.now
    c.loop-at.found.items c.requires.graph c.loop-at.invariant.searched
    (omega (arith, c.loop-at-test.true, c.len.ensures)) c.index.ensures in
    let long : length c.loop-at.found.items ≤ length (added c.loop-at.found.items c.deref-in-loop-at.result.now) =
    longer c.loop-at.found.items c.deref-in-loop-at.result.now in
    let all : c.add_new-in-loop-at.new.found.items ≡ added c.loop-at.found.items c.deref-in-loop-at.result.now =
    c.in_ok-add_new-2.ensures.added in
    let many : length c.add_new-in-loop-at.new.found.items
    ≡ length (added c.loop-at.found.items c.deref-in-loop-at.result.now) = ap length all in
    record {
      searched = goes-on (λ v. v.items) c.args.edges.now c.args.from c.index-edges-x.result
          c.deref-in-loop-at.result.now c.loop-at.found.items c.add_new-in-loop-at.new.found.items c.loop-at.at
          c.index.result.now c.index.ensures (omega (arith, c.loop-at-test.true, c.len.ensures))
          c.loop-at.invariant.searched within c.index-edges-x.is c.deref-in-loop-at.ensures.value all;
      marked = c.in_ok-add_new-2.ensures.marked;
      same = omega (arith, c.in_ok-add_new-2.ensures.length, c.loop-at.invariant.same);
      within = let test = c.loop-at-test.true in omega (arith, long, many, test);
    }

pub unmark-requires-clause-within : goal.unmark-requires-clause-within
unmark-requires-clause-within c k d lt =
    let row : c.deref-2.result.now ≡ c.loop-at.found.items = c.deref-2.ensures.value in
    let bound : get_or c.loop-at.found.items k d < length c.args.edges.now =
    each-within (λ v. v.items) c.args.edges.now c.args.from c.loop-at.at k d c.loop-at.found.items c.requires.graph
    c.loop-at.invariant.searched (subst (λ (r : List ℕ). k < length r) row lt) in
    let here : get_or c.deref-2.result.now k d ≡ get_or c.loop-at.found.items k d =
    ap (λ (r : List ℕ). get_or r k d) row in
    let same = c.loop-at.invariant.same in
    omega (arith, bound, here, same)

pub returns-clause-reached : goal.returns-clause-reached
returns-clause-reached c =
    let over = c.loop-at-test.false in
    let within = c.loop-at.invariant.within in
    let last : c.loop-at.at ≡ length c.loop-at.found.items = omega (arith, over, within) in
    rw c.shrink_to_fit.ensures.items
    (searched-all (map (λ v. v.items) c.args.edges.now) c.args.from c.loop-at.found.items
    (subst (λ (n : ℕ). IsSearched (map (λ v. v.items) c.args.edges.now) c.args.from c.loop-at.found.items n) last
    c.loop-at.invariant.searched))
