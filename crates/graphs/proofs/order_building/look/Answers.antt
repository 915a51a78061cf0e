use Rattle.std.proofs.Common.{◌≡◌, ℕ, ◌<◌, ◌≤◌, false, [], ◌∷◌, ◌++◌, Bool, List, map, length, get_or, set, sym, ap, subst, arith}
use Rattle.graphs.specs.Graphs.{has}
use Rattle.graphs.specs.Rounds.{AreMarkedUpTo}
use Rattle.graphs.specs.steps.Placings.{IsPlacing}
use Rattle.graphs.proofs.RowLists.{row-is, row-within}
use Rattle.graphs.proofs.Placed.{marked-is, grows-row, waits-row}
use Rattle.graphs.proofs.order_building.look.Goals as goal

pub first_unmarked-at-requires-clause-within : goal.first_unmarked-at-requires-clause-within
first_unmarked-at-requires-clause-within c =
    row-within (λ v. v.items) c.args.edges.now c.args.vertex c.index-edges-vertex.result c.deref.result.now
    (length c.args.marks.now) c.requires.graph c.requires.vertex c.index-edges-vertex.is c.deref.ensures.value
    c.requires.marks

pub first_unmarked-at-requires-clause-before : goal.first_unmarked-at-requires-clause-before
first_unmarked-at-requires-clause-before c =
    let same = row-is (λ v. v.items) c.args.edges.now c.args.vertex c.index-edges-vertex.result c.deref.result.now
    c.requires.vertex c.index-edges-vertex.is c.deref.ensures.value in
    subst (λ (row : List ℕ). AreMarkedUpTo c.args.marks.now row (get_or c.args.passed.now c.args.vertex 0)) (sym same)
    (c.requires.placing.passes c.args.vertex)

pub returns-then-at-len-clause-awaits : goal.returns-then-at-len-clause-awaits
returns-then-at-len-clause-awaits c n =
    let same = row-is (λ v. v.items) c.args.edges.now c.args.vertex c.index-edges-vertex.result c.deref.result.now
    c.requires.vertex c.index-edges-vertex.is c.deref.ensures.value in
    let long : length c.deref.result.now ≡ length c.index-edges-vertex.result.items = ap length c.deref.ensures.value in
    let test = c.if-at-len.true in
    let count = c.len.ensures in
    let lt : c.first_unmarked-at.result < length c.deref.result.now = omega (arith, long, test, count) in
    waits-row (λ v. v.items) c.args.edges.now c.args.order.now.items c.args.marks.now c.args.passed.now
    c.deref.result.now c.args.vertex c.first_unmarked-at.result n c.requires.graph c.requires.marks c.requires.placing
    same lt (c.first_unmarked-at.ensures.unmarked lt)

pub returns-clause-placing : goal.returns-clause-placing
returns-clause-placing c =
    let same = row-is (λ v. v.items) c.args.edges.now c.args.vertex c.index-edges-vertex.result c.deref.result.now
    c.requires.vertex c.index-edges-vertex.is c.deref.ensures.value in
    let long : length c.deref.result.now ≡ length c.index-edges-vertex.result.items = ap length c.deref.ensures.value in
    let test = c.if-at-len.false in
    let count = c.len.ensures in
    let le : length c.deref.result.now ≤ c.first_unmarked-at.result = omega (arith, long, test, count) in
    let each = c.requires.marks in
    let vertex = c.requires.vertex in
    let new : has c.args.order.now.items c.args.vertex ≡ false =
    marked-is (λ v. v.items) c.args.edges.now c.args.order.now.items c.args.marks.now c.args.passed.now c.args.vertex _
    false c.requires.placing (omega (arith, each, vertex)) c.if-marks-vertex.false in
    let grown = grows-row (λ v. v.items) c.args.edges.now c.args.order.now.items c.args.marks.now c.args.passed.now
    c.deref.result.now c.args.vertex c.first_unmarked-at.result c.requires.graph c.requires.marks c.requires.passed
    c.requires.placing c.requires.vertex new same c.first_unmarked-at.ensures.passed le in
    let passed = set c.args.passed.now c.args.vertex c.first_unmarked-at.result in
    subst (λ (order : List ℕ). IsPlacing (map (λ v. v.items) c.args.edges.now) order c.put.new.marks passed)
    (sym c.in_ok-put.ensures.order)
    (subst (λ (marks : List Bool). IsPlacing (map (λ v. v.items) c.args.edges.now)
    (c.args.order.now.items ++ c.args.vertex ∷ []) marks passed) (sym c.in_ok-put.ensures.marks) grown)
