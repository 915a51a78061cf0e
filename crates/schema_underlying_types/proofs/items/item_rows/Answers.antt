use Rattle.std.proofs.Common.{◌≡◌, ◌∙◌, ℕ, List, length, ap, sym, subst, map, arith}
use Rattle.std.proofs.lemmas.List.{length-map}
use Rattle.std.specs.List.Sorted.{IsNonDecreasing}
use Rattle.graphs.specs.Graphs.{Graph, has, next, graph_of, IsGraph, IsAcyclic, StaysBelow}
use Rattle.graphs.proofs.RowLists.{row-is, rows-more}
use Rattle.schema_data_types.specs.steps.Gathering.{IsGathered}
use Rattle.schema_underlying_types.specs.BaseEntries.{opened}
use Rattle.schema_underlying_types.proofs.Rows.{opened-graph, opened-acyclic, own-stay, are-items}
use Rattle.schema_underlying_types.proofs.items.item_rows.Goals as goal

pub gathered-requires-clause-graph : goal.gathered-requires-clause-graph
gathered-requires-clause-graph c =
    let g : Graph = graph_of c.args.edges.now in
    let o : Graph = graph_of c.in_ok-opened.opened.items in
    let same : length o ≡ length g = length-map c.in_ok-opened.opened.items (λ v. v.items)
    ∙ c.in_ok-opened.ensures.length ∙ sym (length-map c.args.edges.now (λ v. v.items)) in
    subst (λ rows. IsGraph (graph_of rows)) (sym c.deref.ensures.value)
    (opened-graph c.args.declared.now g o c.in_ok-opened.ensures.rows same c.requires.graph)

pub gathered-requires-clause-acyclic : goal.gathered-requires-clause-acyclic
gathered-requires-clause-acyclic c =
    subst (λ rows. IsAcyclic (graph_of rows)) (sym c.deref.ensures.value)
    (opened-acyclic c.args.declared.now (graph_of c.args.edges.now) (graph_of c.in_ok-opened.opened.items)
    c.in_ok-opened.ensures.rows c.requires.acyclic)

pub gathered-requires-clause-own : goal.gathered-requires-clause-own
gathered-requires-clause-own c =
    ap length c.deref-2.ensures.value ∙ c.in_ok-own.ensures.length
    ∙ sym (ap length c.deref.ensures.value ∙ c.in_ok-opened.ensures.length)

pub gathered-requires-clause-below : goal.gathered-requires-clause-below
gathered-requires-clause-below c =
    subst (λ rows. StaysBelow (length c.args.edges.now) (graph_of rows)) (sym c.deref-2.ensures.value)
    (own-stay c.args.declared.now (graph_of c.in_ok-own.own.items) (length c.args.edges.now)
    (length-map c.in_ok-own.own.items (λ v. v.items) ∙ c.in_ok-own.ensures.length) c.in_ok-own.ensures.rows)

pub loop-i-preserved : goal.loop-i-preserved
loop-i-preserved c =
    let xs = c.in_ok-found.found.items in
    let i = c.loop-i.i in
    let declared = c.args.declared.now in
    let row = row-is (λ v. v.items) xs i c.index.result.now c.deref-in-loop-i.result.now
    (omega (arith, c.loop-i-test.true)) c.index.ensures c.deref-in-loop-i.ensures.value in
    record {
      long = omega (arith, c.in_ok-push.ensures.len, c.loop-i.invariant.long);
      items = rows-more (λ v. v.items)
          (λ a r. (j : ℕ) → has r j ≡ has (opened declared a (next (map (λ v. v.items) xs) a)) j)
          c.loop-i.rows.items c.push.new.self.items c.in_ok-row.row i c.loop-i.invariant.long c.in_ok-push.ensures.items
          c.loop-i.invariant.items
          (λ j. c.in_ok-row.ensures.items j ∙ ap (λ (r : List ℕ). has (opened declared i r) j) row);
      sorted = rows-more (λ v. v.items) (λ a r. IsNonDecreasing r) c.loop-i.rows.items c.push.new.self.items
          c.in_ok-row.row i c.loop-i.invariant.long c.in_ok-push.ensures.items c.loop-i.invariant.sorted
          c.in_ok-row.ensures.sorted;
    }

pub returns : goal.returns
returns c =
    let test = c.loop-i-test.false in
    let end = c.loop-i.auto.i-end in
    let all = c.loop-i.invariant.long in
    let g : Graph = graph_of c.args.edges.now in
    let o : Graph = graph_of c.in_ok-opened.opened.items in
    let own : Graph = graph_of c.in_ok-own.own.items in
    let found : Graph = graph_of c.in_ok-found.found.items in
    let rows : Graph = graph_of c.loop-i.rows.items in
    let edges : length g ≡ length c.args.edges.now = length-map c.args.edges.now (λ v. v.items) in
    let same : length o ≡ length g = length-map c.in_ok-opened.opened.items (λ v. v.items)
    ∙ c.in_ok-opened.ensures.length ∙ sym edges in
    let gathers : IsGathered o (next own) found =
    subst (λ xs. IsGathered o (next (graph_of xs)) found) c.deref-2.ensures.value
    (subst (λ xs. IsGathered (graph_of xs) (next (graph_of c.deref-2.result.now)) found) c.deref.ensures.value
    c.in_ok-found.ensures) in
    let many : length rows ≡ length c.loop-i.rows.items = length-map c.loop-i.rows.items (λ v. v.items) in
    let count : length found ≡ length c.in_ok-found.found.items = length-map c.in_ok-found.found.items (λ v. v.items) in
    let long : length rows ≡ length o = let each = gathers.same in omega (arith, test, end, all, many, count, each) in
    are-items c.args.declared.now g o c.in_ok-opened.ensures.rows own found rows
    (opened-graph c.args.declared.now g o c.in_ok-opened.ensures.rows same c.requires.graph)
    (λ i lt. c.in_ok-own.ensures.rows i (omega (arith, lt, same, edges))) gathers long
    (λ i lt. c.loop-i.invariant.items i (omega (arith, lt, many, all)))
    (λ i lt. c.loop-i.invariant.sorted i (omega (arith, lt, many, all)))
