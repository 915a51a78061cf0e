use Rattle.std.proofs.Common.{◌≡◌, ◌≤◌, ◌∙◌, ap, sym, subst, arith, length, rules, vec_len}
use Rattle.std.specs.List.{sum_by}
use Rattle.std.proofs.lemmas.List.{drop_all}
use Rattle.value_equality.specs.Views.{row_seen}
use Rattle.step_values.specs.Shapes.{outside_each}
use Rattle.row_signatures.specs.steps.ComputedReferences.{AddsEdges, AreOfFirst}
use Rattle.row_signatures.proofs.Referring.{added_count, all_refer, are_edges, counted_from, of_none, of_one_more, reference_count, references_named, targets_inside}
use Rattle.row_signatures.proofs.references.references.Goals as goal

pub loop-place-init : goal.loop-place-init
loop-place-init c =
    let empty = ap length c.in_ok-edges.ensures.items in
    record {
      edges = subst (AreOfFirst c.args.input.now 0) (sym c.in_ok-edges.ensures.items) (of_none c.args.input.now);
      count = omega (arith, empty);
    }

pub push_each-requires-clause-named : goal.push_each-requires-clause-named
push_each-requires-clause-named c =
    references_named c.args.input.now c.len-place-end.ensures.population c.loop-place.place (row_seen c.row-row.result)
    c.row-row.ensures

pub loop-place-preserved : goal.loop-place-preserved
loop-place-preserved c =
    let rows = c.args.input.now in
    let r = row_seen c.row-row.result in
    let old = c.loop-place.edges.items in
    let new = c.push_each.new.edges.items in
    let whole : length old ≡ vec_len c.loop-place.edges = search rules in
    let adds = subst (λ k. AddsEdges rows c.loop-place.place k (outside_each r.values) old new)
    (c.len-first.ensures ∙ sym whole) c.in_ok-push_each.ensures in
    let more = added_count rows c.loop-place.place (length old) (outside_each r.values) old new adds in
    let count = c.loop-place.invariant.count in
    let rest = counted_from rows c.loop-place.place r c.row-row.ensures in
    record {
      edges = of_one_more rows c.len-place-end.ensures.population.distinct c.loop-place.place r c.row-row.ensures old new
          c.loop-place.invariant.edges adds;
      count = omega (arith, count, more, rest);
    }

pub returns-clause-references : goal.returns-clause-references
returns-clause-references c =
    let past = c.loop-place-test.false in
    let count = c.len-place-end.ensures.length in
    let whole : length c.args.input.now ≤ c.loop-place.place = omega (arith, past, count) in
    all_refer c.args.input.now c.loop-place.place whole c.loop-place.edges.items c.loop-place.invariant.edges

pub returns-clause-edges : goal.returns-clause-edges
returns-clause-edges c =
    are_edges c.args.input.now c.len-place-end.ensures.population.distinct c.loop-place.edges.items
    (returns-clause-references c)

pub returns-clause-count : goal.returns-clause-count
returns-clause-count c =
    let past = c.loop-place-test.false in
    let count = c.len-place-end.ensures.length in
    let whole : length c.args.input.now ≤ c.loop-place.place = omega (arith, past, count) in
    let rest = ap (sum_by reference_count) (drop_all c.loop-place.place c.args.input.now whole) in
    let all = c.loop-place.invariant.count in
    omega (arith, all, rest)

pub returns-clause-targets : goal.returns-clause-targets
returns-clause-targets c =
    targets_inside (length c.args.input.now) c.loop-place.edges.items (returns-clause-edges c)
