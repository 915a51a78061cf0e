use Rattle.std.proofs.Common.{◌≡◌, ℕ, Bool, List, [], map, length, arith, ◌∙◌, sym, ap, subst, true, eqb, ◌↔◌}
use Rattle.std.specs.List.{IsDistinct}
use Rattle.graphs.specs.Graphs.{has, Reaches}
use Rattle.graphs.specs.Rounds.{AreMarks}
use Rattle.graphs.proofs.RowLists.{rows-more, written, closes}
use Rattle.graphs.proofs.closures.closure.Goals as goal

pub loop-from-preserved : goal.loop-from-preserved
loop-from-preserved c =
    let lent : length c.deref_mut.result.now ≡ length c.loop-from.marks.items = ap length c.deref_mut.ensures.value in
    let count = c.deref_mut.ensures.len in
    let whole : c.loop-from.marks.len ≡ length c.loop-from.marks.items = omega (arith, lent, count) in
    let kept = c.in_ok-row.ensures.length in
    let long : length c.reached.new.marks ≡ length c.loop-from.marks.items = omega (arith, lent, kept) in
    let back = written c.reached.new.marks c.loop-from.marks.items c.loop-from.marks.len long whole in
    record {
      clean = subst (λ (marks : List Bool). AreMarks marks []) (sym back) c.in_ok-row.ensures.clean;
      same = ap length back ∙ long ∙ c.loop-from.invariant.same;
      long = omega (arith, c.in_ok-push.ensures.len, c.loop-from.invariant.long);
      reached = rows-more (λ v. v.items)
          (λ a row. (b : ℕ) → has row b ≡ true ↔ Reaches (map (λ v. v.items) c.args.edges.now) a b)
          c.loop-from.rows.items c.push.new.self.items c.in_ok-row.row c.loop-from.from c.loop-from.invariant.long
          c.in_ok-push.ensures.items c.loop-from.invariant.reached c.in_ok-row.ensures.reached;
      once = rows-more (λ v. v.items) (λ a row. IsDistinct eqb row) c.loop-from.rows.items c.push.new.self.items
          c.in_ok-row.row c.loop-from.from c.loop-from.invariant.long c.in_ok-push.ensures.items
          c.loop-from.invariant.once c.in_ok-row.ensures.once;
    }

pub returns : goal.returns
returns c =
    let test = c.loop-from-test.false in
    let end = c.loop-from.auto.from-end in
    let last : c.loop-from.from ≡ length c.args.edges.now = omega (arith, test, end) in
    closes (λ v. v.items) c.args.edges.now c.loop-from.rows.items c.loop-from.from last c.loop-from.invariant.long
    c.loop-from.invariant.reached c.loop-from.invariant.once
