use Rattle.std.proofs.Common.{◌≡◌, ◌<◌, ◌≤◌, ◌+◌, ◌∙◌, length, map, get_or, set, ap, refl, arith}
use Rattle.std.proofs.lemmas.List.{length-set}
use Rattle.graphs.specs.Orders.{above}
use Rattle.graphs.proofs.Gathered.{order-inside, elsewhere-next, set-elsewhere}
use Rattle.graphs.proofs.Ranks.{above-bounded, low-next, ranks-next}
use Rattle.graphs.proofs.RowLists.{row-is, row-within}
use Rattle.graphs.proofs.ranking.ranks.Goals as goal

pub bounds-edges-a : goal.bounds-edges-a
bounds-edges-a c = order-inside (λ v. v.items) c.args.edges.now c.args.order.now c.loop-a.a-index c.requires.order
    (omega (arith, c.loop-a-test.true))

pub rank_above-rank-requires-clause-within : goal.rank_above-rank-requires-clause-within
rank_above-rank-requires-clause-within c =
    let lt = order-inside (λ v. v.items) c.args.edges.now c.args.order.now c.loop-a.a-index c.requires.order
    (omega (arith, c.loop-a-test.true)) in
    let whole : length c.deref.result.now ≡ length c.loop-a.ranks.items = ap length c.deref.ensures.value in
    row-within (λ v. v.items) c.args.edges.now (get_or c.args.order.now c.loop-a.a-index 0) c.index-edges-a.result
    c.deref-in-loop-a.result.now (length c.deref.result.now) c.requires.graph lt c.index-edges-a.is
    c.deref-in-loop-a.ensures.value (whole ∙ c.loop-a.invariant.long)

pub index_mut-requires : goal.index_mut-requires
index_mut-requires c =
    let lt = order-inside (λ v. v.items) c.args.edges.now c.args.order.now c.loop-a.a-index c.requires.order
    (omega (arith, c.loop-a-test.true)) in
    let long = c.loop-a.invariant.long in
    let count = c.deref.ensures.len in
    let whole : length c.deref.result.now ≡ length c.loop-a.ranks.items = ap length c.deref.ensures.value in
    omega (arith, lt, long, count, whole)

pub loop-a-preserved : goal.loop-a-preserved
loop-a-preserved c =
    let here : c.loop-a.a-index < length c.args.order.now = omega (arith, c.loop-a-test.true) in
    let lt = order-inside (λ v. v.items) c.args.edges.now c.args.order.now c.loop-a.a-index c.requires.order here in
    let x = get_or c.args.order.now c.loop-a.a-index 0 in
    let long = c.loop-a.invariant.long in
    let edge = row-is (λ v. v.items) c.args.edges.now x c.index-edges-a.result c.deref-in-loop-a.result.now lt
    c.index-edges-a.is c.deref-in-loop-a.ensures.value in
    let same : c.deref.result.now ≡ c.loop-a.ranks.items = c.deref.ensures.value in
    let is : c.rank_above-rank.result ≡ above (map (λ b. get_or c.deref.result.now b 0) c.deref-in-loop-a.result.now) =
    c.rank_above-rank.ensures in
    let bound : above (map (λ b. get_or c.loop-a.ranks.items b 0) c.deref-in-loop-a.result.now) ≤ c.loop-a.a-index + 1 =
    above-bounded (λ b. get_or c.loop-a.ranks.items b 0) c.deref-in-loop-a.result.now c.loop-a.a-index
    c.loop-a.invariant.low in
    let turn : above (map (λ b. get_or c.deref.result.now b 0) c.deref-in-loop-a.result.now)
    ≡ above (map (λ b. get_or c.loop-a.ranks.items b 0) c.deref-in-loop-a.result.now) =
    ap (λ ls. above (map (λ b. get_or ls b 0) c.deref-in-loop-a.result.now)) same in
    record {
      long = length-set c.loop-a.ranks.items x c.rank_above-rank.result ∙ long;
      done = ranks-next (map (λ v. v.items) c.args.edges.now) c.args.order.now c.loop-a.ranks.items c.deref.result.now
          c.deref-in-loop-a.result.now c.loop-a.a-index x c.rank_above-rank.result c.requires.order.follows here refl
          (omega (arith, lt, long)) c.loop-a.invariant.done is same edge;
      others = elsewhere-next (λ b. get_or c.loop-a.ranks.items b 0)
          (λ b. get_or (set c.loop-a.ranks.items x c.rank_above-rank.result) b 0) 0 c.args.order.now c.loop-a.a-index x
          here refl c.loop-a.invariant.others
          (λ b ne. set-elsewhere c.loop-a.ranks.items x c.rank_above-rank.result b 0 ne);
      low = low-next c.loop-a.ranks.items x c.rank_above-rank.result c.loop-a.a-index c.loop-a.invariant.low
          (omega (arith, is, bound, turn));
    }
