use Rattle.std.proofs.Common.{◌≡◌, ◌<◌, ◌∙◌, ℕ, None, length, map, get_or, set, ap, refl, sym, arith, false}
use Rattle.std.proofs.lemmas.List.{length-set}
use Rattle.graphs.proofs.Gathered.{order-inside, solves-next, elsewhere-next, set-here, set-elsewhere}
use Rattle.graphs.specs.Graphs.{next}
use Rattle.schema_derived_attributes.specs.steps.Tables.{rank_from}
use Rattle.graphs.proofs.RowLists.{row-is, row-within}
use Rattle.schema_derived_attributes.proofs.Above.{made-so, low-next, rank-bounded}
use Rattle.schema_derived_attributes.proofs.ranks.ranks_along.Goals as goal

pub bounds-uses-a : goal.bounds-uses-a
bounds-uses-a c = order-inside (λ v. v.items) c.args.uses.now c.args.order.now c.loop-a.a-index c.requires.order
    (omega (arith, c.loop-a-test.true))

pub bounds-faulty-a : goal.bounds-faulty-a
bounds-faulty-a c =
    let lt = order-inside (λ v. v.items) c.args.uses.now c.args.order.now c.loop-a.a-index c.requires.order
    (omega (arith, c.loop-a-test.true)) in
    let same = c.requires.faulty in omega (arith, lt, same)

pub rank-above-requires-clause-within : goal.rank-above-requires-clause-within
rank-above-requires-clause-within c =
    let lt = order-inside (λ v. v.items) c.args.uses.now c.args.order.now c.loop-a.a-index c.requires.order
    (omega (arith, c.loop-a-test.true)) in
    let whole : length c.deref.result.now ≡ length c.loop-a.ranks.items = ap length c.deref.ensures.value in
    row-within (λ v. v.items) c.args.uses.now (get_or c.args.order.now c.loop-a.a-index 0) c.index-uses-a.result
    c.deref-in-loop-a.result.now (length c.deref.result.now) c.requires.graph lt c.index-uses-a.is
    c.deref-in-loop-a.ensures.value (whole ∙ c.loop-a.invariant.long)

pub rank-above-requires-clause-room : goal.rank-above-requires-clause-room
rank-above-requires-clause-room c b r e =
    let here : c.loop-a.a-index < length c.args.order.now = omega (arith, c.loop-a-test.true) in
    let few = c.requires.few in
    let low = c.loop-a.invariant.low b r (ap (λ xs. get_or xs b None) (sym c.deref.ensures.value) ∙ e) in
    omega (arith, here, few, low)

pub index_mut-requires : goal.index_mut-requires
index_mut-requires c =
    let lt = order-inside (λ v. v.items) c.args.uses.now c.args.order.now c.loop-a.a-index c.requires.order
    (omega (arith, c.loop-a-test.true)) in
    let long = c.loop-a.invariant.long in
    let count = c.deref.ensures.len in
    let whole : length c.deref.result.now ≡ length c.loop-a.ranks.items = ap length c.deref.ensures.value in
    omega (arith, lt, long, count, whole)

pub loop-a-preserved : goal.loop-a-preserved
loop-a-preserved c =
    let here : c.loop-a.a-index < length c.args.order.now = omega (arith, c.loop-a-test.true) in
    let lt = order-inside (λ v. v.items) c.args.uses.now c.args.order.now c.loop-a.a-index c.requires.order here in
    let x = get_or c.args.order.now c.loop-a.a-index 0 in
    let long = c.loop-a.invariant.long in
    let ranks = c.loop-a.ranks.items in
    let g = map (λ v. v.items) c.args.uses.now in
    let new = set ranks x c.rank-above.result in
    let edge = row-is (λ v. v.items) c.args.uses.now x c.index-uses-a.result c.deref-in-loop-a.result.now lt
    c.index-uses-a.is c.deref-in-loop-a.ensures.value in
    let made = made-so c.args.faulty.now x ranks c.deref.result.now c.deref-in-loop-a.result.now (next g x)
    c.rank-above.result c.rank-above.ensures c.deref.ensures.value edge in
    let other : (b : ℕ) → (b ≡ x → ⊥) → get_or new b None ≡ get_or ranks b None =
    λ b ne. set-elsewhere ranks x c.rank-above.result b None ne in
    record {
      long = length-set ranks x c.rank-above.result ∙ long;
      done = solves-next g (rank_from c.args.faulty.now) (λ b. get_or ranks b None) (λ b. get_or new b None)
          c.args.order.now c.loop-a.a-index x c.requires.order.follows here refl c.loop-a.invariant.done
          (set-here ranks x c.rank-above.result None (omega (arith, lt, long)) ∙ made) other;
      others = elsewhere-next (λ b. get_or ranks b None) (λ b. get_or new b None) None c.args.order.now
          c.loop-a.a-index x here refl c.loop-a.invariant.others other;
      low = low-next ranks x c.rank-above.result c.loop-a.a-index c.loop-a.invariant.low
          (rank-bounded (λ b. get_or ranks b None) (get_or c.args.faulty.now x false) (next g x) c.rank-above.result
          c.loop-a.a-index c.loop-a.invariant.low made);
    }
