use Rattle.std.proofs.Common.{ℕ, [], ◌∷◌, ◌++◌, ap, ◌∙◌, arith}
use Rattle.partitions.specs.Layouts.{Layout}
use Rattle.partitions.specs.Views.{layout}
use Rattle.partition_refinement.proofs.Turns.{first_turn, next_turn, ends}
use Rattle.partition_refinement.proofs.refinement.refine.Goals as goal

pub loop-high-init : goal.loop-high-init
loop-high-init c =
    let start : Layout = layout c.args.parts.now in
    let k : ℕ = c.class_count-high.result in (
      start,
      first_turn c.args.edges.now c.args.shapes.now start (layout c.first_round.new.parts) k _
          c.requires.laid c.class_count-high.ensures
          (c.in_ok-push.ensures.items ∙ ap (λ l. l ++ k ∷ []) c.new-counts.ensures.items) c.in_ok-first_round.ensures,
    )

pub loop-high-preserved : goal.loop-high-preserved
loop-high-preserved c =
    let start : Layout = layout c.args.parts.now in
    let now : Layout = layout c.loop-high.parts in
    let k : ℕ = c.class_count-high-in-loop-high.result in
    let one = c.class_count.ensures in
    let two = c.class_count-high-in-loop-high.ensures in
    let test = c.loop-high-test.true in (
      now,
      next_turn c.args.edges.now c.args.shapes.now start c.loop-high.invariant.0 now
          (layout c.next_round.new.parts) c.loop-high.counts.items _ c.loop-high.high k c.requires.edges
          c.loop-high.invariant.1 (omega arith) two c.in_ok-push-2.ensures.items c.in_ok-next_round.ensures,
    )

pub returns : goal.returns
returns c =
    let start : Layout = layout c.args.parts.now in
    let now : Layout = layout c.loop-high.parts in
    let one = c.class_count.ensures in
    let test = c.loop-high-test.false in
    ends c.args.edges.now c.args.shapes.now start c.loop-high.invariant.0 now c.loop-high.counts.items
    c.loop-high.high c.requires.edges c.loop-high.invariant.1 (omega arith)
