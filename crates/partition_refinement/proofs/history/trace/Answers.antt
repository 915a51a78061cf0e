use Rattle.std.proofs.Common.{ℕ, refl, subst, arith}
use Rattle.partitions.specs.Layouts.{Layout}
use Rattle.partitions.specs.Refinements.{Above}
use Rattle.partitions.specs.Views.{layout}
use Rattle.partition_refinement.specs.Firsts.{IsFirstOf}
use Rattle.partition_refinement.proofs.Counting.{above_less}
use Rattle.partition_refinement.proofs.Undoing.{led_back}
use Rattle.partition_refinement.proofs.Writing.{written_more}
use Rattle.partition_refinement.proofs.history.trace.Goals as goal

pub bounds-first_places-class : goal.bounds-first_places-class
bounds-first_places-class c =
    let p : Layout = layout c.args.parts.now in
    let l = above_less p.parent c.args.low _ c.climb-class.result c.climb-class.ensures in
    let known = c.requires.known in
    let order = c.requires.order in
    let length = c.requires.length in
    omega arith

pub loop-i-preserved : goal.loop-i-preserved
loop-i-preserved c =
    let p : Layout = layout c.args.parts.now in
    let i : ℕ = c.loop-i.i in
    written_more (IsFirstOf p c.args.low) c.args.before.now.items c.loop-i.before.items _ c.args.born.now i _ _
    (omega arith) c.loop-i.invariant refl (c.requires.places i (omega arith)) refl
    (led_back p c.args.low c.args.high i c.climb-class.result c.args.first_places.now c.args.born.now c.requires.order
    c.requires.born (omega arith) c.requires.first_places
    (subst (λ d. Above p.parent c.args.low d c.climb-class.result) c.parent-parent.ensures c.climb-class.ensures))
