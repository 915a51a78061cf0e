use Rattle.std.proofs.Common.{◌≡◌, ◌≤◌, ℕ, List, sym, subst, length, take, arith}
use Rattle.std.specs.Prelude.{slice_index}
use Rattle.std.proofs.lemmas.List.{length-take-le}
use Rattle.partitions.specs.Views.{layout}
use Rattle.partition_refinement.specs.steps.Working.{AreWritten, IsBack}
use Rattle.partition_refinement.proofs.Counting.{counts_below, rounds_few}
use Rattle.partition_refinement.proofs.Undoing.{all_undone}
use Rattle.partition_refinement.proofs.history.undo_rounds.Goals as goal

pub overflow_cast-round : goal.overflow_cast-round
overflow_cast-round c =
    let few = rounds_few (layout c.args.parts.now) c.args.counts.now c.requires.laid c.requires.counts in omega arith

pub slice_bounds-mark-end : goal.slice_bounds-mark-end
slice_bounds-mark-end c =
    let below = counts_below (layout c.args.parts.now) c.args.counts.now c.requires.laid c.requires.counts 0
    c.requires.counts.some in
    let each = c.loop-round.invariant.back.each in
    let long = c.deref.ensures.len in
    let le : slice_index c.args.counts.now 0 ≤ length c.deref.result.now = omega arith in
    sym (length-take-le (slice_index c.args.counts.now 0) c.deref.result.now le)

pub returns : goal.returns
returns c =
    let n : ℕ = slice_index c.args.counts.now 0 in
    let done : c.loop-round.round ≡ 0 = let l = c.loop-round-test.false in omega arith in
    all_undone (layout c.args.parts.now) c.args.counts.now c.requires.laid c.requires.counts c.loop-round.first_places.items
    c.loop-round.rounds.items c.mark.new.rounds.items c.loop-round.before.items
    (subst (λ r. IsBack (layout c.args.parts.now) c.args.counts.now r c.loop-round.first_places.items c.loop-round.rounds.items
    c.loop-round.before.items) done c.loop-round.invariant.back)
    (subst (λ (xs : List ℕ). AreWritten (λ _ v. v ≡ 0) c.loop-round.rounds.items c.mark.new.rounds.items (take n xs)
    (length (take n xs))) c.deref.ensures.value c.mark.ensures)
