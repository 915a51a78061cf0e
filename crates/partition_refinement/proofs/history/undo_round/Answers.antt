use Rattle.std.proofs.Common.{◌≡◌, ℕ, ◌+◌, sym, subst, length, arith}
use Rattle.std.specs.Prelude.{slice_index}
use Rattle.partitions.specs.Layouts.{Layout}
use Rattle.partitions.specs.Views.{layout}
use Rattle.partition_refinement.specs.Firsts.{IsFirstOf}
use Rattle.partition_refinement.specs.steps.Working.{AreBorn, AreWritten}
use Rattle.partition_refinement.proofs.Counting.{counts_below, rounds_few}
use Rattle.partition_refinement.proofs.Undoing.{born_places, parted_from, round_undone}
use Rattle.partition_refinement.proofs.history.undo_round.Goals as goal

pub born-requires-clause-known : goal.born-requires-clause-known
born-requires-clause-known c =
    counts_below (layout c.args.parts.now) c.args.counts.now c.requires.laid c.requires.counts (c.args.round + 1)
    c.requires.round

pub born-requires-clause-parted : goal.born-requires-clause-parted
born-requires-clause-parted c =
    parted_from (layout c.args.parts.now) c.args.counts.now c.args.round c.requires.laid c.requires.counts
    (let l = c.requires.round in omega arith)

pub overflow_add-round : goal.overflow_add-round
overflow_add-round c =
    let few = rounds_few (layout c.args.parts.now) c.args.counts.now c.requires.laid c.requires.counts in
    let l = c.requires.round in
    omega arith

pub mark-requires : goal.mark-requires
mark-requires c =
    let p : Layout = layout c.args.parts.now in
    let low : ℕ = slice_index c.args.counts.now c.args.round in
    let high : ℕ = slice_index c.args.counts.now (c.args.round + 1) in
    born_places p low high (length c.args.rounds.now.items) c.deref.result.now
    (let l = c.requires.counts.rising c.args.round c.requires.round in omega arith)
    (subst (AreBorn p low high) (sym c.deref.ensures.value) c.in_ok-born.ensures.born)
    (let e = c.requires.back.marked.each in omega arith)

pub trace-requires-clause-known : goal.trace-requires-clause-known
trace-requires-clause-known c =
    counts_below (layout c.args.parts.now) c.args.counts.now c.requires.laid c.requires.counts (c.args.round + 1)
    c.requires.round

pub trace-requires-clause-parted : goal.trace-requires-clause-parted
trace-requires-clause-parted c =
    parted_from (layout c.args.parts.now) c.args.counts.now c.args.round c.requires.laid c.requires.counts
    (let l = c.requires.round in omega arith)

pub trace-requires-clause-places : goal.trace-requires-clause-places
trace-requires-clause-places c =
    let p : Layout = layout c.args.parts.now in
    let low : ℕ = slice_index c.args.counts.now c.args.round in
    let high : ℕ = slice_index c.args.counts.now (c.args.round + 1) in
    born_places p low high (length c.args.before.now.items) c.deref-3.result.now
    (let l = c.requires.counts.rising c.args.round c.requires.round in omega arith)
    (subst (AreBorn p low high) (sym c.deref-3.ensures.value) c.in_ok-born.ensures.born)
    (let e = c.requires.back.traced.each in omega arith)

pub returns : goal.returns
returns c =
    let p : Layout = layout c.args.parts.now in
    let low : ℕ = slice_index c.args.counts.now c.args.round in
    round_undone p c.args.counts.now c.requires.laid c.requires.counts c.args.round c.in_ok-born.born.items
    c.requires.round c.in_ok-born.ensures.born c.args.first_places.now.items c.born.new.first_places.items c.args.rounds.now.items
    c.mark.new.rounds.items c.args.before.now.items c.trace.new.before.items c.requires.back c.in_ok-born.ensures.length
    c.in_ok-born.ensures.first_places
    (subst (λ xs. AreWritten (λ _ v. v ≡ c.args.round + 1) c.args.rounds.now.items c.mark.new.rounds.items xs (length xs))
    c.deref.ensures.value c.mark.ensures)
    (subst (λ xs. AreWritten (IsFirstOf p low) c.args.before.now.items c.trace.new.before.items xs (length xs))
    c.deref-3.ensures.value c.trace.ensures)
