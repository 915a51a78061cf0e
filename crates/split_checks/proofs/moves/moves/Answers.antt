use Rattle.std.proofs.Common.{rules, length, subst, sym}
use Rattle.std.specs.Prelude.{slice_index}
use Rattle.std.proofs.lemmas.List.Sorted.{IsNonDecreasingBy-from_sort_by_key}
use Rattle.split_checks.specs.steps.Births.{AreBirths}
use Rattle.split_checks.specs.steps.ComputedUndoing.{Starts}
use Rattle.split_checks.proofs.Moved.{all_moves, births_moved}
use Rattle.split_checks.proofs.moves.moves.Goals as goal

pub undo_all-requires-clause-births : goal.undo_all-requires-clause-births
undo_all-requires-clause-births c =
    subst (λ k. AreBirths k c.sort_unstable_by_key.new.self.items) (sym c.in_ok-lists.ensures.length)
    (births_moved c.args.classes c.args.births.items c.sort_unstable_by_key.new.self.items
    c.sort_unstable_by_key.ensures.permutation c.requires.births)

pub undo_all-requires-clause-sorted : goal.undo_all-requires-clause-sorted
undo_all-requires-clause-sorted c =
    IsNonDecreasingBy-from_sort_by_key (λ b. b.round) _ c.sort_unstable_by_key.ensures.sorted
    (λ a r q k. search rules)

pub returns : goal.returns
returns c =
    all_moves c.args.births.items c.sort_unstable_by_key.new.self.items c.args.last.now c.undo_all.new.lists.items
    c.undo_all.new.moves.items c.push_starts.new.moves.items c.sort_unstable_by_key.ensures.permutation
    (c.in_ok-undo_all.ensures (length c.args.last.now) (slice_index c.args.last.now) c.in_ok-lists.ensures.hold)
    (subst (λ ls. Starts ls c.undo_all.new.moves.items c.push_starts.new.moves.items) c.deref.ensures.value
    c.in_ok-push_starts.ensures)
