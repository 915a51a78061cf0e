use Rattle.std.proofs.Common.{◌≡◌, ◌<◌, length, sym, subst}
use Rattle.std.specs.List.{All}
use Rattle.partitions.specs.Refinements.{IsPartedByPairs}
use Rattle.partitions.specs.Views.{layout}
use Rattle.split_checks.proofs.Grouping.{begun}
use Rattle.split_checks.proofs.group_walk.begin.Goals as goal

pub part_by_pairs-requires-clause-places : goal.part_by_pairs-requires-clause-places
part_by_pairs-requires-clause-places c =
    let copy : c.in_ok-to_vec.field-0.items ≡ c.args.run.now = c.in_ok-to_vec.ensures.items_if_clones_equal (λ a b h. h) in
    subst (λ n. All (λ a. a.place < n) c.in_ok-to_vec.field-0.items) (sym c.in_ok-parts.ensures.places)
    (subst (All (λ a. a.place < length c.args.numbers.now)) (sym copy) c.requires.places)

pub returns : goal.returns
returns c =
    let copy : c.in_ok-to_vec.field-0.items ≡ c.args.run.now = c.in_ok-to_vec.ensures.items_if_clones_equal (λ a b h. h) in
    begun c.args.numbers.now c.args.run.now (layout c.in_ok-parts.parts) (layout c.part_by_pairs.new.self)
    c.in_ok-parts.ensures
    (subst (IsPartedByPairs (layout c.in_ok-parts.parts) (layout c.part_by_pairs.new.self)) copy
    c.in_ok-part_by_pairs.ensures)
