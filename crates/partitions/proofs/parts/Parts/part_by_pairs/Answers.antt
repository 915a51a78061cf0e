use Rattle.std.proofs.Common.{List, ◌<◌, rules, subst, sym}
use Rattle.std.specs.List.{All}
use Rattle.std.proofs.lemmas.Result.{on_ok_weaker}
use Rattle.std.proofs.lemmas.List.Sorted.{All-permutation, answers_always}
use Rattle.partitions.specs.declared.pairs.Pair.{Pair}
use Rattle.partitions.specs.Layouts.{size}
use Rattle.partitions.specs.Refinements.{IsPartedByPairs}
use Rattle.partitions.specs.steps.Steps.{AreTogether, key_of}
use Rattle.partitions.specs.Views.{layout}
use Rattle.partitions.proofs.Keys.{parted_by_given}
use Rattle.partitions.proofs.Order.{together}
use Rattle.partitions.proofs.parts.Parts.part_by_pairs.Goals as goal

pub part_by_runs-requires-clause-places : goal.part_by_runs-requires-clause-places
part_by_runs-requires-clause-places c =
    subst (All (λ a. a.place < size (layout c.args.self.now))) (sym c.deref-2.ensures.value)
    (All-permutation (λ a. a.place < size (layout c.args.self.now)) c.args.pairs.items
    c.sort_unstable_by_key.new.self.items c.sort_unstable_by_key.ensures.permutation c.requires.places)

pub part_by_runs-requires-clause-together : goal.part_by_runs-requires-clause-together
part_by_runs-requires-clause-together c =
    subst AreTogether (sym c.deref-2.ensures.value) (together c.sort_unstable_by_key.new.self.items
    (c.sort_unstable_by_key.ensures.sorted key_of (answers_always _ _ _ (λ f a r g h. search rules))))

pub returns : goal.returns
returns c =
    let p = layout c.args.self.now in
    let q = layout c.part_by_runs.new.self in
    let ps : List Pair = c.sort_unstable_by_key.new.self.items in
    on_ok_weaker c.part_by_runs.result
    (λ h. parted_by_given p q c.args.pairs.items ps c.sort_unstable_by_key.ensures.permutation
    (subst (IsPartedByPairs p q) c.deref-2.ensures.value h)) c.part_by_runs.ensures
