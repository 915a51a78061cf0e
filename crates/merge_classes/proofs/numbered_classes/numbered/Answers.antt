use Rattle.std.proofs.Common.{◌-◌, ℕ, List, subst, arith}
use Rattle.partitions.specs.Layouts.{Layout}
use Rattle.partitions.specs.Views.{layout}
use Rattle.partition_refinement.specs.Numbers.{IsNumbering}
use Rattle.partition_refinement.proofs.Counting.{rounds_few}
use Rattle.merge_classes.proofs.Finding.{all_found}
use Rattle.merge_classes.proofs.numbered_classes.numbered.Goals as goal

pub overflow_cast-result : goal.overflow_cast-result
overflow_cast-result c =
    let p : Layout = layout c.args.parted.parts in
    let counts : List ℕ = c.args.parted.rounds.counts.items in
    let parted = c.requires.1 in
    let values = parted.values in
    let counted = c.refined_are_counted.ensures values.edges values.shapes parted.start p counts values.refined in
    let few = rounds_few p counts values.refined.laid counted in
    let long = c.len.ensures in
    omega (arith, few, long)

pub returns : goal.returns
returns c pinned parted =
    let p : Layout = layout c.args.parted.parts in
    let counts : List ℕ = c.args.parted.rounds.counts.items in
    let values = parted.values in
    let counted = c.refined_are_counted.ensures values.edges values.shapes parted.start p counts values.refined in
    let some = counted.some in
    let long = c.len.ensures in
    let numbering = c.in_ok-numbering.numbering in
    all_found c.args.input.now pinned parted.start p counts numbering.firsts.items
    numbering.origins.items numbering.members.items (c.len.result - 1) c.len-rows.ensures.population
    parted.kinds values counted
    (subst (λ ks. IsNumbering p ks numbering.firsts.items numbering.origins.items numbering.members.items)
    c.deref.ensures.value c.in_ok-numbering.ensures) (omega (arith, some, long))
