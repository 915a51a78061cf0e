use Rattle.std.proofs.Common.{◌≡◌, subst, arith}
use Rattle.partitions.specs.Views.{layout}
use Rattle.partition_refinement.proofs.Leading.{AreFirstFrom, leads_all}
use Rattle.partition_refinement.proofs.first_places.first_places.Goals as goal

pub returns-clause-first_places : goal.returns-clause-first_places
returns-clause-first_places c =
    let done : c.loop-place.place ≡ 0 = omega arith in
    leads_all (layout c.args.parts.now) c.loop-place.first_places.items c.requires
    (subst (λ i. AreFirstFrom (layout c.args.parts.now) i c.loop-place.first_places.items) done c.loop-place.invariant.from)
