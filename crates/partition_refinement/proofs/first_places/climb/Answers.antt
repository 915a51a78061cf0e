use Rattle.partitions.specs.Views.{layout}
use Rattle.partition_refinement.proofs.Climbing.{way_begins, way_goes_on, way_ends}
use Rattle.partition_refinement.proofs.first_places.climb.Goals as goal

pub loop-at-init : goal.loop-at-init
loop-at-init c = way_begins (layout c.args.parts.now) c.args.base c.args.class c.requires.known

pub loop-at-preserved : goal.loop-at-preserved
loop-at-preserved c =
    way_goes_on (layout c.args.parts.now) c.args.base c.args.class c.loop-at.at _ c.loop-at.invariant c.requires.parted
    c.loop-at-test.true c.parent-at.ensures

pub returns : goal.returns
returns c = way_ends (layout c.args.parts.now) c.args.base c.args.class c.loop-at.at c.loop-at.invariant c.loop-at-test.false
