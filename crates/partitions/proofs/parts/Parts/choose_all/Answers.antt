use Rattle.std.proofs.Common.{refl}
use Rattle.partitions.specs.Views.{layout}
use Rattle.partitions.proofs.Sets.{chooses_more}
use Rattle.partitions.proofs.parts.Parts.choose_all.Goals as goal

pub loop-place-preserved : goal.loop-place-preserved
loop-place-preserved c =
    chooses_more (layout c.args.self.now) (layout c.loop-place.self) (layout c.choose.new.self) c.args.places.now
    c.loop-place.place-index _ c.loop-place.invariant refl c.choose.ensures
