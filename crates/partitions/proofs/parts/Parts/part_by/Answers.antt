use Rattle.std.proofs.lemmas.Result.{on_ok_weaker}
use Rattle.partitions.specs.Views.{layout}
use Rattle.partitions.proofs.Sets.{parted_by_chosen}
use Rattle.partitions.proofs.parts.Parts.part_by.Goals as goal

pub returns : goal.returns
returns c =
    on_ok_weaker c.part_chosen.result
    (parted_by_chosen (layout c.args.self.now) (layout c.choose_all.new.self) (layout c.part_chosen.new.self)
    c.args.places.now c.choose_all.ensures) c.part_chosen.ensures
