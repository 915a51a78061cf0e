use Rattle.value_equality.proofs.Settling.{sorted_words}
use Rattle.value_equality.proofs.sorted_types.settle.Goals as goal

pub returns : goal.returns
returns c =
    sorted_words c.args.types.now.items c.sort.new.self.items c.dedup.new.self.items c.in_ok-sort.ensures.permutation
    c.in_ok-sort.ensures.sorted c.dedup.ensures.filtered
