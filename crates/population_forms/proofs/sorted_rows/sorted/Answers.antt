use Rattle.population_forms.proofs.Rising.{sorted-is}
use Rattle.population_forms.proofs.sorted_rows.sorted.Goals as goal

pub returns : goal.returns
returns c =
    sorted-is c.args.row.items c.sort_unstable.new.self.items c.dedup.new.self.items c.sort_unstable.ensures.permutation
    c.sort_unstable.ensures.sorted c.dedup.ensures.filtered
