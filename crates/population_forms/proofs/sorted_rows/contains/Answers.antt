use Rattle.std.proofs.Common.{◌∙◌}
use Rattle.std.proofs.lemmas.List.Sorted.{searched}
use Rattle.population_forms.proofs.Rising.{found-is}
use Rattle.population_forms.proofs.sorted_rows.contains.Goals as goal

pub returns : goal.returns
returns c rise =
    c.is_ok.ensures.value
    ∙ found-is c.args.row.now c.args.number c.binary_search.result
    (searched c.args.row.now c.args.number c.binary_search.result c.binary_search.ensures.position
    (λ i j le lt. rise i j 0 le lt))
