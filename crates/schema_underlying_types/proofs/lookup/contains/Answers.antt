use Rattle.std.proofs.Common.{◌∙◌}
use Rattle.std.proofs.lemmas.List.Sorted.{searched}
use Rattle.schema_underlying_types.proofs.Lookups.{found-is}
use Rattle.schema_underlying_types.proofs.lookup.contains.Goals as goal

pub returns : goal.returns
returns c =
    c.is_ok.ensures.value
    ∙ found-is c.args.row.now c.args.number c.binary_search.result
    (searched c.args.row.now c.args.number c.binary_search.result c.binary_search.ensures.position
    (λ i j le lt. c.requires i j 0 le lt))
