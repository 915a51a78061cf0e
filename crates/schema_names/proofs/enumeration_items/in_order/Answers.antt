use Rattle.std.proofs.Common.{◌∙◌, ap}
use Rattle.express_syntax.specs.Views.{names_of}
use Rattle.schema_names.specs.steps.Enumerated.{includes}
use Rattle.schema_names.proofs.Ordered.{includes-shuffled}
use Rattle.schema_names.proofs.enumeration_items.in_order.Goals as goal

pub returns-clause-same : goal.returns-clause-same
returns-clause-same c n =
    includes-shuffled _ _ c.sort_unstable.ensures.permutation n
    ∙ ap (λ ws. includes (names_of ws) n) c.in_ok-row.ensures.items
