use Rattle.std.proofs.Common.{◌∙◌, ap}
use Rattle.graphs.specs.Graphs.{has}
use Rattle.graphs.proofs.Found.{has-turned}
use Rattle.population_inverses.proofs.inverses.has_inverse.Goals as goal

pub returns : goal.returns
returns c =
    c.contains.ensures.value ∙ has-turned c.deref.result.now c.args.inverse.now.entity
    ∙ ap (λ row. has row c.args.inverse.now.entity) c.deref.ensures.value
