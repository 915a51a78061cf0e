use Rattle.std.proofs.Common.{◌∙◌, sym}
use Rattle.typed_populations.proofs.Found.{population-length}
use Rattle.typed_populations.proofs.population.Population.len.Goals as goal

pub returns : goal.returns
returns c = c.len.ensures ∙ sym (population-length c.args.self.now)
