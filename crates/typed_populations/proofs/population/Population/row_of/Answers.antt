use Rattle.typed_populations.proofs.Found.{row-of-name}
use Rattle.typed_populations.proofs.population.Population.row_of.Goals as goal

pub returns-clause-within : goal.returns-clause-within
returns-clause-within c = row-of-name c.args.self.now c.args.name c.find.result c.find.ensures
