use Rattle.express_parts.proofs.DataTypeSources.{bag_of}
use Rattle.express_parts.proofs.builders.bag.Goals as goal

pub returns-clause-text : goal.returns-clause-text
returns-clause-text c = λ t h i. bag_of t c.args.bounds c.args.element h i
