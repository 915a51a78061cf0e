use Rattle.express_parts.proofs.DataTypeSources.{set_of}
use Rattle.express_parts.proofs.builders.set.Goals as goal

pub returns-clause-text : goal.returns-clause-text
returns-clause-text c = λ t h i. set_of t c.args.bounds c.args.element h i
