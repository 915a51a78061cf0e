use Rattle.express_parts.proofs.DataTypeSources.{list_of}
use Rattle.express_parts.proofs.builders.list.Goals as goal

pub returns-clause-text : goal.returns-clause-text
returns-clause-text c = λ t h i. list_of t c.args.is_unique c.args.bounds c.args.element h i
