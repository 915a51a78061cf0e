use Rattle.express_parts.proofs.DataTypeSources.{array_of}
use Rattle.express_parts.proofs.builders.array.Goals as goal

pub returns-clause-text : goal.returns-clause-text
returns-clause-text c = λ t h i. array_of t c.args.is_optional c.args.is_unique c.args.bounds c.args.element h i
