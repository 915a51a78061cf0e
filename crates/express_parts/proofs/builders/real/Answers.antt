use Rattle.express_parts.proofs.DataTypeSources.{real_of}
use Rattle.express_parts.proofs.builders.real.Goals as goal

pub returns-clause-text : goal.returns-clause-text
returns-clause-text c = λ t h. real_of t c.args.width h
