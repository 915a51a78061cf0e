use Rattle.std.proofs.Common.{ap}
use Rattle.std.proofs.Math.Logic.{∥∥₁_prop}
use Rattle.express_syntax.proofs.tree.SchemaTree.with_other_names.Goals as goal

pub returns : goal.returns
returns c = ap (λ r. record c.args.self { other_names = c.args.names; read = r }) (∥∥₁_prop _ c.args.self.read)
