use Rattle.express_syntax.proofs.UniqueExpressions.{one_tree_at_most}
use Rattle.express_syntax.proofs.expression_laws.an_expression_is_one_tree.Goals as goal

pub returns : goal.returns
returns c = one_tree_at_most
