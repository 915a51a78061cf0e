use Rattle.express_syntax.specs.ExpressionViews.{capitals}
use Rattle.schema_unchecked.proofs.rules.is_type_over_select.Goals as goal

pub is_over_select-requires-clause-named : goal.is_over_select-requires-clause-named
is_over_select-requires-clause-named c = (capitals c.args.holder.name, c.requires.number)

pub returns : goal.returns
returns c = c.is_over_select.ensures (capitals c.args.holder.name) c.requires.number
