use Rattle.std.proofs.Common.{ap, ◌∙◌}
use Rattle.express_token_runs.specs.steps.Items.{located_of}
use Rattle.express_syntax.specs.steps.Predict.{is_mark}
use Rattle.express_parts.proofs.data_types.is_end.Goals as goal

pub returns : goal.returns
returns c = c.is_mark.ensures ∙ ap (λ m. is_mark m (located_of c.args.item).lookahead) c.mark.ensures
