use Rattle.std.proofs.Common.{◌∙◌, ap}
use Rattle.step_literals.specs.Strings.{clean}
use Rattle.step_literals.specs.Items.{string_items}
use Rattle.step_literals.specs.steps.Rests.{clean_items}
use Rattle.step_literals.proofs.literal.Text.items.Goals as goal

pub returns : goal.returns
unfolding string_items
returns c = c.of_content.ensures ∙ ap (λ l. clean_items 1 (clean l)) c.content_of.ensures
