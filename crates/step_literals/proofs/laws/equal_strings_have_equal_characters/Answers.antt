use Rattle.step_literals.specs.steps.ItemKeyLemmas.{texts_are_their_items}
use Rattle.step_literals.proofs.laws.equal_strings_have_equal_characters.Goals as goal

pub returns : goal.returns
returns c = texts_are_their_items
