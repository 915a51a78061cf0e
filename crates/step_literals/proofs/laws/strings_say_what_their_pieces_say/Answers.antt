use Rattle.std.proofs.Common.{ap}
use Rattle.step_literals.specs.Strings.{clean, content_of}
use Rattle.step_literals.specs.Items.{string_items, items_of}
use Rattle.step_literals.proofs.ItemLemmas.{pieces_read}
use Rattle.step_literals.proofs.laws.strings_say_what_their_pieces_say.Goals as goal

pub returns : goal.returns
unfolding string_items
returns c = λ t ps h. ap (items_of 1) (pieces_read ps (clean (content_of t)) h)
