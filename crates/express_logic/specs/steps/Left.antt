-- The characters that iterators over strings still yield; no promise stands here.
use Rattle.std.specs.Prelude.{List}
use Rattle.step_literals.specs.steps.Rests.{items_left}
use Rattle.step_literals.specs.declared.literal.items.Item.{Item}
use Rattle.express_lexer.specs.steps.Left as lexis
use Rattle.express_logic.specs.declared.strings.Characters.{Characters}
use Rattle.express_logic.specs.declared.strings.Characters.TheVariants.{Exchange, Simple, Encoded}

abbrev pub characters_left : Characters → List Item
characters_left (Exchange items) = items_left items
characters_left (Simple characters) = lexis.characters_left characters
characters_left (Encoded codes) = lexis.codes_left codes
