use Rattle.std.proofs.Common.{◌∙◌, refl}
use Rattle.express_lexer.proofs.MeaningLemmas.{none_begun}
use Rattle.express_lexer.proofs.literal.characters.Characters.of_doubled.Goals as goal

pub returns : goal.returns
returns c = c.inside.ensures.left ∙ none_begun _ _ c.args.rest.now refl refl
