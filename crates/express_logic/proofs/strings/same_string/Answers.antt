use Rattle.std.proofs.Common.{◌≡◌, ap, ◌∙◌}
use Rattle.std.proofs.lemmas.Iterator.Consumers.{YieldsList-from_first}
use Rattle.express_logic.specs.Comparison.{same_item}
use Rattle.express_logic.specs.steps.Left.{characters_left}
use Rattle.express_logic.specs.Views.{text_of}
use Rattle.express_logic.proofs.Yielding.{eq_from_yields_list, items_same}
use Rattle.express_logic.proofs.strings.same_string.Goals as goal

pub returns : goal.returns
returns c =
    eq_from_yields_list (λ x y. y ≡ x) c.characters-2.result same_item c.eq.result c.eq.ensures.ran
    (YieldsList-from_first (λ x. x) characters_left (text_of c.args.a.now) c.characters.ensures)
    (λ it e. YieldsList-from_first (λ x. x) characters_left (text_of c.args.b.now)
    (ap characters_left e ∙ c.characters-2.ensures))
    (λ x y. items_same x y)
