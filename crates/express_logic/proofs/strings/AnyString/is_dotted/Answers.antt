use Rattle.std.proofs.Common.{◌∷◌, ◌++◌}
use Rattle.step_literals.specs.Words.{upper}
use Rattle.express_logic.specs.steps.Left.{characters_left}
use Rattle.express_logic.specs.Views.{text_of}
use Rattle.express_logic.proofs.Taken.{is_whole, isnt_there}
use Rattle.express_logic.proofs.strings.AnyString.is_dotted.Goals as goal

pub returns-then-not-takes_dotted : goal.returns-then-not-takes_dotted
returns-then-not-takes_dotted c =
    isnt_there (text_of c.args.self.now) (characters_left c.characters-characters.result)
    (characters_left c.takes_dotted.new.characters) (upper c.args.first.text.now ++ 46 ∷ upper c.args.second.text.now)
    c.takes_dotted.result c.characters-characters.ensures c.takes_dotted.ensures c.if-not-takes_dotted.true

pub returns : goal.returns
returns c =
    is_whole (text_of c.args.self.now) (characters_left c.characters-characters.result)
    (characters_left c.takes_dotted.new.characters) (characters_left c.next.new.self)
    (upper c.args.first.text.now ++ 46 ∷ upper c.args.second.text.now) c.takes_dotted.result c.is_none.result
    c.next.result c.characters-characters.ensures c.takes_dotted.ensures c.if-not-takes_dotted.false
    c.next.ensures.steps c.is_none.ensures
