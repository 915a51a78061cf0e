use Rattle.std.proofs.Common.{length, map}
use Rattle.express_lexer.specs.Reading.{left}
use Rattle.express_token_runs.specs.steps.Items.{located_of}
use Rattle.express_syntax.specs.Views.{attribute_of}
use Rattle.express_syntax.specs.steps.Predict.{Symbol}
use Rattle.express_entities.specs.steps.Lists.{IsListed, ListsOn}
use Rattle.express_entities.proofs.attributes.attributes.Given as goal

abbrev pub invariant-loop-list : goal.invariant-loop-list
invariant-loop-list l = (y : Symbol) → IsListed y → ListsOn y (attribute_of l.first) (located_of l.next) l.fn.reader
    (map attribute_of l.list.items) (located_of l.item) l.reader

abbrev pub decreases-loop-list : goal.decreases-loop-list
decreases-loop-list l = length (left l.reader)
