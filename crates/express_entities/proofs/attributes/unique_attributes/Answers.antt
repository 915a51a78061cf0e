use Rattle.std.proofs.Common.{map}
use Rattle.express_token_runs.specs.steps.Items.{located_of}
use Rattle.express_syntax.specs.Views.{attribute_of}
use Rattle.express_entities.proofs.AttributeSteps.{unique_behind}
use Rattle.express_entities.proofs.attributes.unique_attributes.Goals as goal

pub returns : goal.returns
returns c =
    unique_behind (λ l. map attribute_of l.items) (attribute_of c.args.first) (located_of c.in_ok-next.next)
    c.args.reader.now c.take.new.self c.attributes_of_unique.result c.attributes_of_unique.new.reader
    c.in_ok-next.ensures c.attributes_of_unique.ensures
