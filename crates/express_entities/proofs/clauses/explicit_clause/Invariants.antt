use Rattle.std.proofs.Common.{length, map}
use Rattle.express_lexer.specs.Reading.{left}
use Rattle.express_syntax.specs.Grammar.{depth_limit}
use Rattle.express_syntax.specs.Views.{explicit_of}
use Rattle.express_syntax.specs.WrittenSchemas.{words_of_explicit}
use Rattle.express_syntax.specs.Profile.{Every, FitsExplicit}
use Rattle.express_syntax.specs.Sources.{IsExplicitOf}
use Rattle.express_syntax.specs.steps.Predict.{explicits}
use Rattle.express_entities.specs.steps.EntityParts.{Stand}
use Rattle.express_entities.proofs.clauses.explicit_clause.Given as goal

abbrev pub invariant-loop-list : goal.invariant-loop-list
invariant-loop-list l = Stand explicits (FitsExplicit depth_limit) words_of_explicit (map explicit_of l.list.items)
    l.fn.reader l.reader × Every (IsExplicitOf l.fn.reader.text) l.list.items

abbrev pub decreases-loop-list : goal.decreases-loop-list
decreases-loop-list l = length (left l.reader)
