use Rattle.std.proofs.Common.{length, map}
use Rattle.express_lexer.specs.Reading.{left}
use Rattle.express_syntax.specs.Views.{unique_of}
use Rattle.express_syntax.specs.WrittenSchemas.{words_of_unique}
use Rattle.express_syntax.specs.Profile.{FitsUnique}
use Rattle.express_syntax.specs.steps.Predict.{uniques}
use Rattle.express_entities.specs.steps.EntityParts.{Stand}
use Rattle.express_entities.proofs.clauses.unique_clause.Given as goal

abbrev pub invariant-loop-list : goal.invariant-loop-list
invariant-loop-list l = Stand uniques FitsUnique words_of_unique (map unique_of l.list.items) l.fn.reader l.reader

abbrev pub decreases-loop-list : goal.decreases-loop-list
decreases-loop-list l = length (left l.reader)
