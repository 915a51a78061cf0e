use Rattle.std.proofs.Common.{length, map}
use Rattle.express_lexer.specs.Reading.{left}
use Rattle.express_syntax.specs.Grammar.{depth_limit}
use Rattle.express_syntax.specs.Views.{inverse_of}
use Rattle.express_syntax.specs.WrittenSchemas.{words_of_inverse}
use Rattle.express_syntax.specs.Profile.{Every, FitsInverse}
use Rattle.express_syntax.specs.Sources.{IsInverseOf}
use Rattle.express_syntax.specs.steps.Predict.{inverses}
use Rattle.express_entities.specs.steps.EntityParts.{Stand}
use Rattle.express_entities.proofs.clauses.inverse_clause.Given as goal

abbrev pub invariant-loop-list : goal.invariant-loop-list
invariant-loop-list l = Stand inverses (FitsInverse depth_limit) words_of_inverse (map inverse_of l.list.items)
    l.fn.reader l.reader × Every (IsInverseOf l.fn.reader.text) l.list.items

abbrev pub decreases-loop-list : goal.decreases-loop-list
decreases-loop-list l = length (left l.reader)
