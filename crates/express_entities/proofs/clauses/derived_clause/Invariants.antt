use Rattle.std.proofs.Common.{length, map}
use Rattle.express_lexer.specs.Reading.{left}
use Rattle.express_syntax.specs.Grammar.{depth_limit}
use Rattle.express_syntax.specs.Views.{derived_of}
use Rattle.express_syntax.specs.WrittenSchemas.{words_of_derived}
use Rattle.express_syntax.specs.Profile.{Every, FitsDerived}
use Rattle.express_syntax.specs.Sources.{IsDerivedOf}
use Rattle.express_syntax.specs.steps.Predict.{derived}
use Rattle.express_entities.specs.steps.EntityParts.{Stand}
use Rattle.express_entities.proofs.clauses.derived_clause.Given as goal

abbrev pub invariant-loop-list : goal.invariant-loop-list
invariant-loop-list l = Stand derived (FitsDerived depth_limit) words_of_derived (map derived_of l.list.items)
    l.fn.reader l.reader × Every (IsDerivedOf l.fn.reader.text) l.list.items

abbrev pub decreases-loop-list : goal.decreases-loop-list
decreases-loop-list l = length (left l.reader)
