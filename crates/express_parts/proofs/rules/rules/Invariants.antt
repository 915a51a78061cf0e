use Rattle.std.proofs.Common.{length}
use Rattle.express_lexer.specs.Reading.{left}
use Rattle.express_syntax.specs.Views.{rules_of}
use Rattle.express_syntax.specs.Profile.{Every}
use Rattle.express_syntax.specs.Sources.{IsRuleOf}
use Rattle.express_parts.proofs.RuleSteps.{RulesSoFar}
use Rattle.express_parts.proofs.rules.rules.Given as goal

abbrev pub invariant-loop-rules : goal.invariant-loop-rules
invariant-loop-rules l = RulesSoFar l.end (rules_of l.rules.items) l.fn.reader l.reader
    × Every (IsRuleOf l.fn.reader.text) l.rules.items

abbrev pub decreases-loop-rules : goal.decreases-loop-rules
decreases-loop-rules l = length (left l.reader)
