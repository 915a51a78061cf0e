use Rattle.std.proofs.Common.{◌≡◌, map, drop}
use Rattle.indexmap.specs.IndexMap.{get}
use Rattle.step_literals.specs.declared.literal.Word.{Word}
use Rattle.express_syntax.specs.ExpressionViews.{capitals}
use Rattle.express_syntax.specs.Views.{declaration_of as declaration_seen}
use Rattle.schema_names.specs.Words.{same_word}
use Rattle.schema_names.specs.Numbers.{number_from}
use Rattle.schema_names.proofs.names.numbers_of.Given as goal

abbrev pub invariant-loop-i : goal.invariant-loop-i
invariant-loop-i l =
    (w : Word)
    → get same_word l.numbers w ≡ number_from l.i (map declaration_seen (drop l.i l.declarations)) (capitals w)
