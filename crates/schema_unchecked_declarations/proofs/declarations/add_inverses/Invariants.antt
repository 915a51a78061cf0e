use Rattle.std.proofs.Common.{map, take}
use Rattle.express_syntax.specs.ExpressionViews.{capitals}
use Rattle.express_syntax.specs.Views.{inverse_of}
use Rattle.schema_semantics.specs.Parts.{for_each, parts_of_inverse}
use Rattle.schema_unchecked_declarations.specs.UncheckedLists.{Adds, unchecked_in}
use Rattle.schema_unchecked_declarations.proofs.declarations.add_inverses.Given as goal

abbrev pub invariant-loop-inverse : goal.invariant-loop-inverse
invariant-loop-inverse l =
    Adds (for_each (parts_of_inverse (capitals l.holder)) (map inverse_of (take l.inverse-index l.inverses)))
    (unchecked_in l.initial.list.items) (unchecked_in l.list.items)
