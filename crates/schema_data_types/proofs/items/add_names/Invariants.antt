use Rattle.std.proofs.Common.{◌≡◌, ◌||◌, take}
use Rattle.std.specs.Prelude.{is_some}
use Rattle.indexmap.specs.IndexMap.{get}
use Rattle.step_literals.specs.declared.literal.Word.{Word}
use Rattle.express_syntax.specs.ExpressionViews.{capitals}
use Rattle.express_syntax.specs.Views.{names_of}
use Rattle.schema_names.specs.Words.{same_word}
use Rattle.schema_data_types.specs.steps.Enumerated.{includes}
use Rattle.schema_data_types.proofs.items.add_names.Given as goal

abbrev pub invariant-loop-name : goal.invariant-loop-name
invariant-loop-name l =
    (w : Word) → is_some (get same_word l.known w)
    ≡ (is_some (get same_word l.initial.known w) || includes (names_of (take l.name-index l.names)) (capitals w))
