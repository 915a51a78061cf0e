use Rattle.std.proofs.Common.{◌≡◌, map, take}
use Rattle.std.specs.Prelude.{is_some}
use Rattle.indexmap.specs.IndexMap.{get}
use Rattle.step_literals.specs.declared.literal.Word.{Word}
use Rattle.express_syntax.specs.ExpressionViews.{capitals}
use Rattle.express_syntax.specs.Views.{declaration_of}
use Rattle.schema_names.specs.Words.{same_word}
use Rattle.schema_data_types.specs.steps.Enumerated.{includes, all_items}
use Rattle.schema_data_types.proofs.items.Items.of.Given as goal

abbrev pub invariant-loop-declaration : goal.invariant-loop-declaration
invariant-loop-declaration l =
    (w : Word) → is_some (get same_word l.items w)
    ≡ includes (all_items (map declaration_of (take l.declaration-index l.declaration-items))) (capitals w)
