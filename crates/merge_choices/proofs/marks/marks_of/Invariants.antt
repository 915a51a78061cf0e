use Rattle.std.specs.Prelude.{◌≡◌, map, take}
use Rattle.express_syntax.specs.Views.{declaration_of}
use Rattle.merge_choices.specs.ChosenEntities.{names_of, is_marked}
use Rattle.merge_choices.proofs.marks.marks_of.Given as goal

abbrev pub invariant-loop-declaration : goal.invariant-loop-declaration
invariant-loop-declaration l = l.marks.items
    ≡ map (is_marked (names_of l.names)) (map declaration_of (take l.declaration-index l.declarations))
