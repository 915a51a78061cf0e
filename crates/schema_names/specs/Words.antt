-- Equality of words as names.
use Rattle.std.specs.Prelude.{Bool, bytes_eq}
use Rattle.step_literals.specs.declared.literal.Word.{Word}
use Rattle.express_syntax.specs.ExpressionViews.{capitals}

-- Words are one name if they differ in the case of letters only (ISO 10303-11, 7.4).
abbrev pub same_word : Word → Word → Bool
same_word v w = bytes_eq (capitals v) (capitals w)
