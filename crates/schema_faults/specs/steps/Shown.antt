-- The result of searching for one fault of names, regardless of the others.
use Rattle.std.specs.Prelude.{Option, None, Some}
use Rattle.step_literals.specs.declared.literal.Word.{Word}
use Rattle.express_syntax.specs.ExpressionViews.{capitals}
use Rattle.express_syntax.specs.Schemas.{Schema}
use Rattle.express_syntax.specs.declared.fault.NameFault.{NameFault}
use Rattle.schema_semantics.specs.Faults.{ShowsAt, IsFreeOf}

-- The first name at which the fault occurs, or `None` if the schema is free of it.
abbrev pub IsShown : Schema → NameFault → Option Word → Type 0
IsShown s f None = IsFreeOf s f
IsShown s f (Some w) = ShowsAt s f (capitals w)
