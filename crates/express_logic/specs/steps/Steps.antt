-- Steps of the search for an element; no promise stands here.
use Rattle.std.specs.Prelude.{Option, Some, None}
use Rattle.express_syntax.specs.declared.expression.Logical.{Logical}
use Rattle.express_syntax.specs.declared.expression.Logical.TheVariants.{False}
use Rattle.express_logic.specs.Logic.{either}
use Rattle.express_logic.specs.Data.{Datum, Data, none, more}
use Rattle.express_logic.specs.Comparison.{Scalar, scalar, equal_scalars}

-- the comparison with an optional element; FALSE if there is none
abbrev pub equal_in : Scalar → Option Datum → Logical
equal_in s None = False
equal_in s (Some e) = equal_scalars s (scalar e)

-- the OR of the comparisons with each element
abbrev pub among_scalars : Scalar → Data → Logical
among_scalars s none = False
among_scalars s (more e es) = either (equal_scalars s (scalar e)) (among_scalars s es)
