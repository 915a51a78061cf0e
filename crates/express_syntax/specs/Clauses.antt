-- The names of attributes, and the integers of bounds.
use Rattle.std.specs.Prelude.{ℤ, Bool, true, false, Option, Some}
use Rattle.step_literals.specs.Decimals.{units, turned, IsWhole}
use Rattle.express_syntax.specs.declared.expression.Sign.{Sign}
use Rattle.express_syntax.specs.declared.expression.Sign.TheVariants.{Minus}
use Rattle.express_syntax.specs.Schemas.{Bound, value}
use Rattle.step_literals.specs.declared.literal.Word.{Word}
use Rattle.express_syntax.specs.declared.tree.Attribute.{Attribute}
use Rattle.express_syntax.specs.declared.tree.Attribute.TheVariants as attributes

-- an attribute's own name: the last name of `SELF\entity.attribute`
abbrev pub name_of : Attribute → Word
name_of (attributes.Unqualified w) = w
name_of (attributes.Redeclared e w) = w

abbrev pub is_minus : Option Sign → Bool
is_minus (Some Minus) = true
is_minus _ = false

-- the bound is this integer, with its sign (ISO 10303-11, 8.2)
abbrev pub IsInteger : Bound → ℤ → Type 0
IsInteger (value s t) n = IsWhole (turned (is_minus s) (units t)) n
IsInteger _ n = ⊥
