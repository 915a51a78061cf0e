-- The integers of bounds and widths, as functions of their spelling.
use Rattle.std.specs.Prelude.{ℕ, ◌^◌, ℤ, pos, negsuc, ◌*ℤ◌, Bool, ◌&&◌, cond, Option, None, Some, nat_lt, int_div}
use Rattle.std.specs.Ordering.{int_eq}
use Rattle.step_literals.specs.Decimals.{finest, units, turned}
use Rattle.express_syntax.specs.Schemas.{Bound, value, Bounds, Width, width}
use Rattle.express_syntax.specs.Clauses.{is_minus}

-- Whether an integer fits into 64 bits with its sign.
abbrev pub fits : ℤ → Bool
fits (pos n) = nat_lt n (2 ^ 63)
fits (negsuc n) = nat_lt n (2 ^ 63)

-- n if t times n is u and n fits into 64 bits.
abbrev pub if_exact : ℕ → ℤ → ℤ → Option ℤ
if_exact t u n = cond (int_eq (n *ℤ pos t) u && fits n) (Some n) None

abbrev pub quotient : ℕ → ℤ → Option ℤ
quotient t u = if_exact t u (int_div u (pos t))

-- The integer value of a decimal in its finest units, if it is one of 64 bits.
unfoldable pub whole_in : ℤ → Option ℤ
whole_in u = quotient (10 ^ finest) u

abbrev pub bound_in : Bound → Option ℤ
bound_in (value s t) = whole_in (turned (is_minus s) (units t))
bound_in b = None

abbrev pub lower_in : Option Bounds → Option ℤ
lower_in None = None
lower_in (Some b) = bound_in b.lower

abbrev pub upper_in : Option Bounds → Option ℤ
upper_in None = None
upper_in (Some b) = bound_in b.upper

abbrev pub width_in : Width → Option ℤ
width_in (width t) = whole_in (units t)
width_in w = None
