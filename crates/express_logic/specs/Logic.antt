-- Three-valued logic (ISO 10303-11, 8.1.4 and 12.4).
use Rattle.std.specs.Prelude.{ℕ, Bool, if◌then◌else◌}
use Rattle.express_syntax.specs.declared.expression.Logical.{Logical}
use Rattle.express_syntax.specs.declared.expression.Logical.TheVariants.{False, Unknown, True}

-- NOT (12.4.1)
abbrev pub negated : Logical → Logical
negated False = True
negated Unknown = Unknown
negated True = False

-- AND (12.4.2): FALSE if a side is FALSE, TRUE if both sides are TRUE
abbrev pub both : Logical → Logical → Logical
both False _ = False
both _ False = False
both True True = True
both _ _ = Unknown

-- OR (12.4.3): TRUE if a side is TRUE, FALSE if both sides are FALSE
abbrev pub either : Logical → Logical → Logical
either True _ = True
either _ True = True
either False False = False
either _ _ = Unknown

-- XOR (12.4.4): UNKNOWN if a side is UNKNOWN
abbrev pub exclusive : Logical → Logical → Logical
exclusive Unknown _ = Unknown
exclusive _ Unknown = Unknown
exclusive True p = negated p
exclusive False p = p

-- TRUE if the condition holds, otherwise FALSE
abbrev pub known : Bool → Logical
known holds = if holds then True else False

-- FALSE < UNKNOWN < TRUE (12.2.1.3)
abbrev pub rank : Logical → ℕ
rank False = 0
rank Unknown = 1
rank True = 2
