-- The kinds of values that can have parts.
use Rattle.std.specs.Prelude.{Bool, true, false}
use Rattle.step_values.specs.declared.slot.Kind.{Kind}
use Rattle.step_values.specs.declared.slot.Kind.TheVariants as kinds

abbrev pub is_of_parts : Kind → Bool
is_of_parts kinds.Typed = true
is_of_parts kinds.List = true
is_of_parts kinds.Bag = true
is_of_parts k = false
